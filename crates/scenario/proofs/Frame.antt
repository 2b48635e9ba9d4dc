-- The walk over a consequent goes by the points that its rows use: placements that agree on these walk alike, under whatever numbers, so that with one of them
-- all extend.
-- Assumes nothing.
use mathlib.Core.Path.{◌≡◌, refl, sym, ◌∙◌, ap, ap₂, subst}
use mathlib.Core.Bool.{Bool, true, false, not, ◌&&◌, cond}
use mathlib.Core.Option.{Option, none, some}
use mathlib.Core.List.{List, [], ◌∷◌, map}
use Prim.Native.Nat.{ℕ, zero, suc, ◌-◌, min, max}
use native.Mathlib.Omega.{arith}
use lib.ListN.{length, get_or, take, drop}
use lib.Dec.{T, eqb, T_not, not_T}
use Rattle.scenario.specs.Rows.{Row, point, next, last, earlier, later, before, apart, same, free, within, outside, event, Run, Env, meets, introduced, needs, points, elem}
use Rattle.scenario.specs.Walk.{placing, lowest_above, highest_below, onto, stay, advance, Walk, through, stops, later_stop, walk}
use Rattle.scenario.specs.Sheet.{Sheet, lookup, env, all, matching}
use Rattle.scenario.specs.Search.{stopped, place_of, is_violating}
use Rattle.scenario.specs.Reading.{All}
use Rattle.scenario.specs.Renumber.{renamed}
use Rattle.scenario.proofs.Base.{both, left, right, is_false, all_map, all-elem}
use Rattle.scenario.proofs.Rules.{meets-same}
use Rattle.scenario.proofs.Section.{Same}
use Rattle.scenario.proofs.Renumber.{under, meets-renamed, renamed-not}

-- Where a walk ends: at the place of a row, or at none.
abbrev ending : Walk → Option ℕ
ending (through e) = none
ending (stops j) = some j

abbrev one_later : Option ℕ → Option ℕ
one_later none = none
one_later (some j) = some (suc j)

ending_later : (v : Walk) → ending (later_stop v) ≡ one_later (ending v)
ending_later (through e) = refl
ending_later (stops j) = refl

-- it stops by its end, and there
abbrev is_some : Option ℕ → Bool
is_some none = false
is_some (some j) = true

abbrev place_in : Option ℕ → ℕ
place_in none = 0
place_in (some j) = j

stopped_by : (v : Walk) → stopped v ≡ is_some (ending v)
stopped_by (through e) = refl
stopped_by (stops j) = refl

place-by : (v : Walk) → place_of v ≡ place_in (ending v)
place-by (through e) = refl
place-by (stops j) = refl

-- The frame: D has the points that the rows use and I those that they introduce; f gives them other numbers, and tells them apart as they were.
module _ (run : Run) (f : ℕ → ℕ) (D I : ℕ → Type 0) (tells : (m p : ℕ) → D m → I p → eqb (f m) (f p) ≡ eqb m p) where
  -- the points have, under their new numbers, the positions that they had
  abbrev pub Kept : Env → Env → Type 0
  Kept e e' = Same D (under f e) e'

  abbrev Alike : Option Env → Option Env → Type 0
  Alike none none = Unit {0}
  Alike none (some e) = ⊥
  Alike (some e) none = ⊥
  Alike (some e) (some e') = Kept e e'

  module _ (e e' : Env) (A : Kept e e') where
    placed : (p x : ℕ) → I p → Kept (placing e (f p) x) (placing e' p x)
    unfolding placing
    placed p x i m d = ap₂ (λ b y. cond b x y) (tells m p d i) (A m d)

    found : (p : ℕ) (o : Option ℕ) → I p → Alike (onto e (f p) o) (onto e' p o)
    found p none i = tt
    found p (some x) i = placed p x i

    stayed : (b c : Bool) → b ≡ c → Alike (stay b e) (stay c e')
    stayed true true q = A
    stayed false false q = tt
    stayed true false q = let z : ◌≡◌ {A = ℕ} 0 1 = cc in absurd (omega arith)
    stayed false true q = let z : ◌≡◌ {A = ℕ} 0 1 = cc in absurd (omega arith)

    tested : (k : Row) → introduced k ≡ [] → All D (needs k) → Alike (stay (meets run e (renamed f k)) e) (stay (meets run e' k) e')
    tested k i d =
        stayed (meets run e (renamed f k)) (meets run e' k)
        (meets-renamed run e f k ∙ meets-same run (under f e) e' k (all_map A (needs k) d) (subst (All (λ (m : ℕ). e (f m) ≡ e' m)) (sym i) tt))

    -- one row further
    alike : (k : Row) → All D (needs k) → All I (introduced k) → Alike (advance run e (renamed f k)) (advance run e' k)
    unfolding advance
    alike (point p s) d i = tt
    alike (next p q s) d i = rw (A q d.0) (found p (lowest_above (run.has s) (e' q) (run.lines - e' q)) i.0)
    alike (last p q s) d i = rw (A q d.0) (found p (highest_below (run.has s) (e' q)) i.0)
    alike (earlier p q a) d i = rw (A q d.0, A a d.1.0) (placed p (min (e' q) (e' a)) i.0)
    alike (later p q a) d i = rw (A q d.0, A a d.1.0) (placed p (max (e' q) (e' a)) i.0)
    alike (before p q) d i = tested (before p q) refl d
    alike (apart p q) d i = tested (apart p q) refl d
    alike (same p q) d i = tested (same p q) refl d
    alike (free p q s) d i = tested (free p q s) refl d
    alike (within p q lo hi) d i = tested (within p q lo hi) refl d
    alike (outside p q lo hi) d i = tested (outside p q lo hi) refl d
    alike (event p s) d i = tested (event p s) refl d

  abbrev pub Framed : Row → Type 0
  Framed k = All D (needs k) × All I (introduced k)

  walk_ends : (rs : List Row) → All Framed rs → (e e' : Env) → Kept e e' → ending (walk run e (map (renamed f) rs)) ≡ ending (walk run e' rs)
  unfolding walk
  walk_ends [] h e e' A = refl
  walk_ends (k ∷ rs) h e e' A = go (advance run e (renamed f k)) (advance run e' k) (alike e e' A k h.0.0 h.0.1) (λ g g' B. walk_ends rs h.1 g g' B)
    where
      go : (o o' : Option Env) → Alike o o' → ((g g' : Env) → Kept g g' → ending (walk run g (map (renamed f) rs)) ≡ ending (walk run g' rs))
          → ending (elim o [ none ↦ stops 0 | some g ↦ later_stop (walk run g (map (renamed f) rs)) ]) ≡ ending (elim o' [ none ↦ stops 0 | some g ↦ later_stop (walk run g rs) ])
      go none none a r = refl
      go none (some g) a r = absurd a
      go (some g) none a r = absurd a
      go (some g) (some g') a r = ending_later (walk run g (map (renamed f) rs)) ∙ ap one_later (r g g' a) ∙ sym (ending_later (walk run g' rs))

  -- A walk over renumbered rows stops where the walk over the rows does.
  pub stopped-renamed : (rs : List Row) → All Framed rs → (e e' : Env) → Kept e e' → stopped (walk run e (map (renamed f) rs)) ≡ stopped (walk run e' rs)
  stopped-renamed rs h e e' A =
      stopped_by (walk run e (map (renamed f) rs)) ∙ ap is_some (walk_ends rs h e e' A) ∙ sym (stopped_by (walk run e' rs))

  pub place-renamed : (rs : List Row) → All Framed rs → (e e' : Env) → Kept e e' → place_of (walk run e (map (renamed f) rs)) ≡ place_of (walk run e' rs)
  place-renamed rs h e e' A = place-by (walk run e (map (renamed f) rs)) ∙ ap place_in (walk_ends rs h e e' A) ∙ sym (place-by (walk run e' rs))

-- Under the numbers that they have, whatever is introduced.

as_they_are : (rs : List Row) → map (renamed (λ m. m)) rs ≡ rs
as_they_are [] = refl
as_they_are (k ∷ rs) = ap₂ (λ x xs. x ∷ xs) (renamed-not k) (as_they_are rs)

pub walk_same : (run : Run) (D : ℕ → Type 0) (rs : List Row) → All (λ (k : Row). All D (needs k)) rs → (e e' : Env) → Same D e e' → stopped (walk run e rs) ≡ stopped (walk run e' rs)
walk_same run D rs h e e' A =
    ap (λ (l : List Row). stopped (walk run e l)) (sym (as_they_are rs))
    ∙ stopped-renamed run (λ m. m) D (λ p. Unit {0}) (λ m p d i. refl) rs (all_map (λ k d. (d, all-elem (λ p. Unit {0}) (introduced k) (λ p t. tt))) rs h) e e' A

-- Placements that agree on the first j points give the points that are not behind these the same positions.

pub lookup-none : (ps xs : List ℕ) (m : ℕ) → (T (elem m ps) → ⊥) → lookup ps xs m ≡ 0
unfolding lookup elem
lookup-none [] xs m h = refl
lookup-none (p ∷ ps) [] m h = refl
lookup-none (p ∷ ps) (x ∷ xs) m h =
    rw (is_false (eqb m p) (not_T (eqb m p) (λ t. h (left (eqb m p) (elem m ps) t)))) (lookup-none ps xs m (λ t. h (right (eqb m p) (elem m ps) t)))

lookup-same : (j : ℕ) (ps xs ys : List ℕ) (m : ℕ) → take j xs ≡ take j ys → length xs ≡ length ys → (T (elem m (drop j ps)) → ⊥) → lookup ps xs m ≡ lookup ps ys m
unfolding lookup
lookup-same zero ps xs ys m e l h = lookup-none ps xs m h ∙ sym (lookup-none ps ys m h)
lookup-same (suc j) [] xs ys m e l h = refl
lookup-same (suc j) (p ∷ ps) [] [] m e l h = refl
lookup-same (suc j) (p ∷ ps) [] (y ∷ ys) m e l h = absurd (omega arith)
lookup-same (suc j) (p ∷ ps) (x ∷ xs) [] m e l h = absurd (omega arith)
lookup-same (suc j) (p ∷ ps) (x ∷ xs) (y ∷ ys) m e l h =
    let a : x ≡ y = ap (λ (z : List ℕ). get_or z 0 0) e in
    let b : take j xs ≡ take j ys = ap (drop 1) e in
    ap (λ (z : ℕ). cond (eqb m p) z (lookup ps xs m)) a ∙ ap (cond (eqb m p) y) (lookup-same j ps xs ys m b (omega arith) h)

pub env-same : (run : Run) (j : ℕ) (ps xs ys : List ℕ) → take j xs ≡ take j ys → length xs ≡ length ys → Same (λ (m : ℕ). T (elem m (drop j ps)) → ⊥) (env run ps xs) (env run ps ys)
unfolding env
env-same run j ps xs ys e l m h = ap (λ (z : ℕ). cond (eqb m 0) 0 (cond (eqb m 99) (suc run.lines) z)) (lookup-same j ps xs ys m e l h)

-- One of the consequents extends xs, and its rows use none of the antecedent's points behind the first j: no placement that agrees with xs on these is violating.
module _ (run : Run) (sheet : Sheet) (xs : List ℕ) (j : ℕ) (c : List Row)
    (inside : (f : List Row → Bool) → T (all f sheet.consequents) → T (f c))
    (uses : All (λ (k : Row). All (λ (m : ℕ). T (elem m (drop j (points sheet.antecedent))) → ⊥) (needs k)) c)
    (met : T (not (stopped (walk run (env run (points sheet.antecedent) xs) c)))) where
  abbrev stuck : (ys : List ℕ) → List Row → Bool
  stuck ys d = stopped (walk run (env run (points sheet.antecedent) ys) d)

  pub extend_alike : (ys : List ℕ) → take j ys ≡ take j xs → length ys ≡ length xs → T (not (is_violating run sheet ys))
  unfolding is_violating
  extend_alike ys e l = not_T (matching run sheet.antecedent ys && all (stuck ys) sheet.consequents)
      (λ t. T_not (stuck xs c) met
      (subst T
      (walk_same run (λ (m : ℕ). T (elem m (drop j (points sheet.antecedent))) → ⊥) c uses (env run (points sheet.antecedent) ys) (env run (points sheet.antecedent) xs) (env-same run j (points sheet.antecedent) ys xs e l))
      (inside (stuck ys) (both (matching run sheet.antecedent ys) (all (stuck ys) sheet.consequents) t).1)))
