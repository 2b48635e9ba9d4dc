-- Renumbering: a renumbered row is met as the row is under the positions that its points have by their new numbers; and moves from section to section.
-- Assumes nothing.
use mathlib.Core.Path.{◌≡◌, refl, sym, ◌∙◌, ap, subst}
use mathlib.Core.Logic.{◌⊎◌, inl, inr, ⊎_elim}
use mathlib.Core.Bool.{Bool, ◌&&◌, cond}
use mathlib.Core.List.{List, [], ◌∷◌, map}
use Prim.Native.Nat.{ℕ, zero, suc, ◌+◌, ◌-◌, ◌*◌, ◌≤◌, ◌<◌}
use native.Mathlib.Omega.{arith}
use lib.ListN.{length, get_or}
use lib.Dec.{ltb, leb, eqb, lt→ltb, le→leb, ltb→lt, leb→le, eqb→eq, not_T}
use Rattle.scenario.specs.Rows.{Row, point, next, last, earlier, later, before, apart, same, free, within, outside, event, Run, Env, meets, introduced, needs, points}
use Rattle.scenario.specs.Sheet.{Sheet}
use Rattle.scenario.specs.Reading.{All, Seen, first, final, antecedent, own, RowsRead, SectionsRead, SheetRead}
use Rattle.scenario.specs.Renumber.{move, renamed}
use Rattle.scenario.proofs.Base.{both, pair, tell, is_true, is_false, eq→eqb, neq→neqb, neqb→neq, all_map, elem_at, all-elem}
use Rattle.scenario.proofs.Agreement.{Base, is-start, is-close, is-antecedent}
use Rattle.scenario.proofs.Reading.{short, counted-all, sound}
use Rattle.scenario.proofs.Patterns.{step-few}

-- Rows

-- the positions that points have by their new numbers
abbrev pub under : (ℕ → ℕ) → Env → Env
under f e = λ m. e (f m)

pub meets-renamed : (run : Run) (e : Env) (f : ℕ → ℕ) (k : Row) → meets run e (renamed f k) ≡ meets run (under f e) k
unfolding meets
meets-renamed run e f (point p s) = refl
meets-renamed run e f (next p q s) = refl
meets-renamed run e f (last p q s) = refl
meets-renamed run e f (earlier p q a) = refl
meets-renamed run e f (later p q a) = refl
meets-renamed run e f (before p q) = refl
meets-renamed run e f (apart p q) = refl
meets-renamed run e f (same p q) = refl
meets-renamed run e f (free p q s) = refl
meets-renamed run e f (within p q lo hi) = refl
meets-renamed run e f (outside p q lo hi) = refl
meets-renamed run e f (event p s) = refl

pub renamed-not : (k : Row) → renamed (λ m. m) k ≡ k
renamed-not (point p s) = refl
renamed-not (next p q s) = refl
renamed-not (last p q s) = refl
renamed-not (earlier p q a) = refl
renamed-not (later p q a) = refl
renamed-not (before p q) = refl
renamed-not (apart p q) = refl
renamed-not (same p q) = refl
renamed-not (free p q s) = refl
renamed-not (within p q lo hi) = refl
renamed-not (outside p q lo hi) = refl
renamed-not (event p s) = refl

module _ (f : ℕ → ℕ) where
  pub needs-renamed : (k : Row) → needs (renamed f k) ≡ map f (needs k)
  needs-renamed (point p s) = refl
  needs-renamed (next p q s) = refl
  needs-renamed (last p q s) = refl
  needs-renamed (earlier p q a) = refl
  needs-renamed (later p q a) = refl
  needs-renamed (before p q) = refl
  needs-renamed (apart p q) = refl
  needs-renamed (same p q) = refl
  needs-renamed (free p q s) = refl
  needs-renamed (within p q lo hi) = refl
  needs-renamed (outside p q lo hi) = refl
  needs-renamed (event p s) = refl

  pub introduced-renamed : (k : Row) → introduced (renamed f k) ≡ map f (introduced k)
  introduced-renamed (point p s) = refl
  introduced-renamed (next p q s) = refl
  introduced-renamed (last p q s) = refl
  introduced-renamed (earlier p q a) = refl
  introduced-renamed (later p q a) = refl
  introduced-renamed (before p q) = refl
  introduced-renamed (apart p q) = refl
  introduced-renamed (same p q) = refl
  introduced-renamed (free p q s) = refl
  introduced-renamed (within p q lo hi) = refl
  introduced-renamed (outside p q lo hi) = refl
  introduced-renamed (event p s) = refl

-- the row's points are such
abbrev pub Such : (ℕ → Type 0) → Row → Type 0
Such P k = All P (needs k) × All P (introduced k)

pub such_map : {P Q : ℕ → Type 0} → ((m : ℕ) → P m → Q m) → (rows : List Row) → All (Such P) rows → All (Such Q) rows
such_map f rows h = all_map (λ k s. (all_map f (needs k) s.0, all_map f (introduced k) s.1)) rows h

-- A renumbering that takes the row's points back gives the row back.
pub renamed-back : (f g : ℕ → ℕ) (k : Row) → Such (λ (m : ℕ). g (f m) ≡ m) k → renamed g (renamed f k) ≡ k
renamed-back f g (point p s) h = let a = h.1.0 in cc
renamed-back f g (next p q s) h = let a = h.1.0 in let b = h.0.0 in cc
renamed-back f g (last p q s) h = let a = h.1.0 in let b = h.0.0 in cc
renamed-back f g (earlier p q x) h = let a = h.1.0 in let b = h.0.0 in let c = h.0.1.0 in cc
renamed-back f g (later p q x) h = let a = h.1.0 in let b = h.0.0 in let c = h.0.1.0 in cc
renamed-back f g (before p q) h = let a = h.0.0 in let b = h.0.1.0 in cc
renamed-back f g (apart p q) h = let a = h.0.0 in let b = h.0.1.0 in cc
renamed-back f g (same p q) h = let a = h.0.0 in let b = h.0.1.0 in cc
renamed-back f g (free p q s) h = let a = h.0.0 in let b = h.0.1.0 in cc
renamed-back f g (within p q lo hi) h = let a = h.0.0 in let b = h.0.1.0 in cc
renamed-back f g (outside p q lo hi) h = let a = h.0.0 in let b = h.0.1.0 in cc
renamed-back f g (event p s) h = let a = h.0.0 in cc

-- Different points keep different numbers: then they are told apart as before.
pub eqb-renamed : (f : ℕ → ℕ) (P : ℕ → Type 0) → ((a b : ℕ) → P a → P b → f a ≡ f b → a ≡ b) → (a b : ℕ) → P a → P b → eqb (f a) (f b) ≡ eqb a b
eqb-renamed f P one a b h k =
    ⊎_elim (λ t. is_true (eqb (f a) (f b)) (eq→eqb (f a) (f b) (ap f (eqb→eq a b t))) ∙ sym (is_true (eqb a b) t))
    (λ n. is_false (eqb (f a) (f b)) (neq→neqb (f a) (f b) (λ q. neqb→neq a b n (one a b h k q))) ∙ sym (is_false (eqb a b) n))
    (tell (eqb a b))

-- Moves

module _ (j i m : ℕ) where
  -- whether the section's
  abbrev own? : Bool
  own? = ltb (10 * j) m && leb m (10 * j + 9)

  pub move-own : 10 * j < m → m ≤ 10 * j + 9 → move j i m ≡ m - 10 * j + 10 * i
  unfolding move
  move-own a b = ap (λ (x : Bool). cond x (m - 10 * j + 10 * i) m) (is_true own? (pair (ltb (10 * j) m) (leb m (10 * j + 9)) (lt→ltb (10 * j) m a) (le→leb m (10 * j + 9) b)))

  pub move_off : (10 * j < m → m ≤ 10 * j + 9 → ⊥) → move j i m ≡ m
  unfolding move
  move_off h =
      ap (λ (x : Bool). cond x (m - 10 * j + 10 * i) m) (is_false own? (not_T own?
      (λ t. let b = both (ltb (10 * j) m) (leb m (10 * j + 9)) t in h (ltb→lt (10 * j) m b.0) (leb→le m (10 * j + 9) b.1))))

-- a point that every section may use
pub data Common (m : ℕ) : Type 0 where
  fixed-start : m ≡ 0 → Common m
  fixed-close : m ≡ 99 → Common m
  antecedent-point : 1 ≤ m → m ≤ 9 → Common m

-- what a row of section j may name, and the spare point
abbrev pub Named : ℕ → ℕ → Type 0
Named j m = Common m ⊎ ((10 * j < m) × (m ≤ 10 * j + 9))

module _ (j i : ℕ) (jl : 1 ≤ j) (jh : j ≤ 6) where
  pub move_common : (m : ℕ) → Common m → move j i m ≡ m
  move_common m (fixed-start q) = move_off j i m (λ h k. omega arith)
  move_common m (fixed-close q) = move_off j i m (λ h k. omega arith)
  move_common m (antecedent-point l h) = move_off j i m (λ u k. omega arith)

  pub move-spare : move j i (10 * j + 9) ≡ 10 * i + 9
  move-spare = move-own j i (10 * j + 9) (omega arith) (omega arith) ∙ omega arith

  module _ (il : 1 ≤ i) (ih : i ≤ 6) where
    apart_common : (a x : ℕ) → Common a → 10 * i < x → x ≤ 10 * i + 9 → a ≡ x → ⊥
    apart_common a x (fixed-start q) l h e = omega arith
    apart_common a x (fixed-close q) l h e = omega arith
    apart_common a x (antecedent-point u v) l h e = omega arith

    -- different points come to different numbers
    pub move-one : (a b : ℕ) → Named j a → Named j b → move j i a ≡ move j i b → a ≡ b
    move-one a b (inl x) (inl y) q = sym (move_common a x) ∙ q ∙ move_common b y
    move-one a b (inl x) (inr y) q =
        absurd (apart_common a (b - 10 * j + 10 * i) x (omega (arith, y.0)) (omega (arith, y.1)) (sym (move_common a x) ∙ q ∙ move-own j i b y.0 y.1))
    move-one a b (inr x) (inl y) q =
        absurd (apart_common b (a - 10 * j + 10 * i) y (omega (arith, x.0)) (omega (arith, x.1)) (sym (move_common b y) ∙ sym q ∙ move-own j i a x.0 x.1))
    move-one a b (inr x) (inr y) q = omega (arith, q, x.0, y.0, move-own j i a x.0 x.1, move-own j i b y.0 y.1)

    -- and back
    pub move-back : (m : ℕ) → Named j m → move i j (move j i m) ≡ m
    move-back m (inl c) = ap (move i j) (move_common m c) ∙ move_off i j m (λ a b. apart_common m m c a b refl)
    move-back m (inr o) =
        ap (move i j) (move-own j i m o.0 o.1) ∙ move-own i j (m - 10 * j + 10 * i) (omega (arith, o.0)) (omega (arith, o.1)) ∙ omega (arith, o.0)

    -- a point is common, or neither it nor its new number is
    pub common_or_not : (m : ℕ) → Named j m → Common m ⊎ ((Common m → ⊥) × (Common (move j i m) → ⊥))
    common_or_not m (inl c) = inl c
    common_or_not m (inr h) = inr (
      (λ c. outside_common j (omega arith) jh m c h.0 h.1),
      (λ c. outside_common i il ih (m - 10 * j + 10 * i) (subst Common (move-own j i m h.0 h.1) c) (omega (arith, h.0)) (omega (arith, h.1))),
    )
      where
        outside_common : (i : ℕ) → 1 ≤ i → i ≤ 6 → (x : ℕ) → Common x → 10 * i < x → x ≤ 10 * i + 9 → ⊥
        outside_common i l h x (fixed-start q) a b = omega arith
        outside_common i l h x (fixed-close q) a b = omega arith
        outside_common i l h x (antecedent-point u v) a b = omega arith

-- What reading has seen

pub base_common : (sheet : Sheet) → SheetRead sheet → (m : ℕ) → Base sheet m → Common m
base_common sheet R m (is-start q) = fixed-start q
base_common sheet R m (is-close q) = fixed-close q
base_common sheet R m (is-antecedent t) =
    let h = elem_at (λ (p : ℕ). (0 < p) × (p ≤ 0 + length (points sheet.antecedent))) m (points sheet.antecedent) t (counted-all 0 (points sheet.antecedent) R.numbers) in
    antecedent-point (omega (arith, h.0)) (omega (arith, h.1, R.few))

module _ (sheet : Sheet) (R : SheetRead sheet) where
  pub antecedent_common : All (λ (k : Row). All Common (needs k)) sheet.antecedent
  antecedent_common = all_map (λ k u. all_map (base_common sheet R) (needs k) u) sheet.antecedent (sound sheet R).uses

  pub antecedent_points_common : All Common (points sheet.antecedent)
  antecedent_points_common = all-elem Common (points sheet.antecedent) (λ m t. base_common sheet R m (is-antecedent t))

seen_named : (a i c m : ℕ) → a ≤ 4 → c ≤ 8 → Seen a i c m → Named i m
seen_named a i c m h k (first q) = inl (fixed-start q)
seen_named a i c m h k (final q) = inl (fixed-close q)
seen_named a i c m h k (antecedent l u) = inl (antecedent-point l (omega arith))
seen_named a i c m h k (own l u) = inr (l, omega arith)

rows_named : (a i c : ℕ) (rs : List Row) → a ≤ 4 → c ≤ 8 → RowsRead a i c rs → All (Such (Named i)) rs
rows_named a i c [] h k R = tt
rows_named a i c (x ∷ rs) h k R = (
  (all_map (λ m s. seen_named a i c m h k s) (needs x) R.0.known, all_map (λ m d. inr (omega (arith, d.0), omega (arith, d.0, d.1))) (introduced x) R.0.due),
  rows_named a i (length (introduced x) + c) rs h (step-few c (10 * i + c + 1) (introduced x) (short x) R.0.due k) R.1,
)

sections_named : (a i : ℕ) (cs : List (List Row)) → a ≤ 4 → SectionsRead a i cs → (p : ℕ) → p < length cs → All (Such (Named (i + p))) (get_or cs p [])
sections_named a i [] h R p b = absurd (omega arith)
sections_named a i (c ∷ cs) h R zero b = let q : i ≡ i + 0 = omega arith in subst (λ (x : ℕ). All (Such (Named x)) c) q (rows_named a i 0 c h (omega arith) R.0)
sections_named a i (c ∷ cs) h R (suc p) b =
    let q : suc i + p ≡ i + suc p = omega arith in subst (λ (x : ℕ). All (Such (Named x)) (get_or cs p [])) q (sections_named a (suc i) cs h R.1 p (omega arith))

-- The rows of the consequent at place p name common points, and those of its section.
pub consequent_named : (sheet : Sheet) → SheetRead sheet → (p : ℕ) → p < length sheet.consequents → All (Such (Named (suc p))) (get_or sheet.consequents p [])
consequent_named sheet R p b =
    let q : 1 + p ≡ suc p = omega arith in
    subst (λ (x : ℕ). All (Such (Named x)) (get_or sheet.consequents p [])) q
    (sections_named (length (points sheet.antecedent)) 1 sheet.consequents R.few R.consequents p b)
