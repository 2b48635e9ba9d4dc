-- The walk over an array of positions is the scenario's walk, and what it leaves in the array.
-- Assumes nothing.
use mathlib.Core.Path.{◌≡◌, refl, sym, ◌∙◌, ap, subst}
use mathlib.Core.Logic.{◌⊎◌, inl, inr, ⊎_elim}
use mathlib.Core.Bool.{Bool, true, false, ◌||◌}
use mathlib.Core.Option.{Option, none, some}
use mathlib.Core.List.{List, [], ◌∷◌, ◌++◌, map}
use Prim.Native.Nat.{ℕ, suc, ◌+◌, ◌-◌, ◌*◌, ◌≤◌, ◌<◌, min, max}
use native.Mathlib.Numerals.{add-one}
use native.Mathlib.Omega.{arith}
use lib.ListN.{length, get_or, set, length-set}
use lib.Seq.{get_or-set_same, get_or-set_other}
use lib.Dec.{T, eqb, eqb→eq}
use borrow.Author.Tests.{eq-eqb, ne_eqb}
use Rattle.scenario.specs.Rows.{Row, point, next, last, earlier, later, before, apart, same, free, within, outside, event, Run, Env, meets, introduced, needs, points, elem}
use Rattle.scenario.specs.Walk.{placing, lowest_above, highest_below, onto, stay, advance, Walk, through, stops, later_stop, walk}
use Rattle.scenario.specs.Sheet.{Sheet}
use Rattle.scenario.specs.Search.{faults}
use Rattle.scenario.specs.Fields.{Tagged, tagged, tag}
use Rattle.scenario.proofs.Base.{tell, is_true, is_false, neqb→neq, Order, lower, level, upper, order, all_map, all_append, all-front, all_back, all-at, all-elem, Up, Down, scan_up, scan_down}
use Rattle.scenario.specs.Reading.{All}
use Rattle.scenario.proofs.Rules.{Laws, meets-same}
use Rattle.scenario.proofs.Section.{Known, Fits, Ready, all_of_map}
use Rattle.scenario.proofs.Glue.{Section, Sections}
use Rattle.scenario.proofs.Agreement.{Base}
use Rattle.scenario.proofs.Reading.{sound}
use Rattle.row.proofs.Memory.{listed_mem}
use Rattle.row.specs.Memory.{section_at, row_at, tag_at, tags_of}
use Rattle.pattern.specs.Placing.{by}
use Rattle.consequent.specs.Walk.{onto_in, stay_in, advance_in, or_keep, onward, fault_in, Elsewhere, Kept}
use Rattle.sheet.specs.Held.{sheet_at, SheetHeld}
use Rattle.consequent.proofs.Advancing.{advance_leaves}

-- the row's number where the walk stops, j rows standing before; 0 where it goes through
abbrev pub number : ℕ → Walk → ℕ
number j (through e) = 0
number j (stops k) = j + k + 1

number_later : (j : ℕ) (v : Walk) → number (suc j) v ≡ number j (later_stop v)
number_later j (through e) = refl
number_later j (stops k) = omega arith

module _ (run : Run) (L : Laws run) (base : ℕ → Type 0) (r : ℕ) where
  -- the array and the environment agree on what is known
  abbrev pub Agrees : List Row → List ℕ → Env → Type 0
  Agrees ks E e = (m : ℕ) → Known base ks m → get_or E m 0 ≡ e m

  abbrev Alike : List Row → Option (List ℕ) → Option Env → Type 0
  Alike ks none none = Unit {0}
  Alike ks none (some e) = ⊥
  Alike ks (some E) none = ⊥
  Alike ks (some E) (some e) = (length E ≡ 100) × Agrees ks E e

  module _ (ks : List Row) (E : List ℕ) (e : Env) (l : length E ≡ 100) (A : Agrees ks E e) where
    -- a point placed
    placed : (p x : ℕ) → p < 100 → (m : ℕ) → base m ⊎ T (eqb m p || elem m (points ks)) → get_or (set E p x) m 0 ≡ placing e p x m
    unfolding placing
    placed p x h m k =
        ⊎_elim
        (λ t. rw (is_true (eqb m p) t) (ap (λ (z : ℕ). get_or (set E p x) z 0) (eqb→eq m p t) ∙ get_or-set_same E p x 0 (omega arith)))
        (λ n. rw (is_false (eqb m p) n) (get_or-set_other E p m x 0 (neqb→neq m p n) ∙ A m (⊎_elim inl (λ t. inr (rw (is_false (eqb m p) n) at t)) k)))
        (tell (eqb m p))

    put : (k : Row) (p x : ℕ) → introduced k ≡ p ∷ [] → p < 100 → Alike (k ∷ ks) (some (set E p x)) (some (placing e p x))
    unfolding points elem
    put k p x i h = (length-set E p x ∙ l, λ m b. placed p x h m (⊎_elim inl (λ t. inr (subst (λ (z : List ℕ). T (elem m (z ++ points ks))) i t)) b))

    found : (k : Row) (p : ℕ) → introduced k ≡ p ∷ [] → p < 100 → (o : Option ℕ) → Alike (k ∷ ks) (onto_in E p o) (onto e p o)
    found k p i h none = tt
    found k p i h (some x) = put k p x i h

    stayed : (k : Row) → introduced k ≡ [] → (b c : Bool) → b ≡ c → Alike (k ∷ ks) (stay_in b E) (stay c e)
    unfolding points
    stayed k i true true q = (l, λ m b. A m (⊎_elim inl (λ t. inr (subst (λ (z : List ℕ). T (elem m (z ++ points ks))) i t)) b))
    stayed k i false false q = tt
    stayed k i true false q = let z : ◌≡◌ {A = ℕ} 0 1 = cc in absurd (omega arith)
    stayed k i false true q = let z : ◌≡◌ {A = ℕ} 0 1 = cc in absurd (omega arith)

    -- a test is passed by both or by none
    tested : (k : Row) → Fits base r ks k → introduced k ≡ [] → Alike (k ∷ ks) (stay_in (meets run (by E) k) E) (stay (meets run e k) e)
    tested k f i =
        stayed k i (meets run (by E) k) (meets run e k)
        (meets-same run (by E) e k (all_map A (needs k) f.known) (subst (All (λ (m : ℕ). get_or E m 0 ≡ e m)) (sym i) tt))

    -- One row further.
    alike : (k : Row) → Fits base r ks k → All (λ (p : ℕ). p < 100) (introduced k) → Alike (k ∷ ks) (advance_in run E k) (advance run e k)
    unfolding advance_in advance
    alike (point p s) f h = tt
    alike (next p q s) f h =
        rw (A q f.known.0) (found (next p q s) p refl h.0 (lowest_above (run.has s) (e q) (run.lines - e q)))
    alike (last p q s) f h =
        rw (A q f.known.0) (found (last p q s) p refl h.0 (highest_below (run.has s) (e q)))
    alike (earlier p q a) f h = rw (A q f.known.0, A a f.known.1.0) (put (earlier p q a) p (min (e q) (e a)) refl h.0)
    alike (later p q a) f h = rw (A q f.known.0, A a f.known.1.0) (put (later p q a) p (max (e q) (e a)) refl h.0)
    alike (before p q) f h = tested (before p q) f refl
    alike (apart p q) f h = tested (apart p q) f refl
    alike (same p q) f h = tested (same p q) f refl
    alike (free p q s) f h = tested (free p q s) f refl
    alike (within p q lo hi) f h = tested (within p q lo hi) f refl
    alike (outside p q lo hi) f h = tested (outside p q lo hi) f refl
    alike (event p s) f h = tested (event p s) f refl

  -- The rows of section i, with other sections' rows behind them.
  module _ (i : ℕ) (rest : List Tagged) (none-there : (E : List ℕ) (j : ℕ) → fault_in run i E j rest ≡ 0) where
    own : (rs ks : List Row) → Ready base r ks rs → All (λ (p : ℕ). p < 100) (points rs) → (E : List ℕ) (e : Env) → length E ≡ 100 → Agrees ks E e
        → (j : ℕ) → fault_in run i E j (map (tag i) rs ++ rest) ≡ number j (walk run e rs)
    unfolding fault_in walk points
    own [] ks f h E e l A j = none-there E j
    own (k ∷ rs) ks f h E e l A j =
        rw (eq-eqb i i refl)
        (go (advance_in run E k) (advance run e k) (alike ks E e l A k f.0 (all-front (λ (p : ℕ). p < 100) (introduced k) (points rs) h))
        (λ E' e' l' A'. own rs (k ∷ ks) f.1 (all_back (λ (p : ℕ). p < 100) (introduced k) (points rs) h) E' e' l' A' (suc j)))
      where
        go : (O : Option (List ℕ)) (o : Option Env) → Alike (k ∷ ks) O o
            → ((E' : List ℕ) (e' : Env) → length E' ≡ 100 → Agrees (k ∷ ks) E' e' → fault_in run i E' (suc j) (map (tag i) rs ++ rest) ≡ number (suc j) (walk run e' rs))
            → onward O (suc j) (λ E'. fault_in run i E' (suc j) (map (tag i) rs ++ rest)) ≡ number j (elim o [ none ↦ stops 0 | some e' ↦ later_stop (walk run e' rs) ])
        go none none a f = omega arith
        go none (some e') a f = absurd a
        go (some E') none a f = absurd a
        go (some E') (some e') a f = f E' e' a.0 a.1 ∙ number_later j (walk run e' rs)

-- Other sections' rows are passed.
module _ (run : Run) where
  pub over : (i s : ℕ) → (s ≡ i → ⊥) → (rs : List Row) (rest : List Tagged) (E : List ℕ) (j : ℕ) → fault_in run i E j (map (tag s) rs ++ rest) ≡ fault_in run i E (j + length rs) rest
  unfolding fault_in
  over i s n [] rest E j = let e : j + length {A = Row} [] ≡ j = omega arith in rw e
  over i s n (k ∷ rs) rest E j =
      let e : suc j + length rs ≡ j + length (k ∷ rs) = omega arith in
      rw (ne_eqb s i n) (over i s n rs rest E (suc j) ∙ ap (λ (z : ℕ). fault_in run i E z rest) e)

  pub none_later : (i s : ℕ) → i < s → (cs : List (List Row)) (E : List ℕ) (j : ℕ) → fault_in run i E j (tagged s cs) ≡ 0
  unfolding tagged fault_in
  none_later i s h [] E j = refl
  none_later i s h (c ∷ cs) E j = over i s (λ e. omega arith) c (tagged (suc s) cs) E j ∙ none_later i (suc s) (omega arith) cs E (j + length c)

empty : (m : ℕ) → T (elem m (points [])) → ⊥
unfolding points elem
empty m t = t

-- The consequents
module _ (run : Run) (ts : List Tagged) where
  -- of the sections from c + 1 on the rows in ts are those of cs, after o others
  abbrev pub Behind : (c o : ℕ) → List (List Row) → Type 0
  Behind c o cs = (i : ℕ) → c < i → (E : List ℕ) → fault_in run i E 0 ts ≡ fault_in run i E o (tagged (suc c) cs)

  pub next-behind : (c o : ℕ) (x : List Row) (cs : List (List Row)) → Behind c o (x ∷ cs) → Behind (suc c) (o + length x) cs
  unfolding tagged
  next-behind c o x cs B i h F = B i (omega arith) F ∙ over run i (suc c) (λ q. omega arith) x (tagged (suc (suc c)) cs) F o

  pub first-behind : (sheet : Sheet) → ts ≡ tagged 0 (sheet.antecedent ∷ sheet.consequents) → Behind 0 (length sheet.antecedent) sheet.consequents
  unfolding tagged
  first-behind sheet et i h F = let z : 0 + length sheet.antecedent ≡ length sheet.antecedent = omega arith in
      ap (fault_in run i F 0) et ∙ over run i 0 (λ q. omega arith) sheet.antecedent (tagged 1 sheet.consequents) F 0 ∙ ap (λ (k : ℕ). fault_in run i F k (tagged 1 sheet.consequents)) z

module _ (run : Run) (L : Laws run) (base : ℕ → Type 0) (ts : List Tagged) where
  pub section_at_lem : (E : List ℕ) (e : Env) → length E ≡ 100 → ((m : ℕ) → base m → get_or E m 0 ≡ e m)
      → (c o : ℕ) (x : List Row) (cs : List (List Row)) → Behind run ts c o (x ∷ cs) → c < 6 → Section base (suc c) x
      → fault_in run (suc c) E 0 ts ≡ number o (walk run e x)
  unfolding tagged
  section_at_lem E e l A c o x cs B h X =
      B (suc c) (omega arith) E
      ∙ own run L base (10 * suc c + 9) (suc c) (tagged (suc (suc c)) cs) (none_later run (suc c) (suc (suc c)) (omega arith) cs) x [] X.ready
      (all_map (λ p q. omega (arith, q.high)) (points x) X.home) E e l (λ m k. ⊎_elim (λ b. A m b) (λ t. absurd (empty m t)) k) o

  -- two arrays that agree on the base say the same of each section
  sections-same : (E E' : List ℕ) → length E ≡ 100 → length E' ≡ 100 → ((m : ℕ) → base m → get_or E' m 0 ≡ get_or E m 0)
      → (cs : List (List Row)) (c o : ℕ) → Behind run ts c o cs → c + length cs ≤ 6 → Sections base (suc c) cs
      → (i : ℕ) → c ≤ i → i < c + length cs → fault_in run (suc i) E' 0 ts ≡ fault_in run (suc i) E 0 ts
  sections-same E E' l l' A [] c o B h X i low high = absurd (omega arith)
  sections-same E E' l l' A (x ∷ cs) c o B h X i low high =
      go (order c i) (λ q. sections-same E E' l l' A cs (suc c) (o + length x) (next-behind run ts c o x cs B) (omega arith) X.1 i q (omega arith))
    where
      go : Order c i → (c < i → fault_in run (suc i) E' 0 ts ≡ fault_in run (suc i) E 0 ts) → fault_in run (suc i) E' 0 ts ≡ fault_in run (suc i) E 0 ts
      go (lower q) f = f q
      go (level q) f = subst (λ (z : ℕ). fault_in run (suc z) E' 0 ts ≡ fault_in run (suc z) E 0 ts) q
          (section_at_lem E' (by E) l' A c o x cs B (omega arith) X.0 ∙ sym (section_at_lem E (by E) l (λ m b. refl) c o x cs B (omega arith) X.0))
      go (upper q) f = absurd (omega arith)

-- one row for each consequent
pub faults-length : (run : Run) (sheet : Sheet) (xs : List ℕ) (cs : List (List Row)) (o : ℕ) → length (faults run sheet xs o cs) ≡ length cs
unfolding faults
faults-length run sheet xs [] o = refl
faults-length run sheet xs (c ∷ cs) o = ap suc (faults-length run sheet xs cs (o + length c))

-- What the walks leave as it was

-- The rows of sections introduce no point of the base.
module _ (base : ℕ → Type 0) (m : ℕ) (b : base m) where
  rows_elsewhere : (i r : ℕ) (ks rs : List Row) → Ready base r ks rs → All (Elsewhere m) (map (tag i) rs)
  rows_elsewhere i r ks [] f = tt
  rows_elsewhere i r ks (k ∷ rs) f = (λ s. all_map (λ p v e. v.0 (inl (subst base e b))) (introduced k) f.0.new, rows_elsewhere i r (k ∷ ks) rs f.1)

  sections_elsewhere : (i : ℕ) (cs : List (List Row)) → Sections base i cs → All (Elsewhere m) (tagged i cs)
  unfolding tagged
  sections_elsewhere i [] X = tt
  sections_elsewhere i (c ∷ cs) X =
      all_append (Elsewhere m) (map (tag i) c) (tagged (suc i) cs)
      (rows_elsewhere i (10 * i + 9) [] c X.0.ready) (sections_elsewhere (suc i) cs X.1)

-- nothing is done, and one thing after another
pub kept-all : (ts : List Tagged) (E : List ℕ) → Kept ts E E
kept-all ts E = record { size = refl; same = λ m o. refl }

pub kept_on : (ts : List Tagged) (E E' E'' : List ℕ) → Kept ts E E' → Kept ts E' E'' → Kept ts E E''
kept_on ts E E' E'' K K' = record { size = K'.size ∙ K.size; same = λ m o. K'.same m o ∙ K.same m o }

-- row j of consequent c + 1
pub row_keeps : (run : Run) (rows : List ℕ) (count : ℕ) (E E' : List ℕ) (j c s : ℕ) → j < count → s ≡ section_at rows j → s ≡ c + 1 → E' ≡ or_keep E (advance_in run E (row_at rows j))
    → Kept (tags_of rows count) E E'
unfolding tags_of
row_keeps run rows count E E' j c s h es sc ee = record {
  size = left (λ (z : List ℕ). length z ≡ length E) refl (λ x. all-elem (λ (p : ℕ). length (set E p x) ≡ length E) (introduced (row_at rows j)) (λ p t. length-set E p x));
  same = λ m o. left (λ (z : List ℕ). get_or z m 0 ≡ get_or E m 0) refl
      (λ x. all_map (λ p n. get_or-set_other E p m x 0 n) (introduced (row_at rows j)) (all-at (Elsewhere m) (listed_mem (tag_at rows) 0 count j (omega arith) (omega arith)) o (λ z. omega arith)));
}
  where
    left : (P : List ℕ → Type 0) → P E → ((x : ℕ) → All (λ (p : ℕ). P (set E p x)) (introduced (row_at rows j))) → P E'
    left P was f = subst P (sym ee) (advance_leaves run E P was (row_at rows j) f)

-- Of a sheet in memory
module _ (rows : List ℕ) (count k : ℕ) (S : SheetHeld rows count k) where
  abbrev sheet : Sheet
  sheet = sheet_at rows count k

  abbrev ts : List Tagged
  ts = tags_of rows count

  pub base_elsewhere : (m : ℕ) → Base sheet m → All (Elsewhere m) ts
  unfolding tagged
  base_elsewhere m b = subst (All (Elsewhere m)) (sym S.tags)
      (all_append (Elsewhere m) (map (tag 0) sheet.antecedent) (tagged 1 sheet.consequents)
      (all_of_map (Elsewhere m) (tag 0) sheet.antecedent (all_map (λ r u n. absurd (n refl)) sheet.antecedent (sound sheet S.read).uses))
      (sections_elsewhere (Base sheet) m b 1 sheet.consequents (sound sheet S.read).sections))

  -- a consequent is walked over what the others left as over the array at the start
  pub fault-same : (run : Run) → Laws run → (E E' : List ℕ) → length E ≡ 100 → Kept ts E E' → (c : ℕ) → c < k → fault_in run (c + 1) E' 0 ts ≡ fault_in run (c + 1) E 0 ts
  fault-same run L E E' l K c h = rw (add-one c)
      (sections-same run L (Base sheet) ts E E' l (K.size ∙ l) (λ m b. K.same m (base_elsewhere m b)) sheet.consequents 0 (length sheet.antecedent)
      (first-behind run ts sheet S.tags) (omega (arith, S.read.count)) (sound sheet S.read).sections c (omega arith) (omega (arith, S.consequents)))
