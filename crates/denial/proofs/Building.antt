-- The steps of the loops over rows and over sections.
-- Assumes nothing.
use mathlib.Core.Path.{◌≡◌, refl, sym, ap, ap₂, ◌∙◌, subst}
use mathlib.Core.Bool.{Bool, true, false, cond}
use mathlib.Core.List.{List, [], ◌∷◌, ◌++◌}
use Prim.Native.Nat.{ℕ, zero, suc, ◌+◌, ◌*◌, ◌-◌, ◌/◌, ◌%◌, ◌≤◌, ◌<◌}
use native.Mathlib.Numerals.{add-one}
use native.Mathlib.Nat.{mul-div_cancel_left, sub-zero}
use native.Mathlib.Omega.{arith}
use lib.ListN.{length, get_or, length-append, length-map, replicate}
use lib.Dec.{eqb, ltb}
use borrow.Author.Tests.{lt-ltb, le-ltb, eq-eqb, ne_eqb, eqb-true}
use Rattle.scenario.specs.Rows.{Row, point, next, last, earlier, later, before, apart, same, free, within, outside, event, denying_rows, denying_free, End, start, close, inner, end}
use Rattle.scenario.specs.Reading.{All}
use Rattle.row.specs.declared.Line.{Line}
use Rattle.row.specs.Row.{row_in}
use Rattle.row.specs.Memory.{put, lay, line_in, lines_in}
use Rattle.sheet.specs.Count.{weight, weigh_line, weighed, product}
use Rattle.order.specs.Ending.{far_in}
use Rattle.introduction.specs.Bringing.{NoneBefore, uses, marked, brought}
use Rattle.denial.specs.Build.{line_from, own, denied, denial_from, chosen_from, of_section, built}
use Rattle.row.proofs.Memory.{lay_append}
use Rattle.introduction.proofs.Bringing.{brought-short}

-- A denial's own rows are at most three

all_get_d : {A : Type 0} (P : A → Type 0) (d : A) (l : List A) → All P l → P d → (j : ℕ) → P (get_or l j d)
all_get_d P d [] a p j = p
all_get_d P d (x ∷ l) a p zero = a.0
all_get_d P d (x ∷ l) a p (suc j) = all_get_d P d l a.1 p j

abbrev Short : List Row → Type 0
Short d = length d ≤ 3

free_own : (r p q s : ℕ) (x y : End) → All Short (denying_free r p q s x y)
unfolding denying_free
free_own r p q s start start = tt
free_own r p q s start close = (omega arith, tt)
free_own r p q s start inner = (omega arith, tt)
free_own r p q s close start = (omega arith, tt)
free_own r p q s close close = tt
free_own r p q s close inner = (omega arith, tt)
free_own r p q s inner start = (omega arith, tt)
free_own r p q s inner close = (omega arith, tt)
free_own r p q s inner inner = (omega arith, (omega arith, tt))

row-own : (z s : ℕ) (r : Row) → All Short (denying_rows z s r)
unfolding denying_rows
row-own z s (point p a) = tt
row-own z s (next p q a) = (omega arith, tt)
row-own z s (last p q a) = (omega arith, tt)
row-own z s (earlier p q a) = tt
row-own z s (later p q a) = tt
row-own z s (before p q) = (omega arith, (omega arith, tt))
row-own z s (apart p q) = (omega arith, tt)
row-own z s (same p q) = (omega arith, tt)
row-own z s (free p q a) = free_own s p q a (end p) (end q)
row-own z s (within p q lo hi) = (omega arith, tt)
row-own z s (outside p q lo hi) = (omega arith, tt)
row-own z s (event p a) = (omega arith, tt)

pub own-short : (far : ℕ) (l : Line) (v : ℕ) → length (own far l v) ≤ 3
unfolding own
own-short far l v =
    let d = get_or (denying_rows far (10 * l.section + 9) (row_in l)) v [] in
    let h : length d ≤ 3 = all_get_d Short [] (denying_rows far (10 * l.section + 9) (row_in l)) (row-own far (10 * l.section + 9) (row_in l)) (omega arith) v in
    omega (arith, h, length-map d (line_from l.section))

pub denied-short : (m : List ℕ) (n i v : ℕ) → length (denied m n i v) ≤ i + 3
unfolding denied
denied-short m n i v =
    omega (
      arith,
      length-append (brought m (line_in m i).section (marked (replicate 100 0) (uses (line_in m i))) i) (own (far_in m n (line_in m i)) (line_in m i) v),
      brought-short m (line_in m i).section i (marked (replicate 100 0) (uses (line_in m i))),
      own-short (far_in m n (line_in m i)) (line_in m i) v,
    )

pub denial_short : (m : List ℕ) (n s left i j : ℕ) → length (denial_from m n s i left j) ≤ i + left + 3
unfolding denial_from
denial_short m n s zero i j = omega arith
denial_short m n s (suc left) i j = go (ltb j (weigh_line s (line_in m i))) (denial_short m n s left (suc i) (j - weigh_line s (line_in m i)))
  where
    go : (b : Bool) → length (denial_from m n s (suc i) left (j - weigh_line s (line_in m i))) ≤ suc i + left + 3
        → length (cond b (denied m n i j) (denial_from m n s (suc i) left (j - weigh_line s (line_in m i)))) ≤ i + suc left + 3
    go true h = omega (arith, denied-short m n i j)
    go false h = omega (arith, h)

-- A row that counts for a section is of it
pub counts : (s v : ℕ) (l : Line) → v < weigh_line s l → (l.section ≡ s) × (v < weight l.kind l.p l.q)
unfolding weigh_line
counts s v l h = go (eqb l.section s) refl h
  where
    go : (b : Bool) → eqb l.section s ≡ b → v < cond b (weight l.kind l.p l.q) 0 → (l.section ≡ s) × (v < weight l.kind l.p l.q)
    go true e h = (eqb-true l.section s e, h)
    go false e h = absurd (omega arith)

pub counts_own : (s v : ℕ) (l : Line) → v < weigh_line s l → v < weigh_line l.section l
counts_own s v l h = subst (λ (x : ℕ). v < weigh_line x l) (sym (counts s v l h).0) h

-- The loop over a section's rows
module _ (m : List ℕ) (s i n j : ℕ) where
  pub section-hit : i < n → j < weigh_line s (line_in m i) → denied m n i j ≡ denial_from m n s i (n - i) j
  unfolding denial_from
  section-hit h w = let e : n - i ≡ suc (n - (i + 1)) = omega arith in rw e (simp (lt-ltb j (weigh_line s (line_in m i)) w))

  pub section-on : i < n → weigh_line s (line_in m i) ≤ j → denial_from m n s (i + 1) (n - (i + 1)) (j - weigh_line s (line_in m i)) ≡ denial_from m n s i (n - i) j
  unfolding denial_from
  section-on h w = let e : n - i ≡ suc (n - (i + 1)) = omega arith in rw (e, add-one i) (simp (le-ltb j (weigh_line s (line_in m i)) w))

  pub section-end : n ≤ i → denial_from m n s i (n - i) j ≡ []
  unfolding denial_from
  section-end h = let e : n - i ≡ 0 = omega arith in rw e

-- the rows before a section's first have no denials of it
weighs_nothing : (s : ℕ) (l : Line) → (l.section ≡ s → ⊥) → weigh_line s l ≡ 0
unfolding weigh_line
weighs_nothing s l e = simp (ne_eqb l.section s e)

pub section-from : (m : List ℕ) (s from n j : ℕ) → NoneBefore m s from → from ≤ n → denial_from m n s from (n - from) j ≡ denial_from m n s 0 n j
section-from m s zero n j f h = rw sub-zero
section-from m s (suc i) n j f h =
    let w = weighs_nothing s (line_in m i) (f i (omega arith)) in
    let one : suc i ≡ i + 1 = omega arith in
    let same : j ≡ j - weigh_line s (line_in m i) = omega (arith, w) in
    rw one (ap (denial_from m n s (i + 1) (n - (i + 1))) same ∙ section-on m s i n j (omega arith) (omega (arith, w)) ∙ section-from m s i n j (λ k l. f k (omega arith)) (omega arith))

-- what is there is the whole, or nothing is left
module _ (at : ℕ) (out : List ℕ) (xs ys : List Line) (e : xs ≡ ys) where
  pub same_rows : (r : ℕ) (o : List ℕ) → r ≡ at + length xs → o ≡ lay at xs out → (r ≡ at + length ys) × (o ≡ lay at ys out)
  same_rows r o a b = (a ∙ ap (λ (l : List Line). at + length l) e, b ∙ ap (λ (l : List Line). lay at l out) e)

pub no_rows : (at : ℕ) (out o : List ℕ) (ys : List Line) → [] ≡ ys → o ≡ out → (at ≡ at + length ys) × (o ≡ lay at ys out)
unfolding lay
no_rows at out o ys e z = rw (sym e) (omega arith, z)

-- The loop over the antecedent's rows
module _ (m : List ℕ) (s i n : ℕ) (h : i < n) where
  abbrev rest : List Line
  rest = of_section s (lines_in m (i + 1) (n - (i + 1)))

  copy_skip : ((line_in m i).section ≡ s → ⊥) → of_section s (lines_in m i (n - i)) ≡ rest
  unfolding of_section lines_in
  copy_skip ne = let e : n - i ≡ suc (n - (i + 1)) = omega arith in rw (e, add-one i) (simp (ne_eqb (line_in m i).section s ne))

  copy_take : (line_in m i).section ≡ s → of_section s (lines_in m i (n - i)) ≡ line_in m i ∷ rest
  unfolding of_section lines_in
  copy_take y = let e : n - i ≡ suc (n - (i + 1)) = omega arith in rw (e, add-one i) (simp (eq-eqb (line_in m i).section s y))

  module _ (l : Line) (is : l ≡ line_in m i) (at : ℕ) (out : List ℕ) where
    pub copy_skips : (l.section ≡ s → ⊥) → of_section s (lines_in m i (n - i)) ≡ rest
    copy_skips ne = copy_skip (λ y. ne (ap (λ (x : Line). x.section) is ∙ y))

    pub copy_adds : (o : List ℕ) → l.section ≡ s → o ≡ put at l out
        → (lay (at + 1) rest o ≡ lay at (of_section s (lines_in m i (n - i))) out) × (at + 1 + length rest ≡ at + length (of_section s (lines_in m i (n - i))))
    unfolding lay
    copy_adds o y p =
        let t : of_section s (lines_in m i (n - i)) ≡ l ∷ rest = copy_take (sym (ap (λ (x : Line). x.section) is) ∙ y) ∙ ap (λ (x : Line). x ∷ rest) (sym is) in
        rw (t, add-one at, p) (refl, omega arith)

pub copy_end : (m : List ℕ) (s i n : ℕ) → n ≤ i → of_section s (lines_in m i (n - i)) ≡ []
unfolding of_section lines_in
copy_end m s i n h = let e : n - i ≡ 0 = omega arith in rw e

pub copy_short : (m : List ℕ) (s left i : ℕ) → length (of_section s (lines_in m i left)) ≤ left
unfolding of_section lines_in
copy_short m s zero i = omega arith
copy_short m s (suc left) i = go (eqb (line_in m i).section s) (copy_short m s left (suc i))
  where
    go : (b : Bool) → length (of_section s (lines_in m (suc i) left)) ≤ left
        → length (cond b (line_in m i ∷ of_section s (lines_in m (suc i) left)) (of_section s (lines_in m (suc i) left))) ≤ suc left
    go true h = omega arith
    go false h = omega arith

-- The loop over the sections
module _ (m : List ℕ) (n s k : ℕ) (h : s ≤ k) where
  abbrev ls : List Line
  ls = lines_in m 0 n

  abbrev after : ℕ
  after = product (s + 1) (k + 1 - (s + 1)) ls

  product_is : product s (k + 1 - s) ls ≡ weighed s ls * after
  unfolding product
  product_is = let e : k + 1 - s ≡ suc (k + 1 - (s + 1)) = omega arith in rw (e, add-one s)

  factor : (a b : ℕ) → 1 ≤ a * b → 1 ≤ a
  factor zero b h = omega arith
  factor (suc a) b h = omega arith

  factor' : (a b : ℕ) → 1 ≤ a * b → 1 ≤ b
  factor' a zero h = omega arith
  factor' a (suc b) h = omega arith

  module _ (t w : ℕ) (e : t ≡ product s (k + 1 - s) ls) (f : w ≡ weighed s ls) (p : 1 ≤ t) where
    much : 1 ≤ weighed s ls * after
    much = subst (λ (x : ℕ). 1 ≤ x) (e ∙ product_is) p

    pub weighs : 1 ≤ w
    weighs = subst (λ (x : ℕ). 1 ≤ x) (sym f) (factor (weighed s ls) after much)

    pub total-step : t / w ≡ after
    total-step = ap₂ ◌/◌ (e ∙ product_is) f ∙ mul-div_cancel_left after (factor (weighed s ls) after much)

    pub total-low : 1 ≤ t / w
    total-low = subst (λ (x : ℕ). 1 ≤ x) (sym total-step) (factor' (weighed s ls) after much)

  chosen_is : (j : ℕ) → chosen_from m n s (k + 1 - s) j ≡ denial_from m n s 0 n (j / after) ++ chosen_from m n (s + 1) (k + 1 - (s + 1)) (j % after)
  unfolding chosen_from
  chosen_is j = let e : k + 1 - s ≡ suc (k + 1 - (s + 1)) = omega arith in rw (e, add-one s)

  pub section-done : (j t at at' : ℕ) (out out' : List ℕ) → t ≡ after → at' ≡ at + length (denial_from m n s 0 n (j / t)) → out' ≡ lay at (denial_from m n s 0 n (j / t)) out
      → (lay at' (chosen_from m n (s + 1) (k + 1 - (s + 1)) (j % t)) out' ≡ lay at (chosen_from m n s (k + 1 - s) j) out)
      × (at' + length (chosen_from m n (s + 1) (k + 1 - (s + 1)) (j % t)) ≡ at + length (chosen_from m n s (k + 1 - s) j))
  section-done j t at at' out out' e a o = (
    rw (chosen_is j, a, o, e) (sym (lay_append (denial_from m n s 0 n (j / after)) (chosen_from m n (s + 1) (k + 1 - (s + 1)) (j % after)) at out)),
    rw (chosen_is j, a, e) (omega (arith, length-append (denial_from m n s 0 n (j / after)) (chosen_from m n (s + 1) (k + 1 - (s + 1)) (j % after)))),
  )

pub sections-end : (m : List ℕ) (n s k j : ℕ) → k + 1 ≤ s → chosen_from m n s (k + 1 - s) j ≡ []
unfolding chosen_from
sections-end m n s k j h = let e : k + 1 - s ≡ 0 = omega arith in rw e

-- the rows of the whole
pub built_memory : (m : List ℕ) (n k j at : ℕ) (out o : List ℕ) → at ≡ length (of_section 0 (lines_in m 0 n)) → o ≡ lay 0 (of_section 0 (lines_in m 0 n)) out
    → (lay at (chosen_from m n 1 k j) o ≡ lay 0 (built m n k j) out) × (at + length (chosen_from m n 1 k j) ≡ length (built m n k j))
unfolding built
built_memory m n k j at out o a p =
    let z : 0 + length (of_section 0 (lines_in m 0 n)) ≡ length (of_section 0 (lines_in m 0 n)) = omega arith in (
      rw (a, p) (sym (lay_append (of_section 0 (lines_in m 0 n)) (chosen_from m n 1 k j) 0 out ∙ rw z)),
      rw a (sym (length-append (of_section 0 (lines_in m 0 n)) (chosen_from m n 1 k j))),
    )

pub copy_done : (at : ℕ) (out o : List ℕ) (xs ys : List Line) → xs ≡ [] → lay at xs o ≡ lay 0 ys out → at + length xs ≡ length ys → (at ≡ length ys) × (o ≡ lay 0 ys out)
unfolding lay
copy_done at out o xs ys e a b = (omega (arith, b, ap length e), sym (ap (λ (l : List Line). lay at l o) e) ∙ a)

pub same-rows_from : (at : ℕ) (out out' : List ℕ) (xs ys : List Line) → xs ≡ ys → out' ≡ out → (r : ℕ) (o : List ℕ) → r ≡ at + length xs → o ≡ lay at xs out' → (r ≡ at + length ys) × (o ≡ lay at ys out)
same-rows_from at out out' xs ys e z r o a b = (a ∙ ap (λ (l : List Line). at + length l) e, b ∙ ap₂ (λ (l : List Line) (x : List ℕ). lay at l x) e z)

-- denial v of row i
module _ (m : List ℕ) (n i v : ℕ) (line : Line) (l : line ≡ line_in m i) where
  pub row_counts : v < weigh_line (line_in m i).section (line_in m i) → v < weight line.kind line.p line.q
  row_counts h = subst (λ (x : Line). v < weight x.kind x.p x.q) (sym l) (counts (line_in m i).section v (line_in m i) h).1

  pub row-section : (line_in m i).section ≤ 100 → line.section ≤ 100
  row-section h = subst (λ (x : Line). x.section ≤ 100) (sym l) h

  pub row_done : (far : ℕ) → far ≡ far_in m n line → (at end r : ℕ) (marks out out' o : List ℕ) → marks ≡ marked (replicate 100 0) (uses line) → end ≡ at + length (brought m line.section marks i)
      → out' ≡ lay at (brought m line.section marks i) out → r ≡ end + length (own far line v) → o ≡ lay end (own far line v) out'
      → (r ≡ at + length (denied m n i v)) × (o ≡ lay at (denied m n i v) out)
  unfolding denied
  row_done far d at end r marks out out' o k e a f b =
      let bs = brought m (line_in m i).section (marked (replicate 100 0) (uses (line_in m i))) i in
      let same : brought m line.section marks i ≡ bs = rw (k, l) in
      let own_is : own far line v ≡ own (far_in m n (line_in m i)) (line_in m i) v = rw (d, l) in
      let e' : end ≡ at + length bs = e ∙ ap (λ (x : List Line). at + length x) same in (
        omega (arith, f, e', ap length own_is, length-append bs (own (far_in m n (line_in m i)) (line_in m i) v)),
        b ∙ ap (λ (x : List Line). lay end x out') own_is ∙ rw (e', a, same) (sym (lay_append bs (own (far_in m n (line_in m i)) (line_in m i) v) at out)),
      )
