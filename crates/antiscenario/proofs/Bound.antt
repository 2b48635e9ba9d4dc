-- An antiscenario has at most as many rows as its sheet and three more for each consequent.
-- Assumes nothing.
use mathlib.Core.Path.{◌≡◌, refl, ap, ap₂, ◌∙◌, subst}
use mathlib.Core.Bool.{Bool, true, false, cond, ◌&&◌}
use mathlib.Core.List.{List, [], ◌∷◌, ◌++◌}
use Prim.Native.Nat.{ℕ, zero, suc, ◌+◌, ◌*◌, ◌-◌, ◌/◌, ◌%◌, ◌≤◌, ◌<◌}
use native.Mathlib.Omega.{arith}
use lib.ListN.{length, get_or, length-append, replicate}
use lib.Dec.{eqb, leb, ltb}
use borrow.Author.Tests.{eq-eqb, ne_eqb, ltb-true}
use Rattle.scenario.proofs.Base.{Order, lower, level, upper, order}
use Rattle.row.specs.Memory.{line_in, lines_in}
use Rattle.sheet.specs.Count.{weigh_line, product}
use Rattle.order.specs.Ending.{far_in}
use Rattle.introduction.specs.Bringing.{uses, marked, wanted, brought}
use Rattle.denial.specs.Build.{own, denied, denial_from, chosen_from, of_section, built}
use Rattle.denial.proofs.Building.{own-short, counts}

-- how many of the first i rows are of section s
unfoldable tally : (m : List ℕ) (s i : ℕ) → ℕ
tally m s zero = 0
tally m s (suc i) = cond (eqb (line_in m i).section s) (suc (tally m s i)) (tally m s i)

-- the same of sections s, s + 1, ..
unfoldable sum : (m : List ℕ) (n s left : ℕ) → ℕ
sum m n s zero = 0
sum m n s (suc left) = tally m s n + sum m n (suc s) left

module _ (m : List ℕ) where
  tally_up : (s i d : ℕ) → tally m s i ≤ tally m s (d + i)
  unfolding tally
  tally_up s i zero = let e : 0 + i ≡ i = omega arith in rw e (omega arith)
  tally_up s i (suc d) = let e : suc d + i ≡ suc (d + i) = omega arith in rw e (go (eqb (line_in m (d + i)).section s) (tally_up s i d))
    where
      go : (b : Bool) → tally m s i ≤ tally m s (d + i) → tally m s i ≤ cond b (suc (tally m s (d + i))) (tally m s (d + i))
      go true h = omega arith
      go false h = h

  brought-few : (s i : ℕ) (marks : List ℕ) → length (brought m s marks i) ≤ tally m s i
  unfolding brought tally wanted
  brought-few s zero marks = omega arith
  brought-few s (suc i) marks = go (eqb (line_in m i).section s) (leb 1 (line_in m i).kind && leb (line_in m i).kind 5 && eqb (get_or marks (line_in m i).p 0) 1) (brought-few s i)
    where
      go : (b c : Bool) → ((marks : List ℕ) → length (brought m s marks i) ≤ tally m s i)
          → length (cond (b && c) (brought m s (marked marks (uses (line_in m i))) i ++ (line_in m i ∷ [])) (brought m s marks i)) ≤ cond b (suc (tally m s i)) (tally m s i)
      go true true f = omega (arith, f (marked marks (uses (line_in m i))), length-append (brought m s (marked marks (uses (line_in m i))) i) (line_in m i ∷ []))
      go true false f = omega (arith, f marks)
      go false c f = f marks

  tally_not : (s n : ℕ) → ((line_in m n).section ≡ s → ⊥) → tally m s (suc n) ≡ tally m s n
  unfolding tally
  tally_not s n h = simp (ne_eqb (line_in m n).section s h)

  tally_one : (s n : ℕ) → (line_in m n).section ≡ s → tally m s (suc n) ≡ suc (tally m s n)
  unfolding tally
  tally_one s n h = simp (eq-eqb (line_in m n).section s h)

  sum_not : (n left s : ℕ) → (line_in m n).section < s → sum m (suc n) s left ≡ sum m n s left
  unfolding sum
  sum_not n zero s h = refl
  sum_not n (suc left) s h = ap₂ ◌+◌ (tally_not s n (λ e. omega arith)) (sum_not n left (suc s) (omega arith))

  sum_step : (n left s : ℕ) → sum m (suc n) s left ≤ suc (sum m n s left)
  unfolding sum
  sum_step n zero s = omega arith
  sum_step n (suc left) s = go (order (line_in m n).section s) (sum_step n left (suc s))
    where
      go : Order (line_in m n).section s → sum m (suc n) (suc s) left ≤ suc (sum m n (suc s) left) → tally m s (suc n) + sum m (suc n) (suc s) left ≤ suc (tally m s n + sum m n (suc s) left)
      go (lower h) r = omega (arith, r, tally_not s n (λ e. omega arith))
      go (level h) r = omega (arith, tally_one s n h, sum_not n left (suc s) (omega arith))
      go (upper h) r = omega (arith, r, tally_not s n (λ e. omega arith))

  sum_none : (left s : ℕ) → sum m 0 s left ≡ 0
  unfolding sum tally
  sum_none zero s = refl
  sum_none (suc left) s = omega (arith, sum_none left (suc s))

  sum_short : (n s left : ℕ) → sum m n s left ≤ n
  sum_short zero s left = omega (arith, sum_none left s)
  sum_short (suc n) s left = omega (arith, sum_step n left s, sum_short n s left)

  section_tally : (s left i : ℕ) → length (of_section s (lines_in m i left)) + tally m s i ≡ tally m s (i + left)
  unfolding of_section lines_in tally
  section_tally s zero i = let e : i + 0 ≡ i = omega arith in rw e (omega arith)
  section_tally s (suc left) i =
      let e : suc i + left ≡ i + suc left = omega arith in
      go (eqb (line_in m i).section s) (section_tally s left (suc i) ∙ ap (tally m s) e)
    where
      go : (b : Bool) → length (of_section s (lines_in m (suc i) left)) + cond b (suc (tally m s i)) (tally m s i) ≡ tally m s (i + suc left)
          → length (cond b (line_in m i ∷ of_section s (lines_in m (suc i) left)) (of_section s (lines_in m (suc i) left))) + tally m s i ≡ tally m s (i + suc left)
      go true f = omega (arith, f)
      go false f = f

  denied-few : (n i v : ℕ) → i ≤ n → length (denied m n i v) ≤ tally m (line_in m i).section n + 3
  unfolding denied
  denied-few n i v h =
      let e : n - i + i ≡ n = omega arith in
      omega (
        arith,
        length-append (brought m (line_in m i).section (marked (replicate 100 0) (uses (line_in m i))) i) (own (far_in m n (line_in m i)) (line_in m i) v),
        brought-few (line_in m i).section i (marked (replicate 100 0) (uses (line_in m i))),
        own-short (far_in m n (line_in m i)) (line_in m i) v,
        tally_up (line_in m i).section i (n - i),
        ap (tally m (line_in m i).section) e,
      )

  denial_few : (n s left i j : ℕ) → i + left ≤ n → length (denial_from m n s i left j) ≤ tally m s n + 3
  unfolding denial_from
  denial_few n s zero i j h = omega arith
  denial_few n s (suc left) i j h = go (ltb j (weigh_line s (line_in m i))) refl (denial_few n s left (suc i) (j - weigh_line s (line_in m i)) (omega arith))
    where
      go : (b : Bool) → ltb j (weigh_line s (line_in m i)) ≡ b → length (denial_from m n s (suc i) left (j - weigh_line s (line_in m i))) ≤ tally m s n + 3
          → length (cond b (denied m n i j) (denial_from m n s (suc i) left (j - weigh_line s (line_in m i)))) ≤ tally m s n + 3
      go true e f =
          let c = (counts s j (line_in m i) (ltb-true j (weigh_line s (line_in m i)) e)).0 in
          subst (λ (x : ℕ). length (denied m n i j) ≤ tally m x n + 3) c (denied-few n i j (omega arith))
      go false e f = f

  chosen-few : (n left s j : ℕ) → length (chosen_from m n s left j) ≤ sum m n s left + 3 * left
  unfolding chosen_from sum
  chosen-few n zero s j = omega arith
  chosen-few n (suc left) s j =
      omega (
        arith,
        length-append (denial_from m n s 0 n (j / product (suc s) left (lines_in m 0 n))) (chosen_from m n (suc s) left (j % product (suc s) left (lines_in m 0 n))),
        denial_few n s n 0 (j / product (suc s) left (lines_in m 0 n)) (omega arith),
        chosen-few n left (suc s) (j % product (suc s) left (lines_in m 0 n)),
      )

  pub built-few : (n k j : ℕ) → length (built m n k j) ≤ n + 3 * k
  unfolding built sum tally
  built-few n k j =
      let e : 0 + n ≡ n = omega arith in
      omega (arith, length-append (of_section 0 (lines_in m 0 n)) (chosen_from m n 1 k j), chosen-few n k 1 j, section_tally 0 n 0, ap (tally m 0) e, sum_short n 0 (suc k))
