-- The room of the sections: an accepted antecedent has at most 32 rows and a consequent at most 24, so that N is at most 48 ^ 6.
-- Carried by the count of the section's rows so far, which with those still to come never passes the section's most.
-- Assumes nothing.
use mathlib.Core.Path.{◌≡◌, refl, sym, ap, ◌∙◌, subst}
use mathlib.Core.Bool.{Bool, true, false, ◌&&◌, cond}
use mathlib.Core.List.{List, [], ◌∷◌}
use Prim.Native.Nat.{ℕ, zero, suc, ◌+◌, ◌*◌, ◌^◌, ◌≤◌, ◌<◌}
use native.Mathlib.Nat.{mul-le-mul, pow-suc, pow-le-pow_right, le_trans}
use native.Mathlib.Omega.{arith}
use lib.ListN.{length}
use lib.Dec.{eqb, leb, ltb, lit<}
use borrow.Author.Tests.{ltb-true, ne_eqb}
use Rattle.scenario.specs.Rows.{Row}
use Rattle.scenario.specs.Sheet.{count}
use Rattle.scenario.specs.Reading.{All}
use Rattle.scenario.proofs.Base.{Order, lower, level, upper, order}
use Rattle.row.specs.declared.Line.{Line}
use Rattle.rules.specs.declared.Stand.{Stand}
use Rattle.rules.specs.Rules.{stand, start, enter, advance, room_fits}
use Rattle.sheet.specs.Reading.{after, section, sections, sheet_of}
use Rattle.row.specs.Row.{row_in}
use Rattle.sheet.specs.Count.{edge, weight_free, weight, weigh_line, weighed, product}
use Rattle.sheet.proofs.Denials.{count-product}
use Rattle.sheet.proofs.Accepted.{Passes, passes, after-section, enter-same, Accepted, section_in, section-out, passed}

-- the most rows of a section
most_rows_of : ℕ → ℕ
most_rows_of i = cond (eqb i 0) 32 24

room_most : (i rows : ℕ) → room_fits i rows ≡ true → rows < most_rows_of i
unfolding room_fits most_rows_of
room_most i rows e = go (eqb i 0) e
  where
    go : (b : Bool) → cond b (ltb rows 32) (ltb rows 24) ≡ true → rows < cond b 32 24
    go true e = ltb-true rows 32 e
    go false e = ltb-true rows 24 e

most-consequent : (i : ℕ) → 1 ≤ i → most_rows_of i ≡ 24
unfolding most_rows_of
most-consequent i h = simp (ne_eqb i 0 (omega arith))

-- the section's rows so far, where the reading stands

pub enter_no_rows : (at : Stand) (s : ℕ) → (at.section ≡ s → ⊥) → (enter at s).rows ≡ 0
unfolding enter
enter_no_rows at s e = simp (ne_eqb at.section s e)

pub start_no_rows : (i : ℕ) → (enter start i).rows ≡ 0
unfolding enter
start_no_rows i = go (eqb 0 i)
  where
    go : (b : Bool) → (cond b start (stand i 0 0 0)).rows ≡ 0
    go true = refl
    go false = refl

pub after-rows : (at : Stand) (l : Line) → (after at l).rows ≡ (enter at l.section).rows + 1
unfolding after advance
after-rows at l = go (enter at l.section) (eqb l.kind 1) (leb 2 l.kind && leb l.kind 5)
  where
    go : (h : Stand) (b c : Bool) → (cond b (stand h.section (h.rows + 1) (h.antecedent + 1) h.own)
        (cond c (stand h.section (h.rows + 1) h.antecedent (h.own + 1)) (stand h.section (h.rows + 1) h.antecedent h.own))).rows ≡ h.rows + 1
    go h true c = refl
    go h false true = refl
    go h false false = refl

-- one section: its rows so far and those to come
module _ (k i : ℕ) where
  section-room : (ls : List Line) (at : Stand) → Accepted k at ls → at.section ≤ i → (enter at i).rows ≤ most_rows_of i
      → (enter at i).rows + length (section i ls) ≤ most_rows_of i
  unfolding section
  section-room [] at A h r = omega arith
  section-room (l ∷ ls) at A h r = go (order l.section i) (section-room ls (after at l) A.1.1)
    where
      P : Passes k at l
      P = passes k at l A.0

      go : Order l.section i → ((after at l).section ≤ i → (enter (after at l) i).rows ≤ most_rows_of i → (enter (after at l) i).rows + length (section i ls) ≤ most_rows_of i)
          → (enter at i).rows + length (section i (l ∷ ls)) ≤ most_rows_of i
      go (lower x) f =
          let was = enter_no_rows at i (λ q. omega (arith, P.low)) in
          let is = enter_no_rows (after at l) i (λ q. omega (arith, after-section at l)) in
          omega (arith, was, is, ap length (section-out i l ls (λ q. omega arith)), f (omega (arith, after-section at l)) (omega (arith, is)))
      go (level z) f =
          let here = ap (λ (x : Stand). x.rows) (enter-same (after at l) i (after-section at l ∙ z)) ∙ after-rows at l ∙ ap (λ (s : ℕ). (enter at s).rows + 1) z in
          let room = subst (λ (s : ℕ). (enter at s).rows < most_rows_of s) z (room_most l.section (enter at l.section).rows P.room) in
          omega (arith, ap length (section_in i l ls z), here, f (omega (arith, after-section at l)) (omega (arith, here, room)))
      go (upper x) f =
          omega (arith, ap length (section-out i l ls (λ q. omega arith) ∙ passed k i ls (after at l) A.1.1 (omega (arith, after-section at l))))

module _ (k : ℕ) (ls : List Line) (A : Accepted k start ls) where
  most_rows : (i : ℕ) → length (section i ls) ≤ most_rows_of i
  most_rows i = omega (arith, start_no_rows i, section-room k i ls start A (omega arith) (omega (arith, start_no_rows i)))

  pub antecedent-room : length (section 0 ls) ≤ 32
  unfolding most_rows_of
  antecedent-room = most_rows 0

  pub consequent-room : (i : ℕ) → 1 ≤ i → length (section i ls) ≤ 24
  consequent-room i h = omega (arith, most_rows i, most-consequent i h)

  pub consequents-room : (left i : ℕ) → 1 ≤ i → All (λ (c : List Row). length c ≤ 24) (sections i left ls)
  unfolding sections
  consequents-room zero i h = tt
  consequents-room (suc left) i h = (consequent-room i h, consequents-room left (suc i) (omega arith))

-- a row has at most two denials, a section at most two to a row

weight-most : (kind p q : ℕ) → weight kind p q ≤ 2
unfolding weight weight_free
weight-most kind p q = go (eqb kind 1) (leb 4 kind && leb kind 5) (eqb kind 6) (eqb kind 9) (edge p) (eqb p q) (edge q)
  where
    go : (a b c d e f g : Bool) → cond a 0 (cond b 0 (cond c 2 (cond d (cond e (cond f 0 1) (cond g 1 2)) 1))) ≤ 2
    go true b c d e f g = omega arith
    go false true c d e f g = omega arith
    go false false true d e f g = omega arith
    go false false false false e f g = omega arith
    go false false false true true true g = omega arith
    go false false false true true false g = omega arith
    go false false false true false f true = omega arith
    go false false false true false f false = omega arith

weighed-most : (i : ℕ) (ls : List Line) → weighed i ls ≤ 2 * length (section i ls)
unfolding weighed weigh_line section
weighed-most i [] = omega arith
weighed-most i (l ∷ ls) = go (eqb l.section i) (weighed-most i ls)
  where
    go : (b : Bool) → weighed i ls ≤ 2 * length (section i ls)
        → cond b (weight l.kind l.p l.q) 0 + weighed i ls ≤ 2 * length (cond b (row_in l ∷ section i ls) (section i ls))
    go true h = omega (arith, weight-most l.kind l.p l.q)
    go false h = omega arith

-- N is at most 48 ^ 6: two denials a row, 24 rows a consequent, six consequents
module _ (k : ℕ) (ls : List Line) (A : Accepted k start ls) where
  product-most : (left i : ℕ) → 1 ≤ i → product i left ls ≤ 48 ^ left
  unfolding product
  product-most zero i h = omega arith
  product-most (suc left) i h =
      rw (pow_suc-left left) (mul-le-mul (omega (arith, weighed-most i ls, consequent-room k ls A i h)) (product-most left (suc i) (omega arith)))
    where
      pow_suc-left : (n : ℕ) → 48 ^ suc n ≡ 48 * 48 ^ n
      pow_suc-left n = pow-suc 48 n ∙ omega arith

  pub count_most : k ≤ 6 → count (sheet_of k ls) ≤ 48 ^ 6
  count_most k6 =
      subst (λ (n : ℕ). n ≤ 48 ^ 6) (sym (count-product k ls))
      (le_trans (product-most k 1 (omega arith)) (pow-le-pow_right {n = 48} (lit< tt) {i = k} {j = 6} k6))
