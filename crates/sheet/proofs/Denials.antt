-- N is the product over the rows: a row's denials, a section's, and all sections'.
-- Assumes nothing.
use mathlib.Core.Path.{◌≡◌, refl, sym, ap₂, ◌∙◌}
use mathlib.Core.Bool.{Bool, true, false, cond}
use mathlib.Core.List.{List, [], ◌∷◌, ◌++◌, map}
use Prim.Native.Nat.{ℕ, zero, suc, ◌+◌, ◌*◌}
use native.Mathlib.Omega.{arith}
use lib.ListN.{length, length-append, length-map}
use lib.Dec.{eqb}
use borrow.Author.Tests.{eqb-true, eqb-false, ne_eqb}
use Rattle.scenario.specs.Rows.{Row, set_of, denying_rows, denying_free, end, closure, needs, denials, far_end}
use Rattle.scenario.specs.Fields.{decode, row_of}
use Rattle.scenario.specs.Sheet.{choices, total, count}
use Rattle.scenario.proofs.Numbers.{any-kind}
use Rattle.row.specs.declared.Line.{Line}
use Rattle.row.specs.Row.{row_in}
use Rattle.sheet.specs.Reading.{section, sections, sheet_of}
use Rattle.sheet.specs.Count.{edge, weight_free, weight, weigh_line, weighed, product}
use Rattle.sheet.proofs.Count.{weight-high}

-- FREE, by the ends
module _ (r p q s : ℕ) where
  free_go : (a b c d : Bool) → eqb p 0 ≡ a → eqb p 99 ≡ b → eqb q 0 ≡ c → eqb q 99 ≡ d → length (denying_free r p q s (end p) (end q)) ≡ weight_free p q
  unfolding denying_free end weight_free edge
  free_go true b true d ep fp eq fq = rw (eqb-true p 0 ep, eqb-true q 0 eq)
  free_go true b false true ep fp eq fq = rw (eqb-true p 0 ep, eqb-true q 99 fq)
  free_go true b false false ep fp eq fq = rw (eqb-true p 0 ep) (simp (eq, fq, ne_eqb 0 q (λ e. eqb-false q 0 eq (sym e))))
  free_go false true true d ep fp eq fq = rw (eqb-true p 99 fp, eqb-true q 0 eq)
  free_go false true false true ep fp eq fq = rw (eqb-true p 99 fp, eqb-true q 99 fq)
  free_go false true false false ep fp eq fq = rw (eqb-true p 99 fp) (simp (eq, fq, ne_eqb 99 q (λ e. eqb-false q 99 fq (sym e))))
  free_go false false true d ep fp eq fq = simp (ep, fp, eq)
  free_go false false false true ep fp eq fq = simp (ep, fp, eq, fq)
  free_go false false false false ep fp eq fq = simp (ep, fp, eq, fq)

  free-weight : length (denying_free r p q s (end p) (end q)) ≡ weight_free p q
  free-weight = free_go (eqb p 0) (eqb p 99) (eqb q 0) (eqb q 99) refl refl refl refl

-- a row's denials
module _ (z r : ℕ) where
  abbrev Weighs : (p q a b k : ℕ) → Type 0
  Weighs p q a b k = length (denying_rows z r (row_of k p q a b)) ≡ weight k p q

  weighs : (p q a b k : ℕ) → Weighs p q a b k
  unfolding decode denying_rows weight
  weighs p q a b =
      any-kind (Weighs p q a b) refl refl refl refl refl refl refl refl refl (free-weight r p q (set_of a b)) refl refl refl
      (λ k. weight-high (suc (suc (suc (suc (suc (suc (suc (suc (suc (suc (suc (suc (suc k))))))))))))) p q (omega arith) (λ e. omega arith) (λ e. omega arith))

  pub line-weight : (l : Line) → length (denying_rows z r (row_in l)) ≡ weight l.kind l.p l.q
  unfolding row_in
  line-weight l = weighs l.p l.q l.a l.b l.kind

-- a section's denials
module _ (z : Row → ℕ) (r i : ℕ) where
  section-weight : (ls : List Line) (ks : List Row) → length (denials z r ks (section i ls)) ≡ weighed i ls
  unfolding denials section weighed weigh_line
  section-weight [] ks = refl
  section-weight (l ∷ ls) ks = go (eqb l.section i) (section-weight ls)
    where
      go : (b : Bool) → ((ks : List Row) → length (denials z r ks (section i ls)) ≡ weighed i ls)
          → length (denials z r ks (cond b (row_in l ∷ section i ls) (section i ls))) ≡ cond b (weight l.kind l.p l.q) 0 + weighed i ls
      go true f =
          length-append (map (λ d. closure ks (needs (row_in l)) ++ d) (denying_rows (z (row_in l)) r (row_in l))) (denials z r (row_in l ∷ ks) (section i ls))
          ∙ ap₂ ◌+◌ (length-map (denying_rows (z (row_in l)) r (row_in l)) (λ d. closure ks (needs (row_in l)) ++ d) ∙ line-weight (z (row_in l)) r l) (f (row_in l ∷ ks))
      go false f = omega (arith, f ks)

-- all sections', whatever the far ends of their rows
pub choices-product : (far : (consequent : List Row) → Row → ℕ) (ls : List Line) (left i : ℕ) → total (choices far i (sections i left ls)) ≡ product i left ls
unfolding total choices sections product
choices-product far ls zero i = refl
choices-product far ls (suc left) i = ap₂ ◌*◌ (section-weight (far (section i ls)) (10 * i + 9) i ls []) (choices-product far ls left (suc i))

-- N
pub count-product : (k : ℕ) (ls : List Line) → count (sheet_of k ls) ≡ product 1 k ls
unfolding count sheet_of
count-product k ls = choices-product (far_end (section 0 ls)) ls k 1
