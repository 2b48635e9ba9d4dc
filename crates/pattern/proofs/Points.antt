-- The points of rows in memory, in order of introduction.
-- Assumes nothing.
use mathlib.Core.Path.{◌≡◌, sym, ◌∙◌, ap, subst}
use mathlib.Core.Bool.{Bool, true, false, ◌&&◌}
use mathlib.Core.List.{List, [], ◌∷◌, ◌++◌, append-nil}
use Prim.Native.Nat.{ℕ, suc, ◌+◌, ◌-◌, ◌≤◌, ◌<◌}
use native.Mathlib.Numerals.{add-one}
use native.Mathlib.Omega.{arith}
use lib.ListN.{length, set, take, length-append}
use lib.Seq.{length-take-le, take-suc-set, append_snoc}
use lib.Dec.{leb}
use Rattle.scenario.specs.Rows.{set_of, introduced, points}
use Rattle.scenario.proofs.Numbers.{introduced-is}
use Rattle.row.specs.Row.{row_in}
use Rattle.row.specs.Memory.{kind_at, p_at, q_at, a_at, b_at, line_in, row_at, listed}

-- Gathering the points

module _ (rows : List ℕ) (count j : ℕ) where
  abbrev pub rest : ℕ → List ℕ
  rest j = points (listed (row_at rows) j (count - j))

  more : j < count → rest j ≡ introduced (row_at rows j) ++ rest (j + 1)
  unfolding listed points
  more h = let e : count - j ≡ suc (count - (j + 1)) = omega arith in rw (e, add-one j)

  pub more-none : j < count → (leb 1 (kind_at rows j) && leb (kind_at rows j) 5) ≡ false → rest j ≡ rest (j + 1)
  unfolding row_at row_in line_in
  more-none h e = more h ∙ ap (λ (l : List ℕ). l ++ rest (j + 1)) none
    where
      none : introduced (row_at rows j) ≡ []
      none = introduced-is (p_at rows j) (q_at rows j) (a_at rows j) (b_at rows j) (set_of (a_at rows j) (b_at rows j)) (kind_at rows j) ∙ rw e

  pub more-one : j < count → (leb 1 (kind_at rows j) && leb (kind_at rows j) 5) ≡ true → rest j ≡ p_at rows j ∷ rest (j + 1)
  unfolding row_at row_in line_in
  more-one h e = more h ∙ ap (λ (l : List ℕ). l ++ rest (j + 1)) one
    where
      one : introduced (row_at rows j) ≡ p_at rows j ∷ []
      one = introduced-is (p_at rows j) (q_at rows j) (a_at rows j) (b_at rows j) (set_of (a_at rows j) (b_at rows j)) (kind_at rows j) ∙ rw e

  pub no_more : count ≤ j → rest j ≡ []
  unfolding listed points
  no_more h = let e : count - j ≡ 0 = omega arith in rw e

pub room_for : (l rest ps : List ℕ) (i p : ℕ) → i ≤ length l → take i l ++ p ∷ rest ≡ ps → i < length ps
room_for l rest ps i p h e = omega (arith, length-take-le i l h, length-append (take i l) (p ∷ rest), ap length e)

pub one_more : (l rest ps : List ℕ) (i p : ℕ) → i < length l → take i l ++ p ∷ rest ≡ ps → take (i + 1) (set l i p) ++ rest ≡ ps
one_more l rest ps i p h e = rw (add-one i, take-suc-set l i p h) (append_snoc (take i l) p rest ∙ e)

pub all_there : (l ps : List ℕ) (i : ℕ) → i ≤ length l → take i l ++ [] ≡ ps → (i ≡ length ps) × (take i l ≡ ps)
all_there l ps i h e = let q = sym (append-nil (take i l)) ∙ e in (sym (length-take-le i l h) ∙ ap length q, q)

pub kind_at_lem : (rows : List ℕ) (j : ℕ) (t : Bool) (k : ℕ) → k ≡ kind_at rows j → (leb 1 k && leb k 5) ≡ t → (leb 1 (kind_at rows j) && leb (kind_at rows j) 5) ≡ t
kind_at_lem rows j t k e h = subst (λ (z : ℕ). (leb 1 z && leb z 5) ≡ t) e h
