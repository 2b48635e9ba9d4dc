-- What a host is told of a check, by how it ends.
-- Assumes nothing.
use mathlib.Core.Path.{◌≡◌, refl, sym, ap, ◌∙◌, subst}
use mathlib.Core.Bool.{true, false}
use mathlib.Core.List.{List, ◌++◌}
use Prim.Native.Nat.{ℕ, zero, suc, ◌+◌, ◌<◌}
use native.Mathlib.Numerals.{add-one}
use native.Mathlib.Omega.{arith}
use lib.ListN.{length, get_or, set, take, drop}
use lib.Seq.{length-take-le, take-suc, append_snoc, drop-cons, set_at}
use borrow.Rule.Slice.PartMut.{post_of}
use borrow.Author.Tests.{eq-eqb, ne_eqb}
use Rattle.verdict.specs.Check.{Checked, blank}
use Rattle.findings.specs.Findings.{host_number, when_violated, fronted}

-- The check's number

module _ (c : Checked) where
  pub number-refused : (c.refusal ≡ 0 → ⊥) → host_number c ≡ c.refusal
  unfolding host_number
  number-refused n = simp (ne_eqb c.refusal 0 n)

  pub number-violated : c.refusal ≡ 0 → c.violated ≡ true → host_number c ≡ 100
  unfolding host_number
  number-violated z v = simp (eq-eqb c.refusal 0 z, v)

  pub number-holds : c.refusal ≡ 0 → c.violated ≡ false → host_number c ≡ 0
  unfolding host_number
  number-holds z v = simp (eq-eqb c.refusal 0 z, v)

-- nothing but a number: the refusal's, or 0
pub number-blank : (n : ℕ) → host_number (blank n) ≡ n
number-blank zero = number-holds (blank 0) refl refl
number-blank (suc n) = number-refused (blank (suc n)) (λ e. omega arith)

-- Lent memory

module _ {A : Type 0} where
  pub unviolated_keeps : (c : Checked) (value old : A) → c.violated ≡ false → old ≡ when_violated c value old
  unfolding when_violated
  unviolated_keeps c value old e = rw e

  pub violated_writes : (c : Checked) (v value old : A) → c.violated ≡ true → v ≡ value → v ≡ when_violated c value old
  unfolding when_violated
  violated_writes c v value old e q = rw e q

-- Findings that are told of an answer c, by what stands in lent memory before and after; and of another that is the same

abbrev pub Told : Checked → (number : ℕ) (positions positions' : List ℕ) (points points' : ℕ) (rows rows' : List ℕ) (consequents consequents' : ℕ) → Type 0
Told c number positions positions' points points' rows rows' consequents consequents' =
    (number ≡ host_number c)
    × ((positions' ≡ when_violated c (fronted c.points c.positions positions) positions)
    × ((points' ≡ when_violated c c.points points)
    × ((rows' ≡ when_violated c (fronted c.consequents c.rows rows) rows) × (consequents' ≡ when_violated c c.consequents consequents))))

pub told_same : (c d : Checked) → c ≡ d → (number : ℕ) (positions positions' : List ℕ) (points points' : ℕ) (rows rows' : List ℕ) (consequents consequents' : ℕ)
    → Told c number positions positions' points points' rows rows' consequents consequents' → Told d number positions positions' points points' rows rows' consequents consequents'
told_same c d e number positions positions' points points' rows rows' consequents consequents' =
    subst (λ (z : Checked). Told z number positions positions' points points' rows rows' consequents consequents') e

-- numbers written over a front that has as many
pub put-fronted : (n : ℕ) (values old written : List ℕ) → written ≡ take n values → written ++ post_of 0 n old ≡ fronted n values old
unfolding fronted
put-fronted n values old written e = ap (λ (l : List ℕ). l ++ drop n old) e

-- one number more at the front
pub copied-one : (from old : List ℕ) (i : ℕ) → i < length from → i < length old → (to : List ℕ) → to ≡ take i from ++ drop i old
    → set to i (get_or from i 0) ≡ take (i + 1) from ++ drop (i + 1) old
copied-one from old i h k to e =
    rw (e, add-one i, take-suc from i 0 h, drop-cons old i 0 k)
    (set_at (take i from) (get_or old i 0) (drop (suc i) old) (get_or from i 0) i (length-take-le i from (omega arith)) ∙ sym (append_snoc (take i from) (get_or from i 0) (drop (suc i) old)))
