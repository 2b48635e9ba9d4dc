-- `first_line` meets its contract: each field's answer in turn, then the definition's tests one after another.
use native.Mathlib.Omega.{arith}
use mathlib.Core.Path.{◌≡◌, sym, ap, ◌∙◌}
use mathlib.Core.List.{List}
use Prim.Native.Nat.{ℕ, ◌-◌}
use lib.ListN.{length, drop, take}
use borrow.Author.Tests.{eq-eqb, ne_eqb, lt-ltb, le-ltb}
use Rattle.columns.specs.Number.{field_at}
use Rattle.std.specs.Prelude.{Option}
use Rattle.columns.proofs.Scan.{to_end}
use Rattle.sheet.specs.Reading.{head_of}
use Rattle.sheet.proofs.first_line.Goals as goal

-- The field of width w from column k on is f, where the reader of the rest of the bytes, r, came back with f.
field-is : (k w : ℕ) (t : List ℕ) (r f : Option ℕ) → r ≡ field_at (take (length t - k) (drop k t)) w → r ≡ f → field_at (drop k t) w ≡ f
field-is k w t r f told is = ap (λ (s : List ℕ). field_at s w) (sym (to_end k t)) ∙ sym told ∙ is

pub returns-then-s-lt7 : goal.returns-then-s-lt7
unfolding head_of
returns-then-s-lt7 c =
    simp (lt-ltb _ _ c.if-s-lt7.true)

pub returns-in_default : goal.returns-in_default
unfolding head_of
returns-in_default c =
    simp (le-ltb (length c.args.s.now) 7 (omega arith)) (rw (sym c.number.ensures ∙ c.in_default.is))

pub returns-in_default-number : goal.returns-in_default-number
unfolding head_of
returns-in_default-number c =
    simp (le-ltb (length c.args.s.now) 7 (omega arith)) (rw (sym c.number.ensures ∙ c.in-Some.is, field-is 3 3 c.args.s.now _ _ c.number-2.ensures c.in_default-number.is))

pub returns-then-s-ne10 : goal.returns-then-s-ne10
unfolding head_of
returns-then-s-ne10 c =
    simp (le-ltb (length c.args.s.now) 7 (omega arith)) (rw (sym c.number.ensures ∙ c.in-Some.is, field-is 3 3 c.args.s.now _ _ c.number-2.ensures c.in-Some-number.is)
    (simp (ne_eqb _ _ c.if-s-ne10.true)))

pub returns-then-k-gt-MOST_CONSEQUENTS : goal.returns-then-k-gt-MOST_CONSEQUENTS
unfolding head_of
returns-then-k-gt-MOST_CONSEQUENTS c =
    simp (le-ltb (length c.args.s.now) 7 (omega arith)) (rw (sym c.number.ensures ∙ c.in-Some.is, field-is 3 3 c.args.s.now _ _ c.number-2.ensures c.in-Some-number.is)
    (simp (eq-eqb _ _ c.if-s-ne10.false, lt-ltb _ _ c.if-k-gt-MOST_CONSEQUENTS.true)))

pub returns-then-rows-gt-MOST_ROWS : goal.returns-then-rows-gt-MOST_ROWS
unfolding head_of
returns-then-rows-gt-MOST_ROWS c =
    simp (le-ltb (length c.args.s.now) 7 (omega arith)) (rw (sym c.number.ensures ∙ c.in-Some.is, field-is 3 3 c.args.s.now _ _ c.number-2.ensures c.in-Some-number.is)
    (simp (eq-eqb _ _ c.if-s-ne10.false, le-ltb _ _ c.if-k-gt-MOST_CONSEQUENTS.false, lt-ltb _ _ c.if-rows-gt-MOST_ROWS.true)))

pub returns-then-s-n : goal.returns-then-s-n
unfolding head_of
returns-then-s-n c =
    simp (le-ltb (length c.args.s.now) 7 (omega arith)) (rw (sym c.number.ensures ∙ c.in-Some.is, field-is 3 3 c.args.s.now _ _ c.number-2.ensures c.in-Some-number.is)
    (simp (eq-eqb _ _ c.if-s-ne10.false, le-ltb _ _ c.if-k-gt-MOST_CONSEQUENTS.false, le-ltb _ _ c.if-rows-gt-MOST_ROWS.false, ne_eqb _ _ c.if-s-n.true)))

pub returns : goal.returns
unfolding head_of
returns c =
    simp (le-ltb (length c.args.s.now) 7 (omega arith)) (rw (sym c.number.ensures ∙ c.in-Some.is, field-is 3 3 c.args.s.now _ _ c.number-2.ensures c.in-Some-number.is)
    (simp (eq-eqb _ _ c.if-s-ne10.false, le-ltb _ _ c.if-k-gt-MOST_CONSEQUENTS.false, le-ltb _ _ c.if-rows-gt-MOST_ROWS.false, eq-eqb _ _ c.if-s-n.false)))
