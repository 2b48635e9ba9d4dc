-- `first_line` meets its contract: the three fields that were taken apart are those of the definition, and the tests come in its order.
use mathlib.Core.Path.{◌≡◌, sym, ap, ◌∙◌}
use mathlib.Core.List.{List}
use Prim.Native.Nat.{ℕ, ◌-◌}
use lib.ListN.{length, drop, take}
use borrow.Author.Tests.{eq-eqb, ne_eqb, lt-ltb, le-ltb}
use Rattle.columns.specs.Number.{field_at}
use Rattle.std.specs.Prelude.{Option}
use Rattle.columns.proofs.Scan.{to_end}
use Rattle.runlog.specs.Log.{head_of}
use Rattle.runlog.proofs.first_line.Goals as goal

-- The field of width w from column k on is f, where the reader of the rest of the bytes, r, came back with f.
field-is : (k w : ℕ) (t : List ℕ) (r f : Option ℕ) → r ≡ field_at (take (length t - k) (drop k t)) w → r ≡ f → field_at (drop k t) w ≡ f
field-is k w t r f told is = ap (λ (s : List ℕ). field_at s w) (sym (to_end k t)) ∙ sym told ∙ is

pub returns-then-log-lt-FIRST_BYTES : goal.returns-then-log-lt-FIRST_BYTES
unfolding head_of
returns-then-log-lt-FIRST_BYTES c =
    simp (lt-ltb _ _ c.if-log-lt-FIRST_BYTES.true)

pub returns-in_default : goal.returns-in_default
unfolding head_of
returns-in_default c =
    simp (le-ltb _ _ c.if-log-lt-FIRST_BYTES.false) (rw (sym c.number.ensures ∙ c.in_default.is))

pub returns-in_default-number : goal.returns-in_default-number
unfolding head_of
returns-in_default-number c =
    simp (le-ltb _ _ c.if-log-lt-FIRST_BYTES.false) (rw (sym c.number.ensures ∙ c.in-Some.is, field-is 5 11 c.args.log.now _ _ c.number-2.ensures c.in_default-number.is))

pub returns-in_default-number-2 : goal.returns-in_default-number-2
unfolding head_of
returns-in_default-number-2 c =
    simp (le-ltb _ _ c.if-log-lt-FIRST_BYTES.false) (rw (sym c.number.ensures ∙ c.in-Some.is, field-is 5 11 c.args.log.now _ _ c.number-2.ensures c.in-Some-number.is, field-is 16 11 c.args.log.now _ _ c.number-3.ensures c.in_default-number-2.is))

pub returns-then-log-ne10 : goal.returns-then-log-ne10
unfolding head_of
returns-then-log-ne10 c =
    simp (le-ltb _ _ c.if-log-lt-FIRST_BYTES.false) (rw (sym c.number.ensures ∙ c.in-Some.is, field-is 5 11 c.args.log.now _ _ c.number-2.ensures c.in-Some-number.is, field-is 16 11 c.args.log.now _ _ c.number-3.ensures c.in-Some-number-2.is)
    (simp (ne_eqb _ _ c.if-log-ne10.true)))

pub returns-then-count-gt-MOST_LINES : goal.returns-then-count-gt-MOST_LINES
unfolding head_of
returns-then-count-gt-MOST_LINES c =
    simp (le-ltb _ _ c.if-log-lt-FIRST_BYTES.false) (rw (sym c.number.ensures ∙ c.in-Some.is, field-is 5 11 c.args.log.now _ _ c.number-2.ensures c.in-Some-number.is, field-is 16 11 c.args.log.now _ _ c.number-3.ensures c.in-Some-number-2.is)
    (simp (eq-eqb _ _ c.if-log-ne10.false, lt-ltb _ _ c.if-count-gt-MOST_LINES.true)))

pub returns-then-log-n : goal.returns-then-log-n
unfolding head_of
returns-then-log-n c =
    simp (le-ltb _ _ c.if-log-lt-FIRST_BYTES.false) (rw (sym c.number.ensures ∙ c.in-Some.is, field-is 5 11 c.args.log.now _ _ c.number-2.ensures c.in-Some-number.is, field-is 16 11 c.args.log.now _ _ c.number-3.ensures c.in-Some-number-2.is)
    (simp (eq-eqb _ _ c.if-log-ne10.false, le-ltb _ _ c.if-count-gt-MOST_LINES.false, ne_eqb _ _ c.if-log-n.true)))

pub returns : goal.returns
unfolding head_of
returns c =
    simp (le-ltb _ _ c.if-log-lt-FIRST_BYTES.false) (rw (sym c.number.ensures ∙ c.in-Some.is, field-is 5 11 c.args.log.now _ _ c.number-2.ensures c.in-Some-number.is, field-is 16 11 c.args.log.now _ _ c.number-3.ensures c.in-Some-number-2.is)
    (simp (eq-eqb _ _ c.if-log-ne10.false, le-ltb _ _ c.if-count-gt-MOST_LINES.false, eq-eqb _ _ c.if-log-n.false)))
