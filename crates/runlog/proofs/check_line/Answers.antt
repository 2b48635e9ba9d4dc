-- `check_line` meets its contract: the two fields that were taken apart are those of the definition, and the tests come in its order.
use mathlib.Core.Path.{◌≡◌, sym, ap, ◌∙◌}
use mathlib.Core.List.{List}
use Prim.Native.Nat.{ℕ, ◌-◌}
use lib.ListN.{length, drop, take}
use borrow.Author.Tests.{eq-eqb, ne_eqb, lt-ltb, le-ltb}
use Rattle.columns.specs.Number.{field_at}
use Rattle.std.specs.Prelude.{Option}
use Rattle.columns.proofs.Scan.{to_end}
use Rattle.runlog.specs.Log.{line_of}
use Rattle.runlog.proofs.check_line.Goals as goal

-- The field of width w from column k on is f, where the reader of the rest of the bytes, r, came back with f.
field-is : (k w : ℕ) (t : List ℕ) (r f : Option ℕ) → r ≡ field_at (take (length t - k) (drop k t)) w → r ≡ f → field_at (drop k t) w ≡ f
field-is k w t r f told is = ap (λ (s : List ℕ). field_at s w) (sym (to_end k t)) ∙ sym told ∙ is

pub returns-in_default : goal.returns-in_default
unfolding line_of
returns-in_default c =
    rw (sym c.number.ensures ∙ c.in_default.is)

pub returns-in_default-number : goal.returns-in_default-number
unfolding line_of
returns-in_default-number c =
    rw (sym c.number.ensures ∙ c.in-Some.is, field-is 11 3 c.args.line.now _ _ c.number-2.ensures c.in_default-number.is)

pub returns-then-line-ne10 : goal.returns-then-line-ne10
unfolding line_of
returns-then-line-ne10 c =
    rw (sym c.number.ensures ∙ c.in-Some.is, field-is 11 3 c.args.line.now _ _ c.number-2.ensures c.in-Some-number.is) (simp (ne_eqb _ _ c.if-line-ne10.true))

pub returns-then-event-gt-LAST_EVENT : goal.returns-then-event-gt-LAST_EVENT
unfolding line_of
returns-then-event-gt-LAST_EVENT c =
    rw (sym c.number.ensures ∙ c.in-Some.is, field-is 11 3 c.args.line.now _ _ c.number-2.ensures c.in-Some-number.is) (simp (eq-eqb _ _ c.if-line-ne10.false, lt-ltb _ _ c.if-event-gt-LAST_EVENT.true))

pub returns-then-tick-last : goal.returns-then-tick-last
unfolding line_of
returns-then-tick-last c =
    rw (sym c.number.ensures ∙ c.in-Some.is, field-is 11 3 c.args.line.now _ _ c.number-2.ensures c.in-Some-number.is) (simp (eq-eqb _ _ c.if-line-ne10.false, le-ltb _ _ c.if-event-gt-LAST_EVENT.false, lt-ltb _ _ c.if-tick-last.true))

pub returns : goal.returns
unfolding line_of
returns c =
    rw (sym c.number.ensures ∙ c.in-Some.is, field-is 11 3 c.args.line.now _ _ c.number-2.ensures c.in-Some-number.is) (simp (eq-eqb _ _ c.if-line-ne10.false, le-ltb _ _ c.if-event-gt-LAST_EVENT.false, le-ltb _ _ c.if-tick-last.false))
