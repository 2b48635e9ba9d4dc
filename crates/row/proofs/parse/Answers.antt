-- `parse` meets its contract: a field after the other, each from its first column.
use mathlib.Core.Path.{◌≡◌, sym, ap, ◌∙◌}
use mathlib.Core.List.{List}
use Prim.Native.Nat.{ℕ, ◌-◌}
use lib.ListN.{drop, take, length}
use borrow.Author.Tests.{eq-eqb, ne_eqb}
use Rattle.std.specs.Prelude.{Option}
use Rattle.columns.specs.Number.{field_at}
use Rattle.columns.proofs.Scan.{to_end}
use Rattle.row.specs.Row.{line_of}
use Rattle.row.proofs.parse.Goals as goal

-- The field of width w from column k on, where the reader of the rest of the row came back with f.
field-is : (k w : ℕ) (t : List ℕ) (f : Option ℕ) → f ≡ field_at (take (length t - k) (drop k t)) w → field_at (drop k t) w ≡ f
field-is k w t f told = ap (λ (s : List ℕ). field_at s w) (sym (to_end k t)) ∙ sym told

pub returns-in_err-section : goal.returns-in_err-section
unfolding line_of
returns-in_err-section c =
    rw c.from_residual.ensures (rw (sym c.in_err-section.ensures))

pub returns-in_err-kind : goal.returns-in_err-kind
unfolding line_of
returns-in_err-kind c =
    rw c.from_residual-in_err-kind.ensures (rw (sym c.in_ok-section.ensures, field-is 3 3 c.args.row.now _ c.in_err-kind.ensures))

pub returns-in_err-p : goal.returns-in_err-p
unfolding line_of
returns-in_err-p c =
    rw c.from_residual-in_err-p.ensures (rw (sym c.in_ok-section.ensures, field-is 3 3 c.args.row.now _ c.in_ok-kind.ensures, field-is 6 3 c.args.row.now _ c.in_err-p.ensures))

pub returns-in_err-q : goal.returns-in_err-q
unfolding line_of
returns-in_err-q c =
    rw c.from_residual-in_err-q.ensures (rw (sym c.in_ok-section.ensures, field-is 3 3 c.args.row.now _ c.in_ok-kind.ensures, field-is 6 3 c.args.row.now _ c.in_ok-p.ensures, field-is 9 3 c.args.row.now _ c.in_err-q.ensures))

pub returns-in_err-a : goal.returns-in_err-a
unfolding line_of
returns-in_err-a c =
    rw c.from_residual-in_err-a.ensures (rw (sym c.in_ok-section.ensures, field-is 3 3 c.args.row.now _ c.in_ok-kind.ensures, field-is 6 3 c.args.row.now _ c.in_ok-p.ensures, field-is 9 3 c.args.row.now _ c.in_ok-q.ensures, field-is 12 11 c.args.row.now _ c.in_err-a.ensures))

pub returns-in_err-b : goal.returns-in_err-b
unfolding line_of
returns-in_err-b c =
    rw c.from_residual-in_err-b.ensures (rw (sym c.in_ok-section.ensures, field-is 3 3 c.args.row.now _ c.in_ok-kind.ensures, field-is 6 3 c.args.row.now _ c.in_ok-p.ensures, field-is 9 3 c.args.row.now _ c.in_ok-q.ensures, field-is 12 11 c.args.row.now _ c.in_ok-a.ensures, field-is 23 11 c.args.row.now _ c.in_err-b.ensures))

pub returns-then-row-ne10 : goal.returns-then-row-ne10
unfolding line_of
returns-then-row-ne10 c =
    rw (sym c.in_ok-section.ensures, field-is 3 3 c.args.row.now _ c.in_ok-kind.ensures, field-is 6 3 c.args.row.now _ c.in_ok-p.ensures, field-is 9 3 c.args.row.now _ c.in_ok-q.ensures, field-is 12 11 c.args.row.now _ c.in_ok-a.ensures, field-is 23 11 c.args.row.now _ c.in_ok-b.ensures) (simp (ne_eqb _ _ c.if-row-ne10.true))

pub returns : goal.returns
unfolding line_of
returns c =
    rw (sym c.in_ok-section.ensures, field-is 3 3 c.args.row.now _ c.in_ok-kind.ensures, field-is 6 3 c.args.row.now _ c.in_ok-p.ensures, field-is 9 3 c.args.row.now _ c.in_ok-q.ensures, field-is 12 11 c.args.row.now _ c.in_ok-a.ensures, field-is 23 11 c.args.row.now _ c.in_ok-b.ensures) (simp (eq-eqb _ _ c.if-row-ne10.false))
