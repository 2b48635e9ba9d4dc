-- `number` meets its contract: the spaces are passed, and what is left is read as a numeral.
use mathlib.Core.Path.{sym, ap, ◌∙◌}
use lib.Seq.{length-take-le}
use borrow.Author.Tests.{le-leb, lt-leb}
use Rattle.columns.specs.Number.{numeral, field_at}
use Rattle.columns.proofs.Scan.{to_end}
use borrow.Author.Rules.{rules}
use Rattle.columns.proofs.number.Goals as goal

pub returns-then-s-width : goal.returns-then-s-width
unfolding field_at
returns-then-s-width c = simp (lt-leb _ _ c.if-s-width.true)

pub slice_bounds-field-end : goal.slice_bounds-field-end
slice_bounds-field-end c = sym (length-take-le _ _ (search rules))

pub returns : goal.returns
unfolding field_at
returns c =
    simp (le-leb _ _ c.if-s-width.false)
    (c.digits.ensures ∙ ap numeral (to_end c.spaces-at.result _ ∙ c.spaces-at.ensures.1))
