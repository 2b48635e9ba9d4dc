-- `write_row` meets its contract: six numbers and LF, one after another.
use mathlib.Core.Path.{◌≡◌, refl, ◌∙◌}
use lib.ListN.{length, length-set}
use Rattle.text.proofs.Widths.{three, eleven}
use Rattle.text.proofs.Ink.{row-inked}
use borrow.Author.Rules.{rules}
use Rattle.text.proofs.write_row.Goals as goal
use Rattle.text.proofs.write_row.Goals.{After-write_number, After-write_number-2, After-write_number-3, After-write_number-4, After-write_number-5, After-write_number-6}

-- From each number that was written: the buffer's length is kept

kept_1 : (c : After-write_number) → length c.write_number.new.buf ≡ length c.args.buf.now
kept_1 c = c.write_number.auto.buf

kept_2 : (c : After-write_number-2) → length c.write_number-2.new.buf ≡ length c.args.buf.now
kept_2 c = c.write_number-2.auto.buf ∙ c.write_number.auto.buf

kept_3 : (c : After-write_number-3) → length c.write_number-3.new.buf ≡ length c.args.buf.now
kept_3 c = c.write_number-3.auto.buf ∙ c.write_number-2.auto.buf ∙ c.write_number.auto.buf

kept_4 : (c : After-write_number-4) → length c.write_number-4.new.buf ≡ length c.args.buf.now
kept_4 c = c.write_number-4.auto.buf ∙ c.write_number-3.auto.buf ∙ c.write_number-2.auto.buf ∙ c.write_number.auto.buf

kept_5 : (c : After-write_number-5) → length c.write_number-5.new.buf ≡ length c.args.buf.now
kept_5 c = c.write_number-5.auto.buf ∙ c.write_number-4.auto.buf ∙ c.write_number-3.auto.buf ∙ c.write_number-2.auto.buf ∙ c.write_number.auto.buf

kept_6 : (c : After-write_number-6) → length c.write_number-6.new.buf ≡ length c.args.buf.now
kept_6 c = c.write_number-6.auto.buf ∙ c.write_number-5.auto.buf ∙ c.write_number-4.auto.buf ∙ c.write_number-3.auto.buf ∙ c.write_number-2.auto.buf ∙ c.write_number.auto.buf

pub shape_of-buf : goal.shape_of-buf
shape_of-buf c = length-set c.write_number-6.new.buf _ _ ∙ kept_6 (goal.at.shape_of-buf c).After-write_number-6

pub returns : goal.returns
returns c =
    row-inked c.args.line c.args.at c.args.buf.now
    c.write_number.new.buf c.write_number-2.new.buf c.write_number-3.new.buf c.write_number-4.new.buf c.write_number-5.new.buf c.write_number-6.new.buf _ c.requires.0
    (kept_1 (goal.at.returns c).After-write_number) (kept_2 (goal.at.returns c).After-write_number-2) (kept_3 (goal.at.returns c).After-write_number-3) (kept_4 (goal.at.returns c).After-write_number-4) (kept_5 (goal.at.returns c).After-write_number-5) (kept_6 (goal.at.returns c).After-write_number-6)
    c.write_number.ensures c.write_number-2.ensures c.write_number-3.ensures c.write_number-4.ensures c.write_number-5.ensures c.write_number-6.ensures refl

pub write_number-requires : goal.write_number-requires
write_number-requires c = (three _ c.requires.2.section, search rules)

pub write_number-requires-2 : goal.write_number-requires-2
write_number-requires-2 c = (three _ c.requires.2.kind, search rules)

pub write_number-requires-3 : goal.write_number-requires-3
write_number-requires-3 c = (three _ c.requires.2.p, search rules)

pub write_number-requires-4 : goal.write_number-requires-4
write_number-requires-4 c = (three _ c.requires.2.q, search rules)

pub write_number-requires-5 : goal.write_number-requires-5
write_number-requires-5 c = (eleven _ c.requires.2.a, search rules)

pub write_number-requires-6 : goal.write_number-requires-6
write_number-requires-6 c = (eleven _ c.requires.2.b, search rules)
