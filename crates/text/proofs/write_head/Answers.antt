-- `write_head` meets its contract: two numbers and LF, one after another.
use mathlib.Core.Path.{◌≡◌, refl, ◌∙◌}
use lib.ListN.{length, length-set}
use Rattle.text.proofs.Widths.{three}
use Rattle.text.proofs.Ink.{head-inked}
use borrow.Author.Rules.{rules}
use Rattle.text.proofs.write_head.Goals as goal
use Rattle.text.proofs.write_head.Goals.{After-write_number-2}

-- the buffer's length is kept
kept : (c : After-write_number-2) → length c.write_number-2.new.buf ≡ length c.args.buf.now
kept c = c.write_number-2.auto.buf ∙ c.write_number.auto.buf

pub shape_of-buf : goal.shape_of-buf
shape_of-buf c = length-set c.write_number-2.new.buf _ _ ∙ kept (goal.at.shape_of-buf c).After-write_number-2

pub returns : goal.returns
returns c =
    let a = c.args in
    head-inked a.k a.n a.buf.now c.write_number.new.buf c.write_number-2.new.buf _ c.requires.0 c.write_number.auto.buf (kept (goal.at.returns c).After-write_number-2) c.write_number.ensures c.write_number-2.ensures refl

pub write_number-requires : goal.write_number-requires
write_number-requires c = (three _ c.requires.1, search rules)

pub write_number-requires-2 : goal.write_number-requires-2
write_number-requires-2 c = (three _ c.requires.2, search rules)
