-- `write_number` meets its contract: what is left to write, with the memory so far, is the whole field.
use borrow.Author.Rules.{rules}
use mathlib.Core.Path.{◌∙◌}
use Prim.Native.Nat.{◌≤◌}
use Rattle.columns.proofs.Fits.{fits-parts}
use Rattle.columns.proofs.Ink.{ink_last, ink_left, ink_end}
use Rattle.columns.proofs.write_number.Goals as goal
use Rattle.columns.proofs.write_number.Goals.{Start}

-- what fits has a column
column : (c : Start) → 1 ≤ c.args.width
column c = (fits-parts c.args.width c.args.v c.requires.0).0

pub overflow_sub-last : goal.overflow_sub-last
overflow_sub-last c = let h = column (goal.at.overflow_sub-last c).Start in search rules

pub bounds-buf-at : goal.bounds-buf-at
bounds-buf-at c = let h = column (goal.at.bounds-buf-at c).Start in search rules

pub loop-i-preserved : goal.loop-i-preserved
loop-i-preserved c =
    let l = c.loop-i in
    rw c.left_byte.ensures (ink_left c.args.at l.i l.rest l.buf (search rules) (search rules)) ∙ l.invariant

pub returns : goal.returns
returns c =
    let l = c.loop-i in
    let a = c.args in
    let h = column (goal.at.returns c).Start in
    ink_end a.at l.i l.rest l.buf c.loop-i-test.false ∙ l.invariant
    ∙ rw c.last_byte.ensures (ink_last a.at a.width a.v a.buf.now (search rules) (search rules))
