-- `read_lines` meets its contract: what is left from a line on is the whole.
use borrow.Author.Rules.{rules}
use mathlib.Core.Path.{◌≡◌, sym, ap, ◌∙◌}
use Prim.Native.Nat.{◌+◌, ◌≤◌, ◌<◌}
use lib.ListN.{length, take}
use lib.Seq.{length-take-le}
use Rattle.runlog.specs.Log.{line_of}
use Rattle.runlog.specs.Numbered.{numbered_line}
use Rattle.runlog.proofs.Loop.{left-start, left-on, left-stop, left-none, step-refused, from_first, from_next, from-length, part-line}
use Rattle.runlog.proofs.read_lines.Goals as goal
use Rattle.runlog.proofs.read_lines.Goals.{In-loop-i}

pub loop-i-init : goal.loop-i-init
loop-i-init c = (from_first c.args.log.now, left-start _ _ _ _)

turn : (c : In-loop-i) → c.loop-i.i < c.args.n
turn c = search rules

-- a line is left
line-left : (c : In-loop-i) → 15 ≤ length c.loop-i.rest.now
line-left c = from-length c.args.log.now c.loop-i.i c.args.n c.loop-i.rest.now c.loop-i.invariant.0 (turn c) c.requires.1

line-whole : (c : In-loop-i) → length (take 15 c.loop-i.rest.now) ≡ 15
line-whole c = length-take-le 15 c.loop-i.rest.now (line-left c)

pub slice_bounds-check_line-end : goal.slice_bounds-check_line-end
slice_bounds-check_line-end c = sym (line-whole (goal.at.slice_bounds-check_line-end c).In-loop-i)

pub check_line-requires : goal.check_line-requires
check_line-requires c = line-whole (goal.at.check_line-requires c).In-loop-i

pub enter-requires : goal.enter-requires
enter-requires c = search rules

pub slice_bounds-rest-start-in-loop-i : goal.slice_bounds-rest-start-in-loop-i
slice_bounds-rest-start-in-loop-i c = line-left (goal.at.slice_bounds-rest-start-in-loop-i c).In-loop-i

pub returns-in-Err : goal.returns-in-Err
returns-in-Err c =
    let l = c.loop-i in
    let e = sym (ap (line_of l.last) (part-line _ _ _ l.invariant.0)) ∙ sym c.check_line.ensures ∙ ap numbered_line c.in-Err.is in
    let told = left-stop _ _ _ _ _ _ _ l.invariant.1 _ (l.i + 1) (step-refused _ _ _ _ (turn (goal.at.returns-in-Err c).In-loop-i) _ e) in
    record { ok = tt; err = (told.0, told.1.0); words = told.1.1.1 }

pub loop-i-preserved : goal.loop-i-preserved
loop-i-preserved c =
    let l = c.loop-i in
    let e = sym (ap (line_of l.last) (part-line _ _ _ l.invariant.0)) ∙ sym c.check_line.ensures ∙ ap numbered_line c.in-Ok.is in
    (from_next _ l.i l.rest.now l.invariant.0, left-on _ _ _ _ _ _ _ l.invariant.1 _ _ (turn (goal.at.loop-i-preserved c).In-loop-i) e _ c.enter.ensures)

pub returns : goal.returns
returns c =
    let told = left-none _ _ _ _ _ _ _ c.loop-i.invariant.1 c.loop-i-test.false in record { ok = (sym told.0, told.1.1.0); err = tt; words = told.1.1.1 }
