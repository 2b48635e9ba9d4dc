-- `put_points` meets its contract: putting the points that are left, over what was put so far, puts all.
use Rattle.pattern.proofs.Placing.{puts-next, puts-end}
use Rattle.std.proofs.lemmas.Slice.Zip.{either_empty_from_Zip}
use mathlib.Core.Path.{sym, ◌∙◌}
use Rattle.pattern.proofs.put_points.Goals as goal

pub loop-p-preserved : goal.loop-p-preserved
loop-p-preserved c =
    puts-next c.loop-p.standing c.store.new.m _ _ _ _ c.in-Some.p.now c.in-Some.x.now c.store.ensures (c.in-Some.ensures.steps.0) (c.in-Some.ensures.steps.1)
    ∙ c.loop-p.invariant

pub returns : goal.returns
returns c = sym (puts-end c.loop-p.standing _ _ (either_empty_from_Zip c.loop-p.p-iterator c.next.new.self _ c.in-None.is c.next.ensures.steps)) ∙ c.loop-p.invariant
