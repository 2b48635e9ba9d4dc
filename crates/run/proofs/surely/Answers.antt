-- `surely` meets its contract: the distance against the upper limit, then against the lower.
use mathlib.Core.Path.{sym, ◌∙◌}
use native.Mathlib.Omega.{arith}
use borrow.Author.Tests.{eq-eqb}
use Rattle.run.proofs.Logs.{sure_far, sure-below, sure-above}
use Rattle.run.proofs.surely.Goals as goal

pub returns-then-lo-eq0 : goal.returns-then-lo-eq0
returns-then-lo-eq0 c = eq-eqb _ _ c.if-lo-eq0.true ∙ sym (sure-below _ _ _ (omega (arith, c.if-d-hi.true)) c.if-lo-eq0.true)

pub returns-else-lo-eq0 : goal.returns-else-lo-eq0
returns-else-lo-eq0 c = sym (sure-above _ _ _ (omega (arith, c.if-d-hi.true)) c.if-lo-eq0.false)

pub returns-else-d-hi : goal.returns-else-d-hi
returns-else-d-hi c = let far = sure_far c.args.lo c.args.hi c.args.d (omega (arith, c.if-d-hi.false)) in grind (arith, far)
