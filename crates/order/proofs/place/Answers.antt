-- `place` meets its contract: of a number below 10, or of another.
use borrow.Author.Tests.{lt-ltb, le-ltb}
use Rattle.order.specs.Leading.{place}
use Rattle.order.proofs.place.Goals as goal

pub returns-then-point-lt10 : goal.returns-then-point-lt10
unfolding place
returns-then-point-lt10 c = simp (lt-ltb _ _ c.if-point-lt10.true)

pub returns : goal.returns
unfolding place
returns c = simp (le-ltb _ _ c.if-point-lt10.false)
