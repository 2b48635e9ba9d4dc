-- `in_order` meets its contract: q is the edge, or the antecedent's rows tell.
use Rattle.order.proofs.Ending.{everywhere, by_rows}
use Rattle.order.proofs.in_order.Goals as goal

pub returns-then-q-edge : goal.returns-then-q-edge
returns-then-q-edge c = everywhere _ _ _ _ _ c.if-q-edge.true

pub returns : goal.returns
returns c = by_rows _ _ _ _ _ c.if-q-edge.false _ c.led_to.ensures
