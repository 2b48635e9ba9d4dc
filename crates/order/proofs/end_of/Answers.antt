-- `end_of` meets its contract: by two sets.
use mathlib.Core.Path.{◌∙◌}
use Rattle.order.proofs.Ending.{end_is}
use Rattle.order.proofs.end_of.Goals as goal

pub returns : goal.returns
returns c =
    let a = c.args in
    c.lowest.ensures ∙ end_is _ _ a.line _ _ _ _ _ c.led_to-beyond.ensures c.in_order-ordered.ensures
