-- `enter_row` meets its contract: upward, or the other way.
use Rattle.order.proofs.Entering.{link_fits, sized, upward-link, downward-link}
use Rattle.order.proofs.enter_row.Goals as goal

pub enter-requires : goal.enter-requires
enter-requires c = link_fits c.args.table.now c.requires _ _ _ _ c.place.ensures c.place-then-upward.ensures

pub returns-then-upward : goal.returns-then-upward
returns-then-upward c =
    let a = c.args in upward-link a.line a.table.now _ _ _ a.upward c.if-upward.true c.place.ensures c.place-then-upward.ensures (sized a.table.now _ _ c.requires c.enter.ensures)

pub enter-requires-2 : goal.enter-requires-2
enter-requires-2 c = link_fits c.args.table.now c.requires _ _ _ _ c.place-2.ensures c.place-3.ensures

pub returns : goal.returns
returns c =
    let a = c.args in downward-link a.line a.table.now _ _ _ a.upward c.if-upward.false c.place-2.ensures c.place-3.ensures (sized a.table.now _ _ c.requires c.enter-2.ensures)
