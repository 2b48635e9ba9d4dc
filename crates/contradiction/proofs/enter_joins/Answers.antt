-- `enter_joins` meets its contract: both links of a SAME row, and none of another.
use mathlib.Core.Path.{refl, sym, ◌∙◌}
use mathlib.Core.Bool.{true, false}
use borrow.Author.Tests.{eq-eqb, ne_eqb}
use Rattle.contradiction.specs.Table.{upward, downward}
use Rattle.contradiction.proofs.Entering.{may_enter, link-entered, none_entered, row-entered}
use Rattle.contradiction.proofs.enter_joins.Goals as goal

pub enter-requires : goal.enter-requires
enter-requires c = may_enter c.args.table.now c.requires _ _ _ _ c.place-q.ensures c.place-p.ensures

pub enter-requires-then-row-eq-SAME : goal.enter-requires-then-row-eq-SAME
enter-requires-then-row-eq-SAME c = may_enter _ (c.enter.ensures.size ∙ c.requires) _ _ _ _ c.place-p.ensures c.place-q.ensures

pub returns-then-row-eq-SAME : goal.returns-then-row-eq-SAME
unfolding upward downward
returns-then-row-eq-SAME c =
    let row = c.args.row in
    let same = sym (eq-eqb row.kind 8 c.if-row-eq-SAME.true) in
    row-entered row.kind row.p row.q row.a row.b row.set true c.args.table.now _ _ _ _ true true c.place-p.ensures c.place-q.ensures same same
    (link-entered c.args.table.now c.requires _ _ _ c.enter.ensures) (link-entered _ (c.enter.ensures.size ∙ c.requires) _ _ _ c.enter-then-row-eq-SAME.ensures)

pub returns-else-row-eq-SAME : goal.returns-else-row-eq-SAME
unfolding upward downward
returns-else-row-eq-SAME c =
    let row = c.args.row in
    let other = sym (ne_eqb row.kind 8 c.if-row-eq-SAME.false) in
    row-entered row.kind row.p row.q row.a row.b row.set true c.args.table.now _ _ _ _ false false refl refl other other (none_entered _ c.requires) (none_entered _ c.requires)
