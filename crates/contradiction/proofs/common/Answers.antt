-- `common` meets its contract: the set has what the rows from number i on have in common.
use Rattle.contradiction.proofs.Events.{none-narrow, one_narrows, all-narrow}
use Rattle.contradiction.proofs.common.Goals as goal

pub loop-i-init : goal.loop-i-init
loop-i-init c = let a = c.args in none-narrow a.table.now a.rows.now a.p a.n

pub loop-i-preserved : goal.loop-i-preserved
loop-i-preserved c =
    let l = c.loop-i in
    let a = c.args in
    one_narrows a.table.now a.rows.now a.p l.i a.n c.loop-i-test.true l.auto.i _ c.row_at.ensures l.set _ l.invariant c.shared-set.ensures

pub returns : goal.returns
returns c =
    let l = c.loop-i in
    let a = c.args in
    all-narrow a.table.now a.rows.now a.p l.i a.n l.set c.loop-i-test.false l.invariant
