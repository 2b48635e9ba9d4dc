-- `shared` meets its contract: the row asks no set, or not of a point that p leads to, or its set narrows.
use mathlib.Core.Path.{sym, ◌∙◌}
use Rattle.contradiction.proofs.Events.{asks_none, leads-not, narrowed}
use Rattle.contradiction.proofs.shared.Goals as goal
use Rattle.contradiction.proofs.shared.Goals.{else-asking-via-then-asking+else-leads, else-asking-via-else-asking}

pub returns-then-leads : goal.returns-then-leads
returns-then-leads c =
    let a = c.args in
    let row = a.row in
    narrowed a.table.now row.kind row.p row.q row.a row.b row.set a.p a.set (sym c.asking.ensures ∙ c.if-asking.true) (sym c.leads.ensures ∙ c.if-leads.true)

pub returns-else-asking : goal.returns-else-asking
returns-else-asking c =
    let a = c.args in
    let row = a.row in
    elim c.else-asking.branch [
      | else-asking-via-then-asking+else-leads w ↦
          leads-not a.table.now row.kind row.p row.q row.a row.b row.set a.p a.set (sym c.asking.ensures ∙ w.if-asking.true) (sym w.leads.ensures ∙ w.if-leads.false)
      | else-asking-via-else-asking w ↦ asks_none a.table.now row.kind row.p row.q row.a row.b row.set a.p a.set (sym c.asking.ensures ∙ w.if-asking.false)
    ]
