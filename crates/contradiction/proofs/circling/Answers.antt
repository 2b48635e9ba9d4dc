-- `circling` meets its contract: upward, downward, or neither.
use native.Mathlib.Omega.{arith}
use mathlib.Core.Path.{◌∙◌}
use Rattle.contradiction.proofs.Parts.{rises, falls, stays}
use Rattle.contradiction.proofs.Telling.{circles_up, circles_down, circles_not}
use Rattle.contradiction.proofs.circling.Goals as goal

pub returns-in-3 : goal.returns-in-3
returns-in-3 c =
    let row = c.args.row in
    c.leads.ensures ∙ circles_up c.args.table.now row.kind row.p row.q row.a row.b row.set (rises row.kind c.in-3.is)

pub returns-in-2 : goal.returns-in-2
returns-in-2 c =
    let row = c.args.row in
    let f = falls row.kind c.in-2.is in
    c.leads-in-2.ensures ∙ circles_down c.args.table.now row.kind row.p row.q row.a row.b row.set f.0 f.1

pub returns-in_default : goal.returns-in_default
returns-in_default c =
    let row = c.args.row in
    let s = stays row.kind (λ e. grind arith) (λ e. grind arith) (λ e. omega arith) in
    circles_not c.args.table.now row.kind row.p row.q row.a row.b row.set s.0 s.1
