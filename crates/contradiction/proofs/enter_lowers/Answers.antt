-- `enter_lowers` meets its contract: the upward link, the downward one, or none.
use native.Mathlib.Omega.{arith}
use mathlib.Core.Path.{sym, ◌∙◌}
use mathlib.Core.Bool.{true, false}
use Rattle.contradiction.proofs.Parts.{one_way, rises, falls, stays}
use Rattle.contradiction.proofs.Entering.{may_enter, link-entered, none_entered, row-entered}
use Rattle.contradiction.proofs.enter_lowers.Goals as goal

pub enter-requires : goal.enter-requires
enter-requires c = may_enter c.args.table.now c.requires _ _ _ _ c.place-p.ensures c.place-q.ensures

pub enter-requires-in-2 : goal.enter-requires-in-2
enter-requires-in-2 c = may_enter c.args.table.now c.requires _ _ _ _ c.place-q.ensures c.place-p.ensures

pub returns-in-3 : goal.returns-in-3
returns-in-3 c =
    let row = c.args.row in
    let up = rises row.kind c.in-3.is in
    row-entered row.kind row.p row.q row.a row.b row.set false c.args.table.now _ _ _ _ false true c.place-p.ensures c.place-q.ensures (sym (one_way row.kind up)) (sym up)
    (none_entered c.args.table.now c.requires) (link-entered c.args.table.now c.requires _ _ _ c.enter.ensures)

pub returns-in-2 : goal.returns-in-2
returns-in-2 c =
    let row = c.args.row in
    let down = falls row.kind c.in-2.is in
    row-entered row.kind row.p row.q row.a row.b row.set false c.args.table.now _ _ _ _ true false c.place-p.ensures c.place-q.ensures (sym down.1) (sym down.0)
    (link-entered c.args.table.now c.requires _ _ _ c.enter-in-2.ensures) (none_entered _ (c.enter-in-2.ensures.size ∙ c.requires))

pub returns-in_default : goal.returns-in_default
returns-in_default c =
    let row = c.args.row in
    let none = stays row.kind (λ e. grind arith) (λ e. grind arith) (λ e. omega arith) in
    row-entered row.kind row.p row.q row.a row.b row.set false c.args.table.now _ _ _ _ false false c.place-p.ensures c.place-q.ensures (sym none.1) (sym none.0)
    (none_entered c.args.table.now c.requires) (none_entered c.args.table.now c.requires)
