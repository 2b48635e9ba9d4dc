-- `meets` meets its contract: one law to an arm, by the kind that the arm is for.
use mathlib.Core.Path.{ap, ◌∙◌}
use mathlib.Core.Bool.{not}
use Rattle.row.specs.Memory.{row_at}
use Rattle.pattern.proofs.Meeting.{met_1, met_9, met_10, met_11, met_12, met-placed, met-ordered, met-low, met-high}
use native.Mathlib.Omega.{arith}
use Rattle.pattern.proofs.meets.Goals as goal

pub returns-in-1 : goal.returns-in-1
returns-in-1 c =
    let a = c.args in
    let r = c.row_at-row in
    c.has.ensures ∙ met_1 a.run.now.words a.positions.now (row_at a.rows.now a.j) r.result.kind r.result.p r.result.q r.result.a r.result.b r.result.set c.at-x.result c.at-y.result c.args.run.now.held r.ensures c.at-x.ensures c.at-y.ensures c.in-1.is

pub returns-in-9 : goal.returns-in-9
returns-in-9 c =
    let a = c.args in
    let r = c.row_at-row in
    c.clear.ensures ∙ met_9 a.run.now.words a.positions.now (row_at a.rows.now a.j) r.result.kind r.result.p r.result.q r.result.a r.result.b r.result.set c.at-x.result c.at-y.result c.args.run.now.held r.ensures c.at-x.ensures c.at-y.ensures c.in-9.is

pub returns-in-10 : goal.returns-in-10
returns-in-10 c =
    let a = c.args in
    let r = c.row_at-row in
    c.near.ensures ∙ met_10 a.run.now.words a.positions.now (row_at a.rows.now a.j) r.result.kind r.result.p r.result.q r.result.a r.result.b r.result.set c.at-x.result c.at-y.result c.args.run.now.held r.ensures c.at-x.ensures c.at-y.ensures c.in-10.is

pub returns-in-11 : goal.returns-in-11
returns-in-11 c =
    let a = c.args in
    let r = c.row_at-row in
    ap not c.near-in-11.ensures ∙ met_11 a.run.now.words a.positions.now (row_at a.rows.now a.j) r.result.kind r.result.p r.result.q r.result.a r.result.b r.result.set c.at-x.result c.at-y.result c.args.run.now.held r.ensures c.at-x.ensures c.at-y.ensures c.in-11.is

pub returns-in-12 : goal.returns-in-12
returns-in-12 c =
    let a = c.args in
    let r = c.row_at-row in
    c.has-in-12.ensures ∙ met_12 a.run.now.words a.positions.now (row_at a.rows.now a.j) r.result.kind r.result.p r.result.q r.result.a r.result.b r.result.set c.at-x.result c.at-y.result c.args.run.now.held r.ensures c.at-x.ensures c.at-y.ensures c.in-12.is

pub returns-in-2-to-5 : goal.returns-in-2-to-5
returns-in-2-to-5 c =
    let a = c.args in
    let r = c.row_at-row in
    c.placed.ensures ∙ met-placed a.run.now.words a.positions.now (row_at a.rows.now a.j) r.result.kind r.result.p r.result.q r.result.a r.result.b r.result.set c.at-x.result c.at-y.result c.args.run.now.held r.ensures c.at-x.ensures c.at-y.ensures _ c.at.ensures (omega arith) (omega arith)

pub returns-in-6-to-8 : goal.returns-in-6-to-8
returns-in-6-to-8 c =
    let a = c.args in
    let r = c.row_at-row in
    c.ordered.ensures ∙ met-ordered a.run.now.words a.positions.now (row_at a.rows.now a.j) r.result.kind r.result.p r.result.q r.result.a r.result.b r.result.set c.at-x.result c.at-y.result c.args.run.now.held r.ensures c.at-x.ensures c.at-y.ensures (omega arith) (omega arith)

pub returns-in_default : goal.returns-in_default
returns-in_default c =
    let a = c.args in
    let r = c.row_at-row in
    met-low a.run.now.words a.positions.now (row_at a.rows.now a.j) r.result.kind r.result.p r.result.q r.result.a r.result.b r.result.set c.at-x.result c.at-y.result c.args.run.now.held r.ensures c.at-x.ensures c.at-y.ensures (omega arith)

pub returns-in_default-2 : goal.returns-in_default-2
returns-in_default-2 c =
    let a = c.args in
    let r = c.row_at-row in
    met-high a.run.now.words a.positions.now (row_at a.rows.now a.j) r.result.kind r.result.p r.result.q r.result.a r.result.b r.result.set c.at-x.result c.at-y.result c.args.run.now.held r.ensures c.at-x.ensures c.at-y.ensures (omega arith)
