-- `advance` meets its contract: a law for each kind that places a point, and one for the tests.
use borrow.Author.Rules.{rules}
use Rattle.row.specs.Memory.{row_at}
use Rattle.consequent.proofs.Advancing.{advanced_point, advanced_next, advanced_last, advanced_earlier, advanced_later, advanced_test}
use Rattle.consequent.proofs.advance.Goals as goal

pub returns-in-1 : goal.returns-in-1
returns-in-1 c =
    let a = c.args in
    let k = c.row_at-row.result in
    let told =
    advanced_point a.run.now.words a.positions.now (row_at a.rows.now a.j) k.kind k.p k.q k.a k.b k.set c.at-y.result c.args.run.now.held c.row_at-row.ensures c.at-y.ensures c.in-1.is in
    record { met = told.0; placed = told.1 }

pub returns-in-2 : goal.returns-in-2
returns-in-2 c =
    let a = c.args in
    let k = c.row_at-row.result in
    let told =
    advanced_next a.run.now.words a.positions.now (row_at a.rows.now a.j) k.kind k.p k.q k.a k.b k.set c.at-y.result c.args.run.now.held c.row_at-row.ensures c.at-y.ensures
    c.first_after.result c.put.result c.put.new.positions c.put.ensures.found c.put.ensures.placed c.in-2.is c.first_after.ensures in
    record { met = told.0; placed = told.1 }

pub returns-in-3 : goal.returns-in-3
returns-in-3 c =
    let a = c.args in
    let k = c.row_at-row.result in
    let told =
    advanced_last a.run.now.words a.positions.now (row_at a.rows.now a.j) k.kind k.p k.q k.a k.b k.set c.at-y.result c.args.run.now.held c.row_at-row.ensures c.at-y.ensures
    c.last_before.result c.put-in-3.result c.put-in-3.new.positions c.put-in-3.ensures.found c.put-in-3.ensures.placed c.in-3.is c.last_before.ensures in
    record { met = told.0; placed = told.1 }

pub returns-in-4 : goal.returns-in-4
returns-in-4 c =
    let a = c.args in
    let k = c.row_at-row.result in
    let told =
    advanced_earlier a.run.now.words a.positions.now (row_at a.rows.now a.j) k.kind k.p k.q k.a k.b k.set c.at-y.result c.args.run.now.held c.row_at-row.ensures c.at-y.ensures
    c.at.result c.min-x.result c.store.new.m c.at.ensures c.store.ensures c.in-4.is c.min-x.ensures in
    record { met = told.0; placed = told.1 }

pub returns-in-5 : goal.returns-in-5
returns-in-5 c =
    let a = c.args in
    let k = c.row_at-row.result in
    let told =
    advanced_later a.run.now.words a.positions.now (row_at a.rows.now a.j) k.kind k.p k.q k.a k.b k.set c.at-y.result c.args.run.now.held c.row_at-row.ensures c.at-y.ensures
    c.at-in-5.result c.max-x.result c.store-in-5.new.m c.at-in-5.ensures c.store-in-5.ensures c.in-5.is c.max-x.ensures in
    record { met = told.0; placed = told.1 }

pub returns-in_default : goal.returns-in_default
returns-in_default c =
    let a = c.args in
    let k = c.row_at-row.result in
    let told =
    advanced_test a.run.now.words a.positions.now (row_at a.rows.now a.j) k.kind k.p k.q k.a k.b k.set c.at-y.result c.args.run.now.held c.row_at-row.ensures c.at-y.ensures
    (search rules) (search rules) (search rules) (search rules) (search rules) c.meets.result c.meets.ensures in
    record { met = told.0; placed = told.1 }
