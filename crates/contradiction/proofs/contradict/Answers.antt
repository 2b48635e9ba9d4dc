-- `contradict` meets its contract: by joined points, or by lower ones.
use mathlib.Core.Path.{◌≡◌, refl, ◌∙◌}
use mathlib.Core.Bool.{true, false}
use mathlib.Core.List.{map}
use native.Mathlib.Nat.{sub-zero}
use Rattle.std.proofs.Common.{rules, tests}
use Rattle.std.proofs.lemmas.Iterator.{YieldsList-from_range}
use Rattle.std.proofs.lemmas.Iterator.Search.{any_from_yields_List}
use Rattle.scenario.specs.Rows.{gather}
use Rattle.row.specs.Memory.{row_at, rows_of}
use Rattle.links.specs.Table.{told, Tells, leads_on, placed}
use Rattle.impossibility.specs.Impossible.{any}
use Rattle.contradiction.specs.Table.{places, place, links_of, torn, circling}
use Rattle.contradiction.proofs.Entering.{none-entered, more-entered, all-entered}
use Rattle.contradiction.proofs.Some.{any-numbered}
use Rattle.contradiction.proofs.Whole.{torn-impossible, circling-impossible}
use Rattle.contradiction.proofs.contradict.Goals as goal
use Rattle.contradiction.proofs.contradict.Goals.{After-any}

pub loop-i-init : goal.loop-i-init
loop-i-init c = none-entered c.args.rows.now true _ c.args.n c.begin.ensures.size

pub loop-i-preserved : goal.loop-i-preserved
loop-i-preserved c =
    let l = c.loop-i in
    more-entered c.args.rows.now true _ l.table _ l.i c.args.n c.loop-i-test.true l.auto.i _ c.row_at.ensures l.invariant c.enter_joins.ensures

pub loop-i-2-init : goal.loop-i-2-init
loop-i-2-init c = none-entered c.args.rows.now false _ c.args.n c.loop-i.invariant.size

pub loop-i-2-preserved : goal.loop-i-2-preserved
loop-i-2-preserved c =
    let l = c.loop-i-2 in
    more-entered c.args.rows.now false _ l.table _ l.i c.args.n c.loop-i-2-test.true l.auto.i _ c.row_at-in-loop-i-2.ensures l.invariant c.enter_lowers.ensures

-- what the table of joined points has, and what the rows tell by it
joined : (c : After-any) → Tells places c.loop-i.table (leads_on (told c.begin.new.table) (map (placed place) (gather (links_of true) (rows_of c.args.rows.now c.args.n))))
joined c = all-entered c.args.rows.now true _ c.loop-i.table c.loop-i.i c.args.n c.loop-i-test.false c.loop-i.invariant

told_torn : (c : After-any) → c.any.result ≡ any (torn c.loop-i.table (rows_of c.args.rows.now c.args.n)) (rows_of c.args.rows.now c.args.n)
unfolding rows_of
told_torn c =
    let rows = c.args.rows.now in
    let n = c.args.n in
    let tells = torn c.loop-i.table (rows_of rows n) in
    any_from_yields_List (λ j. tells (row_at rows j)) _ _ c.any.result c.any.ensures.ran (YieldsList-from_range 0 n n refl (sub-zero n)) (λ x b q k. search (rules, tests))
    ∙ any-numbered tells (row_at rows) 0 n

pub returns-then-any : goal.returns-then-any
returns-then-any c =
    let p = (goal.at.returns-then-any c).After-any in
    torn-impossible (rows_of c.args.rows.now c.args.n) c.requires.2 _ _ c.begin.ensures (joined p) _ (told_torn p) c.if-any.true

pub returns : goal.returns
unfolding rows_of
returns c =
    let p = (goal.at.returns c).After-any in
    let rows = c.args.rows.now in
    let n = c.args.n in
    let l = c.loop-i-2 in
    let tells = circling l.table in
    let said = any_from_yields_List (λ j. tells (row_at rows j)) _ _ c.any-2.result c.any-2.ensures.ran (YieldsList-from_range 0 n n refl (sub-zero n)) (λ x b q k. search (rules, tests))
    ∙ any-numbered tells (row_at rows) 0 n in
    circling-impossible (rows_of rows n) c.requires.2 _ _ c.begin.ensures (joined p) _ (told_torn p) c.if-any.false _ (all-entered rows false _ l.table l.i n c.loop-i-2-test.false l.invariant) _ said
