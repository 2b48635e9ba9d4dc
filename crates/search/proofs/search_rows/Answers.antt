-- 33 and the search of `find` are the two arms of searchRows.
use mathlib.Core.Path.{◌≡◌, sym, ap, subst, ◌∙◌}
use mathlib.Core.List.{List}
use Prim.Native.Nat.{ℕ}
use native.Mathlib.Omega.{arith}
use lib.ListN.{length}
use Rattle.scenario.specs.Rows.{Row, Run, points}
use Rattle.scenario.specs.Search.{smallest_matching}
use Rattle.scenario.specs.Reading.{Pattern}
use Rattle.run.specs.Held.{run_held}
use Rattle.row.specs.Memory.{rows_of}
use Rattle.plan.specs.Tables.{count_of_points, count_of_rows, Drawn}
use Rattle.plan.specs.declared.Tables.{Tables}
use Rattle.placing.specs.Matching.{is_found}
use Rattle.search.specs.Searching.{filled}
use Rattle.search.proofs.Searching.{too_few, enough}
use Rattle.search.proofs.search_rows.Goals as goal
use Rattle.search.proofs.search_rows.Goals.{After-draw_maps, After-prepare-plan}

-- the plan, drawn up for all the rows
module _ (p : After-prepare-plan) where
  abbrev plan : Tables
  plan = p.prepare-plan.result.tables

  rows_are : count_of_rows plan ≡ p.args.count
  rows_are = p.prepare-plan.ensures.rows

  drawn : Drawn p.args.rows.now plan
  drawn = p.prepare-plan.ensures.drawn

  number : (k : ℕ) → k ≡ count_of_points plan → k ≡ length (points (rows_of p.args.rows.now p.args.count))
  number k e = e ∙ drawn.number ∙ ap (λ (n : ℕ). length (points (rows_of p.args.rows.now n))) rows_are

pub returns-then-places-point_count : goal.returns-then-places-point_count
returns-then-places-point_count c =
    let a = c.args in
    too_few (run_held a.run.now.words) (rows_of a.rows.now a.count) a.places.now c.point_count.result (number (goal.at.returns-then-places-point_count c).After-prepare-plan c.point_count.result c.point_count.ensures) c.if-places-point_count.true

-- there are enough places, and the maps may be drawn
module _ (d : After-draw_maps) where
  abbrev drawn_run : List ℕ
  drawn_run = d.draw_maps.new.run.words

  -- the run stays the same
  same : (rs : List Row) → smallest_matching (run_held drawn_run) rs ≡ smallest_matching (run_held d.args.run.now.words) rs
  same rs = ap (λ (g : Run). smallest_matching g rs) d.draw_maps.ensures.same

pub find-requires : goal.find-requires
find-requires c =
    (drawn (goal.at.find-requires c).After-prepare-plan, subst (λ (k : ℕ). Pattern (rows_of c.args.rows.now k)) (sym (rows_are (goal.at.find-requires c).After-prepare-plan)) c.requires.2, omega (arith, c.if-places-point_count.false, c.point_count.ensures))

pub returns : goal.returns
returns c =
    let a = c.args in
    enough (run_held a.run.now.words) (rows_of a.rows.now a.count) a.places.now c.point_count.result (number (goal.at.returns c).After-prepare-plan c.point_count.result c.point_count.ensures) _ _ c.if-places-point_count.false
    (c.find.ensures.found ∙ ap is_found (same (goal.at.returns c).After-draw_maps (rows_of a.rows.now (count_of_rows (plan (goal.at.returns c).After-prepare-plan)))) ∙ ap (λ (k : ℕ). is_found (smallest_matching (run_held a.run.now.words) (rows_of a.rows.now k))) (rows_are (goal.at.returns c).After-prepare-plan))
    (c.find.ensures.places ∙ ap (filled a.places.now) (same (goal.at.returns c).After-draw_maps (rows_of a.rows.now (count_of_rows (plan (goal.at.returns c).After-prepare-plan)))) ∙ ap (λ (k : ℕ). filled a.places.now (smallest_matching (run_held a.run.now.words) (rows_of a.rows.now k))) (rows_are (goal.at.returns c).After-prepare-plan))
