-- Each row before j is within its section's reach (Skipping.reach-most, reach-used).
use mathlib.Core.Path.{◌≡◌, ◌∙◌, ap}
use mathlib.Core.List.{List}
use Prim.Native.Nat.{ℕ, ◌<◌, max}
use native.Mathlib.Omega.{arith}
use lib.ListN.{get_or, take, length-set}
use Rattle.row.specs.Memory.{row_at}
use Rattle.turn.specs.Due.{due}
use Rattle.plan.specs.Tables.{count_of_points, points_in}
use Rattle.verdict.proofs.Skipping.{reach_most, reach_used}
use Rattle.verdict.proofs.reach.Goals as goal
use Rattle.verdict.proofs.reach.Goals.{After-max, After-section_of-s}

-- A turn, at row j
module _ (c : After-section_of-s) where
  abbrev ps : List ℕ
  ps = take (count_of_points c.args.plan.now) (points_in c.args.plan.now)

  small : c.section_of-s.result < 7
  small = omega (arith, c.section_of-s.ensures, c.requires.1 c.loop-j.j c.loop-j-test.true)

module _ (c : After-max) where
  -- the row is within what its section reaches now
  v-is : c.max.result ≡ max (get_or c.loop-j.reaches c.section_of-s.result 0) (due (ps c.before.before.before.before.before) (row_at c.args.rows.now c.loop-j.j))
  v-is = c.max.ensures ∙ ap (max (get_or c.loop-j.reaches c.section_of-s.result 0)) (c.due_with.ensures ∙ ap (due (ps c.before.before.before.before.before)) c.row_at.ensures)

pub loop-j-init : goal.loop-j-init
loop-j-init c = (c.requires.4, λ s. omega (arith, c.requires.5 s), λ i h. absurd (omega arith))

pub loop-j-preserved : goal.loop-j-preserved
loop-j-preserved c =
    let t = c.loop-j in
    let r = c.args.rows.now in
    let o = (goal.at.loop-j-preserved c).After-section_of-s in
    let v = v-is (goal.at.loop-j-preserved c).After-max in (
      length-set t.reaches c.section_of-s.result c.max.result ∙ t.invariant.0,
      reach_most r (ps o) t.reaches t.invariant.0 t.invariant.1 t.j t.invariant.2 c.section_of-s.result c.max.result c.section_of-s.ensures (small o) v,
      reach_used r (ps o) t.reaches t.invariant.0 t.invariant.1 t.j t.invariant.2 c.section_of-s.result c.max.result c.section_of-s.ensures (small o) v,
    )

pub returns : goal.returns
returns c =
    let t = c.loop-j in
    record { size = t.invariant.0; most = t.invariant.1; used = λ j h. t.invariant.2 j (omega (arith, c.loop-j-test.false)) }

pub offset_bounds-reaches-s : goal.offset_bounds-reaches-s
offset_bounds-reaches-s c = record { fits = omega (arith, small (goal.at.offset_bounds-reaches-s c).After-section_of-s) }

pub bounds-reaches-s : goal.bounds-reaches-s
bounds-reaches-s c =
    let o = (goal.at.bounds-reaches-s c).After-section_of-s in
    omega (arith, small o, c.loop-j.invariant.0)

pub offset_bounds-reaches-s-in-loop-j : goal.offset_bounds-reaches-s-in-loop-j
offset_bounds-reaches-s-in-loop-j c =
    record { fits = omega (arith, small (goal.at.offset_bounds-reaches-s-in-loop-j c).After-section_of-s) }

pub bounds-reaches-s-in-loop-j : goal.bounds-reaches-s-in-loop-j
bounds-reaches-s-in-loop-j c =
    let o = (goal.at.bounds-reaches-s-in-loop-j c).After-section_of-s in
    omega (arith, small o, c.loop-j.invariant.0)
