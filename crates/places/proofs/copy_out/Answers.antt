-- Up to j the places hold the positions of the first j points, after it what they held before (Places.copied).
use mathlib.Core.Path.{subst, ◌≡◌, ap, ◌∙◌}
use native.Mathlib.Omega.{arith}
use mathlib.Core.List.{◌++◌, map}
use Prim.Native.Nat.{ℕ}
use lib.ListN.{set, take, drop}
use Rattle.pattern.specs.Placing.{by}
use Rattle.plan.specs.Tables.{count_of_points, points_in}
use Rattle.places.proofs.Places.{copied}
use Rattle.places.proofs.copy_out.Goals as goal

pub loop-j-preserved : goal.loop-j-preserved
loop-j-preserved c =
    let a = c.args in
    let l = c.loop-j in
    let few = c.point_count-count.ensures in
    ap (set l.places l.j) (c.at.ensures ∙ ap (by a.positions.now) c.point_at.ensures)
    ∙ copied (by a.positions.now) (points_in a.plan.now) a.places.now l.j (omega (arith, c.loop-j-test.true, few, c.requires.1)) (omega (arith, c.loop-j-test.true, few, c.requires.2)) l.places l.invariant

pub returns : goal.returns
returns c =
    let a = c.args in
    let e : c.loop-j.j ≡ count_of_points a.plan.now = omega (arith, c.loop-j-test.false, c.loop-j.auto.j-end, c.point_count-count.ensures) in
    subst (λ (k : ℕ). c.loop-j.places ≡ map (by a.positions.now) (take k (points_in a.plan.now)) ++ drop k a.places.now) e c.loop-j.invariant
