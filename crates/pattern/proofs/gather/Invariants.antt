-- What holds at each turn of the loop of `gather`.
use Rattle.pattern.proofs.Points.{rest}
use mathlib.Core.Path.{◌≡◌}
use mathlib.Core.List.{◌++◌}
use Prim.Native.Nat.{◌≤◌}
use lib.ListN.{length, take}
use Rattle.scenario.specs.Rows.{points as points_of}
use Rattle.row.specs.Memory.{rows_of}
use Rattle.pattern.proofs.gather.Given as goal

abbrev pub invariant-loop-j : goal.invariant-loop-j
invariant-loop-j l =
    (l.point_count ≤ length l.points) × (take l.point_count l.points ++ rest l.rows l.count l.j l.j ≡ points_of (rows_of l.rows l.count))
