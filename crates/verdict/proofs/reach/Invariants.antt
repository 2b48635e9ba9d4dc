-- What holds at each turn of the loop of `reach`.
use mathlib.Core.Path.{◌≡◌}
use Prim.Native.Nat.{ℕ, ◌≤◌, ◌<◌}
use lib.ListN.{length, get_or, take}
use Rattle.row.specs.Memory.{section_at, row_at}
use Rattle.turn.specs.Due.{due}
use Rattle.plan.specs.Tables.{count_of_points, points_in}
use Rattle.verdict.proofs.reach.Given as goal

abbrev pub invariant-loop-j : goal.invariant-loop-j
invariant-loop-j l =
    (length l.reaches ≡ 7)
    × ((s : ℕ) → get_or l.reaches s 0 ≤ length (take (count_of_points l.plan) (points_in l.plan)))
    × ((i : ℕ) → i < l.j → due (take (count_of_points l.plan) (points_in l.plan)) (row_at l.rows i) ≤ get_or l.reaches (section_at l.rows i) 0)
