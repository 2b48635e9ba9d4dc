-- What holds at each turn of the loops of `build`, and what falls.
use mathlib.Core.Path.{◌≡◌}
use Prim.Native.Nat.{◌≤◌, ◌-◌, ◌+◌, ◌*◌}
use lib.ListN.{length}
use Rattle.row.specs.Memory.{lines_in, lay}
use Rattle.sheet.specs.Count.{product}
use Rattle.denial.specs.Build.{chosen_from}
use Rattle.denial.proofs.build.Given as goal

abbrev pub invariant-loop-s : goal.invariant-loop-s
invariant-loop-s l =
    (length l.out ≡ length l.initial.out)
    × (l.at + 3 ≤ 179 * l.s)
    × (1 ≤ l.total)
    × (l.total ≡ product l.s (l.k + 1 - l.s) (lines_in l.rows 0 l.n))
    × (lay l.at (chosen_from l.rows l.n l.s (l.k + 1 - l.s) l.left) l.out ≡ lay l.initial.at (chosen_from l.rows l.n 1 l.k l.j) l.initial.out)
    × (l.at + length (chosen_from l.rows l.n l.s (l.k + 1 - l.s) l.left) ≡ l.initial.at + length (chosen_from l.rows l.n 1 l.k l.j))
