-- What holds at each turn of the loops of `copy_section`, and what falls.
use mathlib.Core.Path.{◌≡◌}
use Prim.Native.Nat.{◌≤◌, ◌-◌, ◌+◌}
use lib.ListN.{length}
use Rattle.row.specs.Memory.{lines_in, lay}
use Rattle.denial.specs.Build.{of_section}
use Rattle.denial.proofs.copy_section.Given as goal

abbrev pub invariant-loop-i : goal.invariant-loop-i
invariant-loop-i l =
    (l.at ≤ l.i) × (length l.out ≡ length l.initial.out) × (lay l.at (of_section l.section (lines_in l.rows l.i (l.n - l.i))) l.out ≡ lay 0 (of_section l.section (lines_in l.rows 0 l.n)) l.initial.out) × (l.at + length (of_section l.section (lines_in l.rows l.i (l.n - l.i))) ≡ length (of_section l.section (lines_in l.rows 0 l.n)))
