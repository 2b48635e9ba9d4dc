-- What holds at each turn of the loops of `deny_section`, and what falls.
use mathlib.Core.Path.{◌≡◌}
use Prim.Native.Nat.{◌-◌}
use Rattle.denial.specs.Build.{denial_from}
use Rattle.denial.proofs.deny_section.Given as goal

abbrev pub invariant-loop-i : goal.invariant-loop-i
invariant-loop-i l =
    (l.out ≡ l.initial.out) × (denial_from l.rows l.n l.section l.i (l.n - l.i) l.left ≡ denial_from l.rows l.n l.section 0 l.n l.j)
