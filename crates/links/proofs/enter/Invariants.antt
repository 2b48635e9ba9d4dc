-- What holds at each turn of the loop of `enter`.
use mathlib.Core.Path.{◌≡◌}
use Prim.Native.Nat.{ℕ, ◌≤◌, ◌<◌}
use lib.ListN.{get_or}
use Rattle.links.specs.Table.{told, entered}
use Rattle.links.proofs.enter.Given as goal

abbrev pub invariant-loop-set : goal.invariant-loop-set
invariant-loop-set l =
    ((i : ℕ) → i < l.set-index → (y : ℕ) → told l.table i y ≡ entered l.initial.table l.from l.to i y) × ((i : ℕ) → l.set-index ≤ i → get_or l.table i 0 ≡ get_or l.initial.table i 0)
