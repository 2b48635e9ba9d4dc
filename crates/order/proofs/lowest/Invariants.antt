-- What holds at each turn of the loop of `lowest`.
use mathlib.Core.Path.{◌≡◌}
use Prim.Native.Nat.{◌≤◌}
use Rattle.scenario.specs.Rows.{first_or}
use Rattle.order.specs.Ending.{antecedent_points, may_end_in}
use Rattle.order.proofs.Ending.{first_from}
use Rattle.order.proofs.lowest.Given as goal

abbrev pub invariant-loop-z : goal.invariant-loop-z
invariant-loop-z l =
    (1 ≤ l.z) × (l.z ≤ 5) × (first_from l.long (may_end_in l.beyond l.ordered l.q) l.z ≡ first_or l.long (may_end_in l.beyond l.ordered l.q) antecedent_points)
