-- What holds at each turn of the loop of `put_points`.
use Rattle.pattern.specs.Placing.{puts}
use mathlib.Core.Path.{◌≡◌}
use Rattle.pattern.proofs.put_points.Given as goal

abbrev pub invariant-loop-p : goal.invariant-loop-p
invariant-loop-p l = puts l.standing l.p-iterator.a.rest.now l.p-iterator.b.rest.now ≡ puts l.initial.standing l.points l.positions
