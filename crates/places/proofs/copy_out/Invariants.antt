-- What holds at each turn of the loop of `copy_out`.
use mathlib.Core.Path.{◌≡◌}
use mathlib.Core.List.{◌++◌, map}
use lib.ListN.{take, drop}
use Rattle.pattern.specs.Placing.{by}
use Rattle.plan.specs.Tables.{points_in}
use Rattle.places.proofs.copy_out.Given as goal

abbrev pub invariant-loop-j : goal.invariant-loop-j
invariant-loop-j l = l.places ≡ map (by l.positions) (take l.j (points_in l.plan)) ++ drop l.j l.initial.places
