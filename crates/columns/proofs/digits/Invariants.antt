-- What holds at each turn of the loop of `digits`.
use mathlib.Core.Path.{◌≡◌}
use Prim.Native.Nat.{◌^◌, ◌<◌}
use lib.ListN.{drop}
use Rattle.columns.specs.Number.{numeral, scan}
use Rattle.columns.proofs.digits.Given as goal

abbrev pub invariant-loop-b : goal.invariant-loop-b
invariant-loop-b l = (l.v < 10 ^ l.b-index) × (numeral l.s ≡ scan l.v (drop l.b-index l.s))
