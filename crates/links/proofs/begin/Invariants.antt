-- What holds at each turn of the loop of `begin`.
use mathlib.Core.Path.{◌≡◌}
use Prim.Native.Nat.{ℕ, ◌^◌, ◌<◌}
use lib.ListN.{get_or}
use Rattle.links.proofs.begin.Given as goal

abbrev pub invariant-loop-set : goal.invariant-loop-set
invariant-loop-set l = (l.alone ≡ 2 ^ l.set-index) × ((i : ℕ) → i < l.set-index → get_or l.table i 0 ≡ 2 ^ i)
