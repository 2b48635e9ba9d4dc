-- What holds at each turn of the loop of `product_of`.
use mathlib.Core.Path.{◌≡◌}
use Prim.Native.Nat.{◌+◌, ◌*◌, ◌^◌, ◌≤◌, ◌-◌}
use Rattle.sheet.specs.Count.{product}
use Rattle.row.specs.Memory.{lines_in}
use Rattle.sheet.proofs.product_of.Given as goal

abbrev pub invariant-loop-factor : goal.invariant-loop-factor
invariant-loop-factor l =
    (l.total ≤ 352 ^ l.factor-index)
    × (l.total * product (l.factor-index + 1) (l.k - l.factor-index) (lines_in l.rows 0 l.n) ≡ product 1 l.k (lines_in l.rows 0 l.n))
