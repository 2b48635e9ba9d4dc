-- What holds at each turn of the loop of `leading_rows`.
use mathlib.Core.Path.{◌≡◌}
use Prim.Native.Nat.{◌+◌, ◌-◌}
use Rattle.row.specs.Memory.{listed, tag_at, tags_of}
use Rattle.pair.specs.Antecedent.{leading}
use Rattle.pair.proofs.leading_rows.Given as goal

abbrev pub invariant-loop-j : goal.invariant-loop-j
invariant-loop-j l = l.j + leading (listed (tag_at l.rows) l.j (l.count - l.j)) ≡ leading (tags_of l.rows l.count)
