-- What holds at each turn of the loop of `read_rows`.
use mathlib.Core.Path.{◌≡◌}
use lib.ListN.{length}
use Rattle.sheet.proofs.Loop.{Within, Left, Rest}
use Rattle.sheet.proofs.read_rows.Given as goal

abbrev pub invariant-loop-i : goal.invariant-loop-i
invariant-loop-i l =
    (l.i-iterator.iter.size ≡ 35)
    × Rest l.s l.n l.i-iterator.count l.i-iterator.iter.rest.now
    × (length l.rows ≡ length l.initial.rows)
    × Within l.at l.i-iterator.count
    × Left l.k l.s l.n l.i-iterator.count l.at l.rows l.initial.rows
