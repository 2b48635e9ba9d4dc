-- What holds at each turn of the loop of `last_wanted`.
use mathlib.Core.Path.{◌≡◌}
use Rattle.introduction.specs.Bringing.{brought}
use Rattle.introduction.proofs.last_wanted.Given as goal

abbrev pub invariant-loop-j : goal.invariant-loop-j
invariant-loop-j l = brought l.rows l.section l.marks l.j ≡ brought l.rows l.section l.marks l.i
