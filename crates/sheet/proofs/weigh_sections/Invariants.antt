-- What holds at each turn of the loop of `weigh_sections`.
use Rattle.sheet.proofs.Count.{Sums}
use Rattle.sheet.proofs.weigh_sections.Given as goal

abbrev pub invariant-loop-i : goal.invariant-loop-i
invariant-loop-i l = Sums l.rows l.denials l.i l.n
