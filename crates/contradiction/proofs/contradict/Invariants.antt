-- What holds at each turn of the loops of `contradict`: the table has the links of the rows from number i on.
use mathlib.Core.Bool.{true, false}
use Rattle.links.specs.Table.{told, Tells, leads_on}
use Rattle.contradiction.specs.Table.{places}
use Rattle.contradiction.proofs.Entering.{links_from}
use Rattle.contradiction.proofs.contradict.Given as goal

abbrev pub invariant-loop-i : goal.invariant-loop-i
invariant-loop-i l = Tells places l.table (leads_on (told l.initial.table) (links_from l.rows true l.i l.n))

abbrev pub invariant-loop-i-2 : goal.invariant-loop-i-2
invariant-loop-i-2 l = Tells places l.table (leads_on (told l.initial.table) (links_from l.rows false l.i l.n))
