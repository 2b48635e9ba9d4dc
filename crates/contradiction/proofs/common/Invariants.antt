-- What holds at each turn of the loop of `common`: the rows from number i on have the set in common.
use Rattle.contradiction.proofs.Events.{CommonFrom}
use Rattle.contradiction.proofs.common.Given as goal

abbrev pub invariant-loop-i : goal.invariant-loop-i
invariant-loop-i l = CommonFrom l.table l.rows l.p l.i l.n l.set
