-- What holds at each turn of the loop of `read_lines`.
use Rattle.runlog.proofs.Loop.{Left, From}
use Rattle.runlog.proofs.read_lines.Given as goal

abbrev pub invariant-loop-i : goal.invariant-loop-i
invariant-loop-i l = From l.log l.i l.rest × Left l.log l.n l.start l.i l.last l.words l.initial.words
