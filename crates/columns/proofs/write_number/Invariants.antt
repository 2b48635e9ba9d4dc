-- What holds at each turn of the loop of `write_number`.
use mathlib.Core.Path.{◌≡◌}
use Rattle.columns.specs.Spell.{left}
use Rattle.columns.proofs.Ink.{field}
use Rattle.columns.proofs.write_number.Given as goal

abbrev pub invariant-loop-i : goal.invariant-loop-i
invariant-loop-i l = field l.at (left l.i l.rest) l.i l.buf ≡ field l.at (left l.initial.i l.initial.rest) l.initial.i l.initial.buf
