-- What holds at each turn of the loop of `write_line`.
use mathlib.Core.Path.{◌≡◌}
use Prim.Native.Nat.{◌+◌}
use lib.ListN.{length, drop}
use Rattle.columns.specs.Ink.{inked}
use Rattle.report.specs.Printing.{line_text}
use Rattle.report.proofs.write_line.Given as goal

abbrev pub invariant-loop-value : goal.invariant-loop-value
invariant-loop-value l =
    (l.to + length (line_text l.width (drop l.value-index l.values)) ≡ l.at + length (line_text l.width l.values))
    × (inked l.to (line_text l.width (drop l.value-index l.values)) l.out ≡ inked l.at (line_text l.width l.values) l.initial.out)
