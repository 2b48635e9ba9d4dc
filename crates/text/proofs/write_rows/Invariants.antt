-- What holds at each turn of the loop of `write_rows`.
use mathlib.Core.Path.{◌≡◌}
use Prim.Native.Nat.{◌-◌, ◌+◌, ◌*◌}
use Rattle.row.specs.Memory.{lines_in}
use Rattle.sheet.specs.Text.{rows_text}
use Rattle.columns.specs.Ink.{inked}
use Rattle.text.proofs.write_rows.Given as goal

abbrev pub invariant-loop-i : goal.invariant-loop-i
invariant-loop-i l =
    inked (7 + 35 * l.i) (rows_text (lines_in l.rows l.i (l.n - l.i))) l.buf ≡ inked 7 (rows_text (lines_in l.rows 0 l.n)) l.initial.buf
