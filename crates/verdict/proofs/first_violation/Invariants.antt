-- What holds at each turn of the loops of `first_violation`, and what falls.
use mathlib.Core.List.{map}
use lib.ListN.{length}
use Rattle.scenario.specs.Rows.{points}
use Rattle.run.specs.Words.{events_in, line_count}
use Rattle.run.specs.Held.{part, run_held}
use Rattle.row.specs.Memory.{rows_of}
use Rattle.sheet.specs.Held.{sheet_at}
use Rattle.pattern.specs.Placing.{by}
use Rattle.plan.specs.Tables.{count_of_rows}
use Rattle.verdict.proofs.Loop.{still, Turning}
use Rattle.verdict.proofs.first_violation.Given as goal

abbrev pub invariant-loop-c : goal.invariant-loop-c
invariant-loop-c l = Turning (run_held l.run.words) (sheet_at l.rows l.count l.k) (line_count l.run.words) l.rows l.plan.tables l.positions

abbrev pub decreases-loop-c : goal.decreases-loop-c
decreases-loop-c l =
    still (length (part (events_in l.run.words) (line_count l.run.words))) (length (points (rows_of l.rows (count_of_rows l.plan.tables)))) (map (by l.positions) (points (rows_of l.rows (count_of_rows l.plan.tables))))
