-- Reading with document 01's refusal 11, as before document 02's A4 and else as now, for one statement: what was accepted gets the answers it got. What must be believed.
-- Assumes nothing.
use Rattle.std.specs.Prelude.{cond, List, ℕ, length, ltb, eqb}
use Rattle.scenario.specs.Sheet.{count}
use Rattle.sheet.specs.Reading.{Answer}
use Rattle.sheet.specs.Reading.{Taken, head_of, taken, sheet_of, refused, accepted}

-- document 01: "last 11 N over 4,096"
unfoldable pub closing_before : (k : ℕ) → Taken → Answer
closing_before k t =
    cond (eqb t.number 0)
    (cond (ltb 4096 (count (sheet_of k t.lines))) (refused 11 0) (accepted k (length t.lines) (count (sheet_of k t.lines))))
    (refused t.number t.row)

unfoldable pub answer_before : List ℕ → Answer
answer_before s = closing_before (head_of s).k (taken s)
