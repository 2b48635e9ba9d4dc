-- Judge a placement of antiscenario m: the refusals before it, and the answer. What must be believed.
-- Assumes nothing.
use Rattle.std.specs.Prelude.{Bool, false, not, cond, List, ℕ, length, take, eqb}
use Rattle.scenario.specs.Rows.{points}
use Rattle.scenario.specs.Sheet.{antiscenario, matching}
use Rattle.sheet.specs.Reading.{answer as sheet-answer, sheet_in, count_in}
use Rattle.runlog.specs.Log.{answer as log-answer, run_in}
use Rattle.antiscenario.specs.Numbers.{number_refusal, wrong_number_of_positions}

-- "Sheet's refusals, the log's, 31 m not in 1 to N"; 0 where there is none of these
unfoldable pub refusal_of : (s l : List ℕ) (number : ℕ) → ℕ
refusal_of s l number =
    cond (not (eqb (sheet-answer s).refusal 0)) (sheet-answer s).refusal
    (cond (not (eqb (log-answer l).refusal 0)) (log-answer l).refusal
    (number_refusal (count_in s) number))

-- What judging gives: the refusal, or 0 and whether the placement is a matching.
pub record Judged : Type 0 where
  pub refusal : ℕ
  pub met : Bool

abbrev pub unjudged : ℕ → Judged
unjudged refusal = record { refusal = refusal; met = false }

-- Of positions handed over with their number: "34 number of positions not the number of points. Otherwise yes or no", yes where those up to the number are a
-- matching. Entries past the number play no part.
unfoldable pub judge_of : (s l : List ℕ) (number : ℕ) (positions : List ℕ) (count : ℕ) → Judged
judge_of s l number positions count =
    cond (not (eqb (refusal_of s l number) 0)) (unjudged (refusal_of s l number))
    (cond (not (eqb count (length (points (antiscenario (sheet_in s) number))))) (unjudged wrong_number_of_positions)
    (record { refusal = 0; met = matching (run_in l) (antiscenario (sheet_in s) number) (take count positions) }))
