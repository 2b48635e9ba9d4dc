-- What document 02's A9 leaves as it was, where no two positions of the log are at a limit of the sheet. What must be believed.
-- Assumes nothing.
use Rattle.std.specs.Prelude.{◌≡◌, List, ℕ}
use Rattle.scenario.specs.Sheet.{matching, antiscenario}
use Rattle.scenario.specs.Search.{check, smallest_matching}
use Rattle.scenario.specs.Clock.{plain_run}
use Rattle.sheet.specs.Reading.{sheet_in}
use Rattle.runlog.specs.Log.{log_of, run_in}
use Rattle.verdict.specs.Check.{check_of, verdict_of}

-- The answers on the bytes s and l are those of the run with document 01's limits.
pub record Stays (s l : List ℕ) : Type 0 where
  -- the check's whole answer: the verdict, the placement and the rows at fault
  pub checked : check_of s l ≡ verdict_of (plain_run (log_of l)) (sheet_in s) (check (plain_run (log_of l)) (sheet_in s))
  -- of each number the matchings, and what its search finds
  pub matchings : (m : ℕ) (zs : List ℕ) → matching (run_in l) (antiscenario (sheet_in s) m) zs ≡ matching (plain_run (log_of l)) (antiscenario (sheet_in s) m) zs
  pub searched : (m : ℕ) → smallest_matching (run_in l) (antiscenario (sheet_in s) m) ≡ smallest_matching (plain_run (log_of l)) (antiscenario (sheet_in s) m)
