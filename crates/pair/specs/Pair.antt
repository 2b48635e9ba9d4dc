-- A sheet and a log that are read one after the other: the refusal, or both in memory. Inner vocabulary.
-- Assumes nothing.
use Rattle.std.specs.Prelude.{◌≡◌, cond, List, ℕ, eqb}
use Rattle.run.specs.Maps.{Blank}
use Rattle.run.specs.Held.{Held, run_held}
use Rattle.runlog.specs.Log.{run_in, answer as log-answer}
use Rattle.sheet.specs.Reading.{sheet_in, answer as sheet-answer}
use Rattle.sheet.specs.Held.{sheet_at, SheetHeld}

-- "Sheet's refusals, then the log's"; 0 where both are accepted
unfoldable pub refusal_of : (s l : List ℕ) → ℕ
refusal_of s l = cond (eqb (sheet-answer s).refusal 0) (log-answer l).refusal (sheet-answer s).refusal

-- The sheet of the text s is in memory, with k consequents and so many rows, and the log of the text l; no maps are drawn.
pub record PairHeld (s l rows : List ℕ) (count k : ℕ) (run : List ℕ) : Type 0 where
  pub sheet_accepted : (sheet-answer s).refusal ≡ 0
  pub log_accepted : (log-answer l).refusal ≡ 0
  pub sheet : SheetHeld rows count k
  pub sheet_is : sheet_at rows count k ≡ sheet_in s
  pub held : Held run
  pub blank : Blank run
  pub run_is : run_held run ≡ run_in l
