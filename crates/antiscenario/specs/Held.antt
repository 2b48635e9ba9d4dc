-- An antiscenario in memory, and beside it a log. Inner vocabulary.
-- Assumes nothing.
use Rattle.std.specs.Prelude.{◌≡◌, List, map, ℕ, ◌*◌, ◌≤◌, length}
use Rattle.scenario.specs.Fields.{written}
use Rattle.scenario.specs.Sheet.{Sheet, antiscenario}
use Rattle.scenario.specs.Reading.{All, Pattern}
use Rattle.row.specs.Memory.{lines_in, rows_of}
use Rattle.sheet.specs.Text.{Fits, numbers_of}
use Rattle.sheet.specs.Reading.{answer, sheet_in}
use Rattle.run.specs.Maps.{Blank}
use Rattle.run.specs.Held.{Held, run_held}
use Rattle.runlog.specs.Log.{run_in}

-- Antiscenario `number` of a sheet is in memory: `count` rows, six numbers to a row.
pub record AntiscenarioHeld (sheet : Sheet) (number : ℕ) (rows : List ℕ) (count : ℕ) : Type 0 where
  -- its rows, which can be searched and judged
  pub rows_are : rows_of rows count ≡ antiscenario sheet number
  pub pattern : Pattern (rows_of rows count)
  -- the same as they are written, "each with the section it came from", each number in its columns
  pub lines_are : lines_in rows 0 count ≡ map numbers_of (written sheet number)
  pub columns : All Fits (lines_in rows 0 count)
  -- no more than the sheet's 176 rows and 3 for each of 6 consequents
  pub few : count ≤ 194
  pub room : 6 * count ≤ length rows

-- Antiscenario `number` of the sheet s is in memory, and k is the sheet's number of consequents.
pub record TextHeld (s : List ℕ) (number : ℕ) (rows : List ℕ) (k count : ℕ) : Type 0 where
  pub accepted : (answer s).refusal ≡ 0
  pub low : 1 ≤ number
  pub high : number ≤ (answer s).count
  pub consequents : k ≡ (answer s).k
  pub few_consequents : k ≤ 6
  pub rows_held : AntiscenarioHeld (sheet_in s) number rows count

-- Antiscenario `number` of the sheet s and the log l are in memory: `count` rows, six numbers to a row, and the log's run, of which no maps are drawn.
pub record Ready (s l : List ℕ) (number : ℕ) (rows : List ℕ) (count : ℕ) (run : List ℕ) : Type 0 where
  pub held : Held run
  pub blank : Blank run
  pub run_is : run_held run ≡ run_in l
  pub rows_held : AntiscenarioHeld (sheet_in s) number rows count
