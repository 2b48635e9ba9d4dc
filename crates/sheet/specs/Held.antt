-- A sheet in memory: its rows, six numbers to a row, as reading leaves them. Inner vocabulary.
-- Assumes nothing.
use Rattle.std.specs.Prelude.{◌≡◌, List, ◌∷◌, ℕ, ◌≤◌, length}
use Rattle.rules.specs.Numbers.{most_rows}
use Rattle.scenario.specs.Sheet.{Sheet, count}
use Rattle.scenario.specs.Fields.{tagged, fields, five}
use Rattle.scenario.specs.Reading.{SheetRead, All}
use Rattle.sheet.specs.Reading.{sheet_of}
use Rattle.row.specs.Memory.{lines_in, tags_of}
use Rattle.row.specs.declared.Line.{Line}
use Rattle.row.specs.Row.{row_in}
use Rattle.sheet.specs.Reading.{Answer}
use Rattle.sheet.specs.Numbers.{sheet_room}
use Rattle.sheet.specs.Text.{Fits}

-- the sheet whose rows are in memory
abbrev pub sheet_at : (rows : List ℕ) (count k : ℕ) → Sheet
sheet_at rows count k = sheet_of k (lines_in rows 0 count)

-- it is one that reading accepts, its sections in order
pub record SheetHeld (rows : List ℕ) (count k : ℕ) : Type 0 where
  pub read : SheetRead (sheet_at rows count k)
  pub tags : tags_of rows count ≡ tagged 0 ((sheet_at rows count k).antecedent ∷ (sheet_at rows count k).consequents)
  pub few : count ≤ most_rows
  pub consequents : length (sheet_at rows count k).consequents ≡ k

-- The rows of an accepted sheet are in memory, of which reading gave this answer: so many rows, k and N.
pub record SheetLoaded (rows : List ℕ) (read : Answer) : Type 0 where
  pub held : SheetHeld rows read.rows read.k
  -- "fields a kind doesn't mention are 0", and each number fits its columns
  pub numbers : All (λ (l : Line). fields (row_in l) ≡ five l.kind l.p l.q l.a l.b) (lines_in rows 0 read.rows)
  pub columns : All Fits (lines_in rows 0 read.rows)
  pub count : read.count ≡ count (sheet_at rows read.rows read.k)
  pub room : sheet_room ≤ length rows
