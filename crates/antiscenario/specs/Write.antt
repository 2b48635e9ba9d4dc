-- Write antiscenario m: its text, the answer, and what the buffer holds afterwards. What must be believed.
-- Assumes nothing.
use Rattle.std.specs.Prelude.{cond, ◌&&◌, List, ◌++◌, map, ℕ, length, drop, leb, eqb}
use Rattle.scenario.specs.Fields.{written}
use Rattle.row.specs.declared.Line.{Line}
use Rattle.sheet.specs.Reading.{sheet_of, taken, answer}
use Rattle.sheet.specs.Text.{sheet_text, numbers_of}
use Rattle.antiscenario.specs.Numbers.{no_such_number, buffer_too_short}

-- the rows of an antiscenario of a sheet's text, with their sections
unfoldable pub written_lines : (s : List ℕ) (number : ℕ) → List Line
written_lines s number = map numbers_of (written (sheet_of (answer s).k (taken s).lines) number)

-- "It is written as a sheet's first line (k, its row count) and rows, each with the section it came from."
unfoldable pub written_text : (s : List ℕ) (number : ℕ) → List ℕ
written_text s number = sheet_text (answer s).k (written_lines s number)

-- What writing gives: the refusal, or 0 and the text's length.
pub record Written : Type 0 where
  pub refusal : ℕ
  pub length : ℕ

abbrev pub no_text : ℕ → Written
no_text refusal = record { refusal = refusal; length = 0 }

-- "Sheet's refusals, 31, 32 buffer too short. Gives the text's length"
unfoldable pub write_of : (s : List ℕ) (number room : ℕ) → Written
write_of s number room =
    cond (eqb (answer s).refusal 0)
    (cond (leb 1 number && leb number (answer s).count)
    (cond (leb (length (written_text s number)) room) (record { refusal = 0; length = length (written_text s number) }) (no_text buffer_too_short))
    (no_text no_such_number))
    (no_text (answer s).refusal)

-- the buffer afterwards: the text at the front, "bytes after the text stay"; refused, it "writes nowhere"
unfoldable pub after_write : (s : List ℕ) (number : ℕ) (buf : List ℕ) → List ℕ
after_write s number buf = cond (eqb (write_of s number (length buf)).refusal 0) (written_text s number ++ drop (length (written_text s number)) buf) buf
