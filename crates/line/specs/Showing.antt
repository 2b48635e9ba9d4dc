-- Show the line: the bytes of the line that the check's refusal is about, a part of the sheet or of the log. What must be believed.
-- Assumes nothing.
use Rattle.std.specs.Prelude.{Bool, true, false, not, cond, ◌&&◌, List, ℕ, ◌+◌, ◌-◌, ◌*◌, ◌≤◌, min, length, take, drop, eqb, leb}
use Rattle.scenario.specs.Log.{most_lines}
use Rattle.sheet.specs.Reading.{answer as sheet-answer}
use Rattle.runlog.specs.Log.{answer as log-answer}

-- The check's refusal, or 0, and the part that it is about: whether of the log or of the sheet, from where to where.
pub record Part : Type 0 where
  pub refusal : ℕ
  pub log : Bool
  pub from : ℕ
  pub to : ℕ

abbrev pub part : (refusal : ℕ) (log : Bool) (from to : ℕ) → Part
part refusal log from to = record { refusal = refusal; log = log; from = from; to = to }

-- Of a text t whose first line has `first` bytes and whose other lines have `wide`: for the refusals from low to high the line's bytes; for the others the first
-- line, or all if shorter.
unfoldable pub line_part : (log : Bool) (first wide low high : ℕ) → (t : List ℕ) (refusal line : ℕ) → Part
line_part log first wide low high t refusal line =
    cond (leb low refusal && leb refusal high) (part refusal log (first + wide * (line - 1)) (first + wide * (line - 1) + wide))
    (part refusal log 0 (min first (length t)))

-- for 4 to 10 the row's 35 bytes; for 1 to 3 (and 11, which is never given) the sheet's first 7, or all if shorter
abbrev pub sheet_part : (s : List ℕ) (refusal row : ℕ) → Part
sheet_part s refusal row = line_part false 7 35 4 10 s refusal row

-- for 24 to 26 the line's 15 bytes; for 21 to 23 and 27 the log's first 28, or all if shorter
abbrev pub log_part : (l : List ℕ) (refusal line : ℕ) → Part
log_part l refusal line = line_part true 28 15 24 26 l refusal line

-- the sheet's refusals, then the log's; nothing refused, the empty part at the sheet's front
unfoldable pub part_of : (s l : List ℕ) → Part
part_of s l =
    cond (not (eqb (sheet-answer s).refusal 0)) (sheet_part s (sheet-answer s).refusal (sheet-answer s).row)
    (cond (not (eqb (log-answer l).refusal 0)) (log_part l (log-answer l).refusal (log-answer l).line)
    (part 0 false 0 0))

-- the text that a part is of
abbrev pub text_of : (s l : List ℕ) → Part → List ℕ
text_of s l x = cond x.log l s

-- what show the line hands back
unfoldable pub shown_line : (s l : List ℕ) → List ℕ
shown_line s l = take ((part_of s l).to - (part_of s l).from) (drop (part_of s l).from (text_of s l (part_of s l)))

-- the part lies inside its text
pub record Inside (s l : List ℕ) (x : Part) : Type 0 where
  pub order : x.from ≤ x.to
  pub end : x.to ≤ length (text_of s l x)

-- a row or line, of `wide` bytes, is one of those that stand behind the first line, of `first` bytes
pub record Stands (size first wide line : ℕ) : Type 0 where
  pub low : 1 ≤ line
  pub high : first + wide * line ≤ size
  pub few : line ≤ most_lines
