-- What the program prints: refusal number and verdict; when violated, a line of the antecedent's positions and one of the rows at fault. What must be believed.
-- Assumes nothing.
use Rattle.std.specs.Prelude.{◌≡◌, Bool, true, false, cond, List, [], ◌∷◌, ◌++◌, ℕ, length}
use Rattle.columns.specs.Spell.{spell, fits_in}
use Rattle.scenario.specs.Reading.{All}
use Rattle.verdict.specs.Check.{Checked}
use Rattle.report.specs.declared.Report.{Report}
use Rattle.verdict.specs.Check.{front, placement_in, rows_in, check_of}

-- each number has a spelling in `width` columns
abbrev pub InColumns : (width : ℕ) → List ℕ → Type 0
InColumns width vs = All (λ (v : ℕ). fits_in width v ≡ true) vs

-- fields of one width side by side, and the line's end
unfoldable pub line_text : (width : ℕ) → List ℕ → List ℕ
line_text width [] = 10 ∷ []
line_text width (v ∷ vs) = spell width v ++ line_text width vs

-- document 01: verdict, 1 violated, else 0
abbrev pub verdict_number : Bool → ℕ
verdict_number true = 1
verdict_number false = 0

-- refusal (3 columns) and verdict (3); when violated positions (5 columns each) and rows at fault (4 each), lines that may have no field
unfoldable pub report_text : Checked → List ℕ
report_text c =
    line_text 3 (c.refusal ∷ verdict_number c.violated ∷ [])
    ++ cond c.violated (line_text 5 (placement_in c) ++ line_text 4 (rows_in c)) []

-- the text at the front of 64 bytes, and its length
unfoldable pub report_of : (s l : List ℕ) → Report
report_of s l = record { text = front 64 (report_text (check_of s l)); length = length (report_text (check_of s l)) }
