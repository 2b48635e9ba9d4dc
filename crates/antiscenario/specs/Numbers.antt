-- Document 01's numbers for antiscenarios: the refusals of writing and judging that are not the sheet's or the log's. What must be believed.
-- Assumes nothing.
use Rattle.std.specs.Prelude.{cond, not, ◌&&◌, List, ℕ, leb, eqb}
use Rattle.sheet.specs.Reading.{answer}

-- 31 m not in 1 to N
abbrev pub no_such_number : ℕ
no_such_number = 31

-- the refusal of a number where there are so many antiscenarios, or 0
abbrev pub number_refusal : (count number : ℕ) → ℕ
number_refusal count number = cond (not (leb 1 number && leb number count)) no_such_number 0

-- "Sheet's refusals, 31"; 0 where there is none of these
unfoldable pub text_refusal : (s : List ℕ) (number : ℕ) → ℕ
text_refusal s number = cond (not (eqb (answer s).refusal 0)) (answer s).refusal (number_refusal (answer s).count number)

-- 32 buffer too short
abbrev pub buffer_too_short : ℕ
buffer_too_short = 32

-- 34 number of positions not the number of points
abbrev pub wrong_number_of_positions : ℕ
wrong_number_of_positions = 34
