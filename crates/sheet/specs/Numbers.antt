-- Document 01's numbers for reading a sheet: the refusals of its first line and of a malformed row, and the largest N. What must be believed.
-- Assumes nothing.
use Rattle.std.specs.Prelude.{ℕ, ◌*◌, ◌^◌}
use Rattle.rules.specs.Numbers.{most_rows}

-- document 02, A4: the largest N, as a row has at most 2 denials, a consequent at most 24 rows, and there are at most 6 consequents
abbrev pub most_antiscenarios : ℕ
most_antiscenarios = 48 ^ 6

-- in memory: six numbers to a row
abbrev pub sheet_room : ℕ
sheet_room = 6 * most_rows

-- 1 first line short or malformed
abbrev pub first_line_malformed : ℕ
first_line_malformed = 1

-- 2 k over 6 or row count over 176
abbrev pub over_limits : ℕ
over_limits = 2

-- 3 length is not 7 + 35 × rows
abbrev pub wrong_length : ℕ
wrong_length = 3

-- 4 row malformed
abbrev pub row_malformed : ℕ
row_malformed = 4
