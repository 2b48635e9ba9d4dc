-- Document 01's numbers for rows: a sheet's limits, and the refusals of a row. What must be believed.
-- Assumes nothing.
use Rattle.std.specs.Prelude.{ℕ}

-- "consequents k (at most 6), row count (at most 176)"
abbrev pub most_consequents : ℕ
most_consequents = 6

abbrev pub most_rows : ℕ
most_rows = 176

-- "the antecedent (at most 32 rows), .. the consequents (at most 24 rows each)"
abbrev pub most_antecedent_rows : ℕ
most_antecedent_rows = 32

abbrev pub most_consequent_rows : ℕ
most_consequent_rows = 24

-- 5 section above k or below the preceding row's
abbrev pub wrong_section : ℕ
wrong_section = 5

-- 6 kind unknown or not for this section
abbrev pub wrong_kind : ℕ
wrong_kind = 6

-- 7 p not the number due or not a permitted known point
abbrev pub wrong_p : ℕ
wrong_p = 7

-- 8 q, or a in kinds 4 and 5, not a permitted known point or not different
abbrev pub wrong_q : ℕ
wrong_q = 8

-- 9 an unused field not 0, an empty set, or a above b in kinds 10 and 11
abbrev pub wrong_field : ℕ
wrong_field = 9

-- 10 section too long
abbrev pub section_too_long : ℕ
section_too_long = 10
