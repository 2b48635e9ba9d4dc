-- Rows in memory, six numbers to a row. Inner vocabulary.
-- Assumes nothing.
use Rattle.std.specs.Prelude.{List, [], ◌∷◌, ℕ, zero, suc, ◌+◌, ◌*◌, get_or, set}
use Rattle.row.specs.declared.Line.{Line}
use Rattle.scenario.specs.Rows.{Row}
use Rattle.scenario.specs.Fields.{Tagged}
use Rattle.row.specs.Row.{six, row_in}

-- the memory with a row stored as number i, from 0
unfoldable pub put : ℕ → Line → List ℕ → List ℕ
put i l m =
    set (set (set (set (set (set m (6 * i) l.section) (6 * i + 1) l.kind) (6 * i + 2) l.p) (6 * i + 3) l.q) (6 * i + 4) l.a) (6 * i + 5) l.b

-- rows stored from number i on
unfoldable pub lay : ℕ → List Line → List ℕ → List ℕ
lay i [] m = m
lay i (l ∷ ls) m = lay (suc i) ls (put i l m)

-- the six numbers of row number i, by their columns' names
abbrev pub section_at : List ℕ → ℕ → ℕ
section_at m i = get_or m (6 * i) 0

abbrev pub kind_at : List ℕ → ℕ → ℕ
kind_at m i = get_or m (6 * i + 1) 0

abbrev pub p_at : List ℕ → ℕ → ℕ
p_at m i = get_or m (6 * i + 2) 0

abbrev pub q_at : List ℕ → ℕ → ℕ
q_at m i = get_or m (6 * i + 3) 0

abbrev pub a_at : List ℕ → ℕ → ℕ
a_at m i = get_or m (6 * i + 4) 0

abbrev pub b_at : List ℕ → ℕ → ℕ
b_at m i = get_or m (6 * i + 5) 0

-- the row with number i, and `left` rows from number i on
unfoldable pub line_in : List ℕ → ℕ → Line
line_in m i = six (section_at m i) (kind_at m i) (p_at m i) (q_at m i) (a_at m i) (b_at m i)

unfoldable pub lines_in : List ℕ → (i left : ℕ) → List Line
lines_in m i zero = []
lines_in m i (suc left) = line_in m i ∷ lines_in m (suc i) left

-- the same as rows of a scenario: the one with number j, and the first `count`
unfoldable pub row_at : List ℕ → ℕ → Row
row_at rows j = row_in (line_in rows j)

module _ {A : Type 0} where
  -- the values of f at j and the numbers after it
  unfoldable pub listed : (ℕ → A) → (j left : ℕ) → List A
  listed f j zero = []
  listed f j (suc left) = f j ∷ listed f (suc j) left

unfoldable pub rows_of : List ℕ → ℕ → List Row
rows_of rows count = listed (row_at rows) 0 count

-- with their sections
abbrev pub tag_at : List ℕ → ℕ → Tagged
tag_at rows j = record { section = section_at rows j; row = row_at rows j }

unfoldable pub tags_of : List ℕ → ℕ → List Tagged
tags_of rows count = listed (tag_at rows) 0 count
