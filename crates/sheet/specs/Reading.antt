-- "Read a sheet (gives N)" of document 01, from the bytes: first line, then row by row, last the count. What must be believed.
-- Assumes nothing.
use Rattle.std.specs.Prelude.{not, cond, List, [], ◌∷◌, ℕ, zero, suc, ◌+◌, ◌*◌, length, get_or, take, drop, ltb, eqb, Option, Some, None}
use Rattle.rules.specs.Numbers.{most_consequents, most_rows}
use Rattle.sheet.specs.Numbers.{first_line_malformed, over_limits, wrong_length, row_malformed}
use Rattle.columns.specs.Number.{field_at}
use Rattle.scenario.specs.Rows.{Row}
use Rattle.scenario.specs.Sheet.{Sheet, count}
use Rattle.row.specs.declared.Line.{Line}
use Rattle.rules.specs.declared.Stand.{Stand}
use Rattle.row.specs.Row.{line_of, row_in}
use Rattle.rules.specs.Rules.{start, enter, advance, refusal}

-- First line

-- What the first line gives: the refusal 1 to 3 or 0, the consequents and the row count.
pub record Head : Type 0 where
  pub refusal : ℕ
  pub k : ℕ
  pub rows : ℕ

abbrev pub headed : (refusal k rows : ℕ) → Head
headed refusal k rows = record { refusal = refusal; k = k; rows = rows }

-- goes on with a field's value; a bad field is 1
abbrev pub on_head : Option ℕ → (ℕ → Head) → Head
on_head (Some v) f = f v
on_head None f = headed first_line_malformed 0 0

-- "1 first line short or malformed; 2 k over 6 or row count over 176; 3 length is not 7 + 35 × rows"
unfoldable pub head_of : List ℕ → Head
head_of s =
    cond (ltb (length s) 7) (headed first_line_malformed 0 0)
    (on_head (field_at s 3) (λ k.
    on_head (field_at (drop 3 s) 3) (λ rows.
    cond (not (eqb (get_or s 6 0) 10)) (headed first_line_malformed 0 0)
    (cond (ltb most_consequents k) (headed over_limits 0 0)
    (cond (ltb most_rows rows) (headed over_limits 0 0)
    (cond (not (eqb (length s) (7 + 35 * rows))) (headed wrong_length 0 0)
    (headed 0 k rows)))))))

-- Rows

-- What reading rows gives: the refusal or 0, the row that it is about, and the rows accepted before it.
pub record Taken : Type 0 where
  pub number : ℕ
  pub row : ℕ
  pub lines : List Line

abbrev pub stop : (number row : ℕ) → Taken
stop number row = record { number = number; row = row; lines = [] }

abbrev pub more : Line → Taken → Taken
more l t = record { number = t.number; row = t.row; lines = l ∷ t.lines }

abbrev pub on_line : Option Line → Taken → (Line → Taken) → Taken
on_line (Some l) t f = f l
on_line None t f = t

-- where the reading stands after an accepted row
unfoldable pub after : Stand → Line → Stand
after at l = advance (enter at l.section) l.kind

-- the 35 bytes of row number i + 1
unfoldable pub row_bytes : List ℕ → ℕ → List ℕ
row_bytes s i = take 35 (drop (7 + 35 * i) s)

-- "then row by row": `left` rows from number i + 1 on, to the first that is refused
unfoldable pub rows_from : (k : ℕ) (s : List ℕ) (i left : ℕ) → Stand → Taken
rows_from k s i zero at = stop 0 0
rows_from k s i (suc left) at =
    on_line (line_of (row_bytes s i)) (stop row_malformed (suc i)) (λ l.
    cond (eqb (refusal k at l) 0) (more l (rows_from k s (suc i) left (after at l))) (stop (refusal k at l) (suc i)))

-- The sheet of the rows

-- the rows of section i, in sheet order
unfoldable pub section : ℕ → List Line → List Row
section i [] = []
section i (l ∷ ls) = cond (eqb l.section i) (row_in l ∷ section i ls) (section i ls)

-- sections i, i + 1, ..
unfoldable pub sections : (i left : ℕ) → List Line → List (List Row)
sections i zero ls = []
sections i (suc left) ls = section i ls ∷ sections (suc i) left ls

-- "Section 0 is the antecedent, sections 1 to k the consequents"
unfoldable pub sheet_of : (k : ℕ) → List Line → Sheet
sheet_of k ls = record { antecedent = section 0 ls; consequents = sections 1 k ls }

-- The whole

-- the rows that the memory gets: those accepted, also where a later one is refused
unfoldable pub taken : List ℕ → Taken
taken s = cond (eqb (head_of s).refusal 0) (rows_from (head_of s).k s 0 (head_of s).rows start) (stop (head_of s).refusal 0)

-- What reading gives: the refusal and the row that it is about (0: the first line), or the consequents, the row count and N.
pub record Answer : Type 0 where
  pub refusal : ℕ
  pub row : ℕ
  pub k : ℕ
  pub rows : ℕ
  pub count : ℕ

-- What "Read a sheet" gives: the refusal's number alone, or 0 and N.
pub record SheetCount : Type 0 where
  pub refusal : ℕ
  pub count : ℕ

abbrev pub refused : (number row : ℕ) → Answer
refused number row = record { refusal = number; row = row; k = 0; rows = 0; count = 0 }

abbrev pub accepted : (k rows n : ℕ) → Answer
accepted k rows n = record { refusal = 0; row = 0; k = k; rows = rows; count = n }

-- the refusal of a row, or k, the row count and N. Document 02, A4: "Refusal 11 is never given."
unfoldable pub closing : (k : ℕ) → Taken → Answer
closing k t = cond (eqb t.number 0) (accepted k (length t.lines) (count (sheet_of k t.lines))) (refused t.number t.row)

unfoldable pub answer : List ℕ → Answer
answer s = closing (head_of s).k (taken s)

-- the sheet of a text, and N as reading reports it
abbrev pub sheet_in : List ℕ → Sheet
sheet_in s = sheet_of (answer s).k (taken s).lines

abbrev pub count_in : List ℕ → ℕ
count_in s = (answer s).count

-- what the operation gives: "a refusal gives its number only", otherwise 0 and N
unfoldable pub count_of : List ℕ → SheetCount
count_of s = record { refusal = (answer s).refusal; count = (answer s).count }
