-- Check: the sheet's refusals, then the log's; else holds, or violated with the smallest violating placement and the rows at fault. What must be believed.
-- Assumes nothing.
use Rattle.std.specs.Prelude.{◌≡◌, Bool, true, false, not, cond, List, ◌++◌, ℕ, length, take, drop, replicate, eqb}
use Rattle.scenario.specs.Rows.{Run}
use Rattle.scenario.specs.Sheet.{Sheet, Answer, nothing, found}
use Rattle.scenario.specs.Search.{check, faults}
use Rattle.sheet.specs.Reading.{sheet_in, answer as sheet-answer}
use Rattle.runlog.specs.Log.{run_in, answer as log-answer}

-- document 01: a sheet or log is accepted when reading it gives no refusal
pub record Accepted (s l : List ℕ) : Type 0 where
  pub sheet : (sheet-answer s).refusal ≡ 0
  pub log : (log-answer l).refusal ≡ 0

-- What the check says: the refusal, or 0. Where violated: the positions of the antecedent's points and the rows at fault, one to a consequent.
pub record Checked : Type 0 where
  pub refusal : ℕ
  pub violated : Bool
  pub points : ℕ
  pub consequents : ℕ
  pub positions : List ℕ
  pub rows : List ℕ

-- An answer's values for each of the paper's cases

-- refused, with the refusal's number; or holds, with 0
abbrev pub blank : (refusal : ℕ) → Checked
blank refusal = record { refusal = refusal; violated = false; points = 0; consequents = 0; positions = replicate 4 0; rows = replicate 6 0 }

-- numbers at the front of zeros
unfoldable pub front : (room : ℕ) → List ℕ → List ℕ
front room xs = xs ++ drop (length xs) (replicate room 0)

-- violated, with the antecedent's positions, and for each consequent its row at fault
unfoldable pub violated_at : (positions rows : List ℕ) → Checked
violated_at positions rows = record {
  refusal = 0;
  violated = true;
  points = length positions;
  consequents = length rows;
  positions = front 4 positions;
  rows = front 6 rows;
}

-- the placement and the rows that an answer names
abbrev pub placement_in : Checked → List ℕ
placement_in c = take c.points c.positions

abbrev pub rows_in : Checked → List ℕ
rows_in c = take c.consequents c.rows

-- The check

-- holds, or violated with the placement and the rows at fault, numbered over the whole sheet from 1
unfoldable pub verdict_of : Run → Sheet → Answer → Checked
verdict_of run sheet nothing = blank 0
verdict_of run sheet (found xs) = violated_at xs (faults run sheet xs (length sheet.antecedent) sheet.consequents)

-- the sheet's refusals, then the log's; else the smallest violating placement, or none
unfoldable pub check_of : (s l : List ℕ) → Checked
check_of s l =
    cond (not (eqb (sheet-answer s).refusal 0)) (blank (sheet-answer s).refusal)
    (cond (not (eqb (log-answer l).refusal 0)) (blank (log-answer l).refusal)
    (verdict_of (run_in l) (sheet_in s) (check (run_in l) (sheet_in s))))
