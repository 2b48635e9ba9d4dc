-- The text of a sheet: "a sheet's first line (k, its row count) and rows". What must be believed.
-- Assumes nothing.
use Rattle.std.specs.Prelude.{List, [], ◌∷◌, ◌++◌, map, ℕ, ◌≤◌, ◌<◌, length}
use Rattle.columns.specs.Number.{largest}
use Rattle.columns.specs.Spell.{spell}
use Rattle.scenario.specs.Fields.{fields, Tagged, tagged}
use Rattle.scenario.specs.Sheet.{Sheet}
use Rattle.row.specs.declared.Line.{Line}
use Rattle.row.specs.Row.{six}

-- a row's numbers fit their columns, 3 or 11 of them, and a and b are no larger than a field holds
pub record Fits (l : Line) : Type 0 where
  pub section : l.section < 1000
  pub kind : l.kind < 1000
  pub p : l.p < 1000
  pub q : l.q < 1000
  pub a : l.a ≤ largest
  pub b : l.b ≤ largest

unfoldable pub row_text : Line → List ℕ
row_text l =
    spell 3 l.section
    ++ (spell 3 l.kind ++ (spell 3 l.p ++ (spell 3 l.q ++ (spell 11 l.a ++ (spell 11 l.b ++ (10 ∷ []))))))

unfoldable pub rows_text : List Line → List ℕ
rows_text [] = []
rows_text (l ∷ ls) = row_text l ++ rows_text ls

unfoldable pub head_text : (k n : ℕ) → List ℕ
head_text k n = spell 3 k ++ (spell 3 n ++ (10 ∷ []))

unfoldable pub sheet_text : (k : ℕ) → List Line → List ℕ
sheet_text k ls = head_text k (length ls) ++ rows_text ls

-- a row's six numbers, from the row and its section
unfoldable pub numbers_of : Tagged → Line
numbers_of t = six t.section (fields t.row).kind (fields t.row).p (fields t.row).q (fields t.row).a (fields t.row).b

-- the text of a sheet, from its sections alone
unfoldable pub text_of : Sheet → List ℕ
text_of sheet = sheet_text (length sheet.consequents) (map numbers_of (tagged 0 (sheet.antecedent ∷ sheet.consequents)))
