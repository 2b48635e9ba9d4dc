-- Demand 2: a written text says k and its rows, and no other text says them.
-- Assumes nothing.
use mathlib.Core.Path.{◌≡◌, sym, ap, ap₂, ◌∙◌, subst}
use mathlib.Core.List.{List, [], ◌∷◌, ◌++◌, append_assoc}
use Prim.Native.Nat.{ℕ, suc, ◌+◌, ◌*◌, ◌<◌}
use native.Mathlib.Omega.{arith}
use lib.ListN.{length, drop, get_or, length-append, drop_of_length-le}
use lib.Seq.{get_or-drop}
use Rattle.columns.specs.Number.{field_at}
use Rattle.columns.specs.Spell.{spell}
use Rattle.columns.proofs.Spelling.{spell-read}
use Rattle.columns.proofs.Lines.{past}
use Rattle.scenario.specs.Reading.{All}
use Rattle.row.specs.declared.Line.{Line}
use Rattle.row.specs.Row.{line_of}
use Rattle.sheet.specs.Reading.{row_bytes}
use Rattle.sheet.specs.Text.{Fits, row_text, rows_text, head_text, sheet_text}
use Rattle.sheet.proofs.Loop.{row-length}
use Rattle.sheet.proofs.Texts.{row_text-length, head_text-length, sheet_text-length, row_at_lem, row_read, row-only, head-only, row_next}
use Rattle.antiscenario.specs.Plain.{RowsAs, ReadsAs}

-- No other text

rows-only : (t : List ℕ) (ls : List Line) (i : ℕ) → length t ≡ 7 + 35 * (i + length ls) → RowsAs t i ls → drop (7 + 35 * i) t ≡ rows_text ls
unfolding rows_text
rows-only t [] i h R = drop_of_length-le t {i = 7 + 35 * i} (omega arith)
rows-only t (l ∷ ls) i h R =
    row_next t i ∙ ap₂ (λ (x y : List ℕ). x ++ y) (row-only (row_bytes t i) l (row-length t i (suc i) (omega arith) (omega arith)) R.0) (rows-only t ls (suc i) (omega arith) R.1)

pub text-only : (t : List ℕ) (k : ℕ) (ls : List Line) → ReadsAs t k ls → t ≡ sheet_text k ls
unfolding sheet_text
text-only t k ls R =
    head-only t k (length ls) R.first R.second R.end (omega (arith, R.size))
    ∙ ap (λ (x : List ℕ). head_text k (length ls) ++ x) (rows-only t ls 0 (omega (arith, R.size)) R.rows)

-- The text says its rows

rows_say : (ls : List Line) (pre : List ℕ) (i : ℕ) → length pre ≡ 7 + 35 * i → All Fits ls → RowsAs (pre ++ rows_text ls) i ls
unfolding rows_text
rows_say [] pre i h F = tt
rows_say (l ∷ ls) pre i h F = (
  ap line_of (row_at_lem pre (rows_text ls) l i h) ∙ row_read l F.0,
  subst (λ (t : List ℕ). RowsAs t (suc i) ls) (append_assoc pre (row_text l) (rows_text ls))
      (rows_say ls (pre ++ row_text l) (suc i) (omega (arith, length-append pre (row_text l), row_text-length l, h)) F.1),
)

pub text_says : (k : ℕ) (ls : List Line) → k < 1000 → length ls < 1000 → All Fits ls → ReadsAs (sheet_text k ls) k ls
unfolding sheet_text head_text
text_says k ls hk hn F =
    let n = length ls in
    let rest = rows_text ls in
    let two : (spell 3 k ++ (spell 3 n ++ (10 ∷ []))) ++ rest ≡ spell 3 k ++ (spell 3 n ++ (10 ∷ rest)) =
    append_assoc (spell 3 k) (spell 3 n ++ (10 ∷ [])) rest ∙ ap (λ (x : List ℕ). spell 3 k ++ x) (append_assoc (spell 3 n) (10 ∷ []) rest) in
    record {
      size = sheet_text-length k ls;
      first = ap (λ (t : List ℕ). field_at t 3) two ∙ spell-read 3 k (spell 3 n ++ (10 ∷ rest)) (omega arith) (omega arith) (omega arith);
      second = ap (λ (t : List ℕ). field_at (drop 3 t) 3) two ∙ ap (λ (t : List ℕ). field_at t 3) (past 3 k 0 (spell 3 n ++ (10 ∷ rest))) ∙ spell-read 3 n (10 ∷ rest) (omega arith) (omega arith) (omega arith);
      end = ap (λ (t : List ℕ). get_or t 6 0) two ∙ sym (get_or-drop 6 (spell 3 k ++ (spell 3 n ++ (10 ∷ rest))) 0 0) ∙ ap (λ (t : List ℕ). get_or t 0 0) (past 3 k 3 (spell 3 n ++ (10 ∷ rest)) ∙ past 3 n 0 (10 ∷ rest));
      rows = rows_say ls (head_text k n) 0 (head_text-length k n) F;
    }
