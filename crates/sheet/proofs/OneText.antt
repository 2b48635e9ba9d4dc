-- Accepted bytes and what they give determine each other: the text of rows that no test refuses is read as those rows, and no other bytes are.
-- Carried by the rows from number i on, read behind any bytes that are as long as the first line and i rows.
-- Assumes nothing.
use mathlib.Core.Path.{◌≡◌, refl, sym, ap, ap₂, ◌∙◌, subst}
use mathlib.Core.Logic.{◌↔◌}
use mathlib.Core.List.{List, [], ◌∷◌, ◌++◌, map, append_assoc}
use Prim.Native.Nat.{ℕ, suc, ◌+◌, ◌*◌, ◌≤◌}
use native.Mathlib.Omega.{arith}
use lib.ListN.{length, drop, get_or, length-append}
use lib.Seq.{get_or-drop}
use borrow.Author.Tests.{eq-eqb, le-ltb}
use Rattle.columns.specs.Number.{field_at}
use Rattle.columns.specs.Spell.{spell}
use Rattle.std.specs.Prelude.{Some}
use Rattle.columns.proofs.Spelling.{spell-read}
use Rattle.scenario.specs.Fields.{Fields, five, fields}
use Rattle.scenario.specs.Sheet.{count}
use Rattle.scenario.specs.Reading.{All}
use Rattle.row.specs.declared.Line.{Line}
use Rattle.rules.specs.declared.Stand.{Stand}
use Rattle.row.specs.Row.{six, line_of, row_in}
use Rattle.rules.specs.Rules.{start}
use Rattle.sheet.specs.Reading.{headed, head_of, Taken, more, after, row_bytes, rows_from, sheet_of, taken, accepted, closing, answer, sheet_in}
use Rattle.sheet.specs.Text.{row_text, rows_text, head_text, sheet_text, numbers_of, text_of}
use Rattle.sheet.proofs.Accepted.{Accepted}
use Rattle.columns.proofs.Lines.{past}
use Rattle.sheet.proofs.Texts.{row_text-length, head_text-length, sheet_text-length, row_at_lem, row_read}
use Rattle.sheet.proofs.Theorems.{tag, accepted-sheet}

-- The first line of a text is read as k and the row count.

head-is : (s : List ℕ) (k n : ℕ) → length s ≡ 7 + 35 * n → field_at s 3 ≡ Some k → field_at (drop 3 s) 3 ≡ Some n → get_or s 6 0 ≡ 10 → k ≤ 6 → n ≤ 176
    → head_of s ≡ headed 0 k n
unfolding head_of
head-is s k n size f g e hk hn =
    rw (f, g, e) (simp (le-ltb (length s) 7 (omega arith), le-ltb 6 k hk, le-ltb 176 n hn, eq-eqb (length s) (7 + 35 * n) size))

head_read : (k : ℕ) (ls : List Line) → k ≤ 6 → length ls ≤ 176 → head_of (sheet_text k ls) ≡ headed 0 k (length ls)
unfolding sheet_text head_text
head_read k ls hk hn =
    let n = length ls in
    let rest = rows_text ls in
    let whole : (spell 3 k ++ (spell 3 n ++ (10 ∷ []))) ++ rest ≡ spell 3 k ++ (spell 3 n ++ (10 ∷ rest)) =
    append_assoc (spell 3 k) (spell 3 n ++ (10 ∷ [])) rest ∙ ap (λ (x : List ℕ). spell 3 k ++ x) (append_assoc (spell 3 n) (10 ∷ []) rest) in
    head-is ((spell 3 k ++ (spell 3 n ++ (10 ∷ []))) ++ rest) k n (sheet_text-length k ls)
    (ap (λ (t : List ℕ). field_at t 3) whole ∙ spell-read 3 k (spell 3 n ++ (10 ∷ rest)) (omega arith) (omega arith) (omega arith))
    (ap (λ (t : List ℕ). field_at (drop 3 t) 3) whole ∙ ap (λ (t : List ℕ). field_at t 3) (past 3 k 0 (spell 3 n ++ (10 ∷ rest)))
    ∙ spell-read 3 n (10 ∷ rest) (omega arith) (omega arith) (omega arith))
    (ap (λ (t : List ℕ). get_or t 6 0) whole ∙ sym (get_or-drop 6 (spell 3 k ++ (spell 3 n ++ (10 ∷ rest))) 0 0)
    ∙ ap (λ (t : List ℕ). get_or t 0 0) (past 3 k 3 (spell 3 n ++ (10 ∷ rest)) ∙ past 3 n 0 (10 ∷ rest)))
    hk hn

-- The rows of a text are read as themselves.

abbrev all : List Line → Taken
all ls = record { number = 0; row = 0; lines = ls }

rows-read : (k : ℕ) (ls : List Line) (front : List ℕ) (i : ℕ) (at : Stand) → length front ≡ 7 + 35 * i → Accepted k at ls
    → rows_from k (front ++ rows_text ls) i (length ls) at ≡ all ls
unfolding rows_from rows_text
rows-read k [] front i at h A = refl
rows-read k (l ∷ ls) front i at h A =
    let line : line_of (row_bytes (front ++ (row_text l ++ rows_text ls)) i) ≡ Some l = ap line_of (row_at_lem front (rows_text ls) l i h) ∙ row_read l A.1.0 in
    let rest : rows_from k (front ++ (row_text l ++ rows_text ls)) (suc i) (length ls) (after at l) ≡ all ls =
    subst (λ (t : List ℕ). rows_from k t (suc i) (length ls) (after at l) ≡ all ls) (append_assoc front (row_text l) (rows_text ls))
    (rows-read k ls (front ++ row_text l) (suc i) (after at l) (omega (arith, length-append front (row_text l), row_text-length l, h)) A.1.1) in
    rw (line, A.0) (ap (more l) rest)

-- What k and rows must be for a sheet: the limits, and no row refused.
pub record Acceptable (k : ℕ) (ls : List Line) : Type 0 where
  pub few_consequents : k ≤ 6
  pub few_rows : length ls ≤ 176
  pub none-refused : Accepted k start ls

module _ (k : ℕ) (ls : List Line) (S : Acceptable k ls) where
  head : head_of (sheet_text k ls) ≡ headed 0 k (length ls)
  head = head_read k ls S.few_consequents S.few_rows

  rows : rows_from k (sheet_text k ls) 0 (length ls) start ≡ all ls
  unfolding sheet_text
  rows = rows-read k ls (head_text k (length ls)) 0 start (head_text-length k (length ls)) S.none-refused

  text-taken : taken (sheet_text k ls) ≡ all ls
  unfolding taken
  text-taken = rw head rows

  text-answer : answer (sheet_text k ls) ≡ accepted k (length ls) (count (sheet_of k ls))
  unfolding answer closing
  text-answer = rw (head, text-taken)

-- What the text of k and rows is read as
pub record ReadBack (k : ℕ) (ls : List Line) : Type 0 where
  pub answered : answer (sheet_text k ls) ≡ accepted k (length ls) (count (sheet_of k ls))
  pub lines : (taken (sheet_text k ls)).lines ≡ ls

pub text-read : (k : ℕ) (ls : List Line) → Acceptable k ls → ReadBack k ls
text-read k ls S = record { answered = text-answer k ls S; lines = ap (λ (t : Taken). t.lines) (text-taken k ls S) }

-- The lines of an accepted sheet, from its rows alone
pub lines_from-tags : (ls : List Line) → All (λ (l : Line). fields (row_in l) ≡ five l.kind l.p l.q l.a l.b) ls → map numbers_of (map tag ls) ≡ ls
unfolding numbers_of
lines_from-tags [] N = refl
lines_from-tags (l ∷ ls) N = ap₂ ◌∷◌ (ap (λ (f : Fields). six l.section f.kind f.p f.q f.a f.b) N.0) (lines_from-tags ls N.1)

pub sheet_text_lem : (s : List ℕ) → (answer s).refusal ≡ 0 → s ≡ text_of (sheet_in s)
unfolding text_of
sheet_text_lem s e =
    let A = accepted-sheet s e in
    A.text ∙ ap₂ sheet_text (sym A.consequents) (sym (lines_from-tags (taken s).lines A.numbers) ∙ ap (map numbers_of) (sym A.rows))

-- THE THEOREM: accepted bytes, k with the rows in their order, and the sheet determine one another.
pub record Determined (s t : List ℕ) : Type 0 where
  pub by_lines : (s ≡ t) ↔ (((answer s).k ≡ (answer t).k) × ((taken s).lines ≡ (taken t).lines))
  pub by-sheet : (s ≡ t) ↔ (sheet_in s ≡ sheet_in t)

pub determined : (s t : List ℕ) → (answer s).refusal ≡ 0 → (answer t).refusal ≡ 0 → Determined s t
determined s t e f = record {
  by_lines = (
    (λ q. (ap (λ (x : List ℕ). (answer x).k) q, ap (λ (x : List ℕ). (taken x).lines) q)),
    (λ q. (accepted-sheet s e).text ∙ ap₂ sheet_text q.0 q.1 ∙ sym (accepted-sheet t f).text),
  );
  by-sheet = ((λ q. ap (λ (x : List ℕ). sheet_in x) q), (λ q. sheet_text_lem s e ∙ ap text_of q ∙ sym (sheet_text_lem t f)));
}
