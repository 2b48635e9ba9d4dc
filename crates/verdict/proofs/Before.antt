-- Old sheets keep their verdicts (document 02, A1), over bytes: an old text is that of the same sheet today, and no definition that the check uses has moved.
-- Assumes nothing.
use mathlib.Core.Path.{◌≡◌, refl, sym, ap, ap₂, ◌∙◌}
use mathlib.Core.Bool.{Bool, true, false, cond}
use mathlib.Core.List.{List, [], ◌∷◌, map}
use Prim.Native.Nat.{ℕ, zero, suc, ◌≤◌}
use native.Mathlib.Omega.{arith}
use lib.Dec.{eqb}
use borrow.Author.Tests.{eq-eqb}
use Rattle.scenario.specs.Rows.{set_of, full_half}
use Rattle.scenario.specs.Log.{Log, run_of}
use Rattle.scenario.specs.Fields.{Fields, Tagged, decode, row_of}
use Rattle.scenario.specs.Sheet.{Sheet, matching, antiscenario}
use Rattle.scenario.specs.Search.{check, smallest_matching}
use Rattle.scenario.specs.Reading.{All}
use Rattle.scenario.specs.Before.{Narrow, OldSheet, OldLog}
use Rattle.scenario.proofs.Numbers.{any-kind}
use Rattle.scenario.proofs.Halves.{set_of_lower}
use Rattle.scenario.proofs.Before.{fields-same, count_same, matching-same, search_same}
use Rattle.row.specs.declared.Line.{Line}
use Rattle.sheet.specs.Reading.{Answer}
use Rattle.row.specs.Row.{six, row_in}
use Rattle.sheet.specs.Reading.{answer, taken, sheet_in}
use Rattle.sheet.specs.Text.{Fits, numbers_of, sheet_text}
use Rattle.sheet.specs.Valid.{rows_of, sections_of, sheet_from, rows_spelt}
use Rattle.sheet.proofs.Theorems.{tag, accepted-rows}
use Rattle.sheet.proofs.Valid.{valid-read, read-valid, read-text}
use Rattle.runlog.specs.Log.{Answer as LogAnswer}
use Rattle.runlog.specs.Log.{answer as log-answer, log_of}
use Rattle.runlog.proofs.Theorems.{accepted-text, one-text}
use Rattle.verdict.specs.Check.{check_of, verdict_of}
use Rattle.verdict.specs.Before.{numbers_before, OldSheetText, NoUpperHalf, OldLogText, OldKept}

-- the same numbers, row by row
numbers-same : (rows : List Tagged) → All (λ (t : Tagged). Narrow t.row) rows → map numbers_before rows ≡ map numbers_of rows
unfolding numbers_before numbers_of
numbers-same [] N = refl
numbers-same (t ∷ rows) N =
    ap₂ (λ (f : Fields) (ls : List Line). six t.section f.kind f.p f.q f.a f.b ∷ ls) (fields-same t.row N.0) (numbers-same rows N.1)

-- a section of narrow rows, and all sections
narrow-rows : (i : ℕ) (rows : List Tagged) → All (λ (t : Tagged). Narrow t.row) rows → All Narrow (rows_of i rows)
unfolding rows_of
narrow-rows i [] N = tt
narrow-rows i (t ∷ rows) N = go (eqb t.section i) (narrow-rows i rows N.1)
  where
    go : (b : Bool) → All Narrow (rows_of i rows) → All Narrow (cond b (t.row ∷ rows_of i rows) (rows_of i rows))
    go true r = (N.0, r)
    go false r = r

module _ (rows : List Tagged) (N : All (λ (t : Tagged). Narrow t.row) rows) where
  narrow-sections : (left i : ℕ) → All (All Narrow) (sections_of i left rows)
  unfolding sections_of
  narrow-sections zero i = tt
  narrow-sections (suc left) i = (narrow-rows i rows N, narrow-sections left (suc i))

  old-sheet : (k : ℕ) → OldSheet (sheet_from k rows)
  unfolding sheet_from
  old-sheet k = record { antecedent = narrow-rows 0 rows N; consequents = narrow-sections k 1 }

-- Which texts these are today: accepted, with b 0 where it is no limit; accepted, with events 0 to 31.

module _ (p q a b : ℕ) (h : a ≤ full_half) where
  abbrev NarrowKind : ℕ → Type 0
  NarrowKind k = ((k ≡ 10 → ⊥) → (k ≡ 11 → ⊥) → b ≡ 0) → Narrow (row_of k p q a b)

  narrow-kind : (k : ℕ) → NarrowKind k
  unfolding decode
  narrow-kind =
      any-kind NarrowKind (λ z. tt)
      (λ z. low (z (λ e. omega arith) (λ e. omega arith))) (λ z. low (z (λ e. omega arith) (λ e. omega arith))) (λ z. low (z (λ e. omega arith) (λ e. omega arith)))
      (λ z. tt) (λ z. tt) (λ z. tt) (λ z. tt) (λ z. tt)
      (λ z. low (z (λ e. omega arith) (λ e. omega arith))) (λ z. tt) (λ z. tt) (λ z. low (z (λ e. omega arith) (λ e. omega arith)))
      (λ k z. tt)
    where
      low : b ≡ 0 → set_of a b ≤ full_half
      low z = set_of_lower a b h z

narrow-lines : (ls : List Line) → All Fits ls → All NoUpperHalf ls → All (λ (t : Tagged). Narrow t.row) (map tag ls)
unfolding row_in
narrow-lines [] F N = tt
narrow-lines (l ∷ ls) F N = (narrow-kind l.p l.q l.a l.b F.0.a l.kind N.0, narrow-lines ls F.1 N.1)

pub accepted-old-sheet : (s : List ℕ) → (answer s).refusal ≡ 0 → All NoUpperHalf (taken s).lines → OldSheetText s
unfolding rows_spelt
accepted-old-sheet s e N =
    let M = narrow-lines (taken s).lines (accepted-rows s e).columns N in
    record {
      k = (answer s).k;
      rows = map tag (taken s).lines;
      valid = read-valid s e;
      narrow = M;
      text = read-text s e ∙ ap (sheet_text (answer s).k) (sym (numbers-same (map tag (taken s).lines) M));
    }

pub accepted-old-log : (l : List ℕ) → (log-answer l).refusal ≡ 0 → OldLog (log_of l) → OldLogText l
accepted-old-log l e old = let A = accepted-text l e in record { log = log_of l; valid = A.valid; old = old; text = A.text }

-- THE THEOREM
module _ (s l : List ℕ) (S : OldSheetText s) (L : OldLogText l) where
  sheet : Sheet
  sheet = sheet_from S.k S.rows

  text : s ≡ rows_spelt S.k S.rows
  unfolding rows_spelt
  text = S.text ∙ ap (sheet_text S.k) (numbers-same S.rows S.narrow)

  sheet_accepted : (answer s).refusal ≡ 0
  sheet_accepted = ap (λ (t : List ℕ). (answer t).refusal) text ∙ ap (λ (a : Answer). a.refusal) (valid-read S.k S.rows S.valid).answered

  log_accepted : (log-answer l).refusal ≡ 0
  log_accepted = ap (λ (t : List ℕ). (log-answer t).refusal) L.text ∙ ap (λ (a : LogAnswer). a.refusal) (one-text L.log L.valid).said

  sheet_is : sheet_in s ≡ sheet
  unfolding sheet
  sheet_is = ap sheet_in text ∙ (valid-read S.k S.rows S.valid).sheet

  log_is : log_of l ≡ L.log
  log_is = ap log_of L.text ∙ (one-text L.log L.valid).log

  narrow : OldSheet sheet
  unfolding sheet
  narrow = old-sheet S.rows S.narrow S.k

  check-is : check_of s l ≡ verdict_of (run_of L.log) sheet (check (run_of L.log) sheet)
  unfolding check_of
  check-is =
      simp (eq-eqb (answer s).refusal 0 sheet_accepted, eq-eqb (log-answer l).refusal 0 log_accepted)
      (ap₂ (λ (g : Log) (sh : Sheet). verdict_of (run_of g) sh (check (run_of g) sh)) log_is sheet_is)

  pub old_sheets_keep_their_verdicts : OldKept s l S L
  unfolding sheet
  old_sheets_keep_their_verdicts = record {
    accepted = record { sheet = sheet_accepted; log = log_accepted };
    read_sheet = sheet_is;
    read_log = log_is;
    checked = check-is;
    count =
        ap (λ (t : List ℕ). (answer t).count) text ∙ ap (λ (a : Answer). a.count) (valid-read S.k S.rows S.valid).answered ∙ sym (count_same sheet);
    matchings = λ m zs. ap₂ (λ (g : Log) (sh : Sheet). matching (run_of g) (antiscenario sh m) zs) log_is sheet_is ∙ sym (matching-same L.log L.old sheet narrow m zs);
    searched = λ m. ap₂ (λ (g : Log) (sh : Sheet). smallest_matching (run_of g) (antiscenario sh m)) log_is sheet_is ∙ sym (search_same L.log L.old sheet narrow m);
  }
