-- Demand 2 of every accepted sheet: the text of antiscenario m, read by the columns alone, says k and the antiscenario's rows; and a text that says so is this one.
-- The rows that are written are scenario's antiscenario m, each with the section it came from; and judging says whether positions are a matching of it.
-- Assumes nothing.
use mathlib.Core.Path.{◌≡◌, refl, sym, ap, ◌∙◌, subst}
use mathlib.Core.Logic.{◌↔◌}
use mathlib.Core.Bool.{Bool, true}
use mathlib.Core.List.{List, ◌∷◌, map}
use Prim.Native.Nat.{ℕ, ◌-◌, ◌≤◌}
use native.Mathlib.Omega.{arith}
use lib.ListN.{length, replicate, take}
use lib.Dec.{T}
use borrow.Author.Tests.{eq-eqb}
use Rattle.scenario.specs.Rows.{points}
use Rattle.scenario.specs.Reading.{All}
use Rattle.scenario.specs.Fields.{tagged, written}
use Rattle.scenario.specs.Sheet.{Sheet, chosen, antiscenario, matching}
use Rattle.scenario.proofs.Base.{is_true}
use Rattle.sheet.specs.Reading.{answer, taken, sheet_of, sheet_in, count_in}
use Rattle.row.specs.Row.{row_in}
use Rattle.sheet.specs.Text.{Fits, numbers_of}
use Rattle.sheet.specs.Held.{sheet_at, SheetLoaded}
use Rattle.row.specs.Memory.{lay}
use Rattle.sheet.proofs.Theorems.{AcceptedSheet, accepted-sheet}
use Rattle.runlog.specs.Log.{answer as log-answer, run_in}
use Rattle.antiscenario.specs.Judge.{Judged}
use Rattle.antiscenario.specs.Judge.{refusal_of, judge_of}
use Rattle.antiscenario.specs.Plain.{ReadsAs}
use Rattle.antiscenario.specs.Write.{written_lines, written_text}
use Rattle.antiscenario.proofs.Accept.{built-written}
use Rattle.antiscenario.proofs.Bound.{built-few}
use Rattle.antiscenario.proofs.Fitting.{written-fits}
use Rattle.antiscenario.proofs.Plainly.{text_says, text-only}
use Rattle.antiscenario.proofs.Judging.{number-answered}
use Rattle.sheet.proofs.Held.{sheet_is, sheet_loaded, room_1056}
use Rattle.antiscenario.proofs.InMemory.{number-taken, rows_written}

module _ (s : List ℕ) (e : (answer s).refusal ≡ 0) (number : ℕ) where
  m₀ : List ℕ
  m₀ = replicate 1056 0

  room : 1056 ≤ length m₀
  unfolding m₀
  room = room_1056

  memory : List ℕ
  memory = lay 0 (taken s).lines m₀

  L : SheetLoaded memory (answer s)
  unfolding memory
  L = sheet_loaded s (answer s) refl e (lay 0 (taken s).lines m₀) m₀ room refl

  S : AcceptedSheet s (sheet_of (answer s).k (taken s).lines) (taken s).lines
  S = accepted-sheet s e

  is-written : map numbers_of (written (sheet_at memory (answer s).rows (answer s).k) number) ≡ written_lines s number
  unfolding memory written_lines
  is-written = ap (λ (z : Sheet). map numbers_of (written z number)) (sheet_is s (answer s) refl e (lay 0 (taken s).lines m₀) m₀ room refl)

  pub written-says : ReadsAs (written_text s number) (answer s).k (written_lines s number)
  unfolding written_text
  written-says =
      text_says (answer s).k (written_lines s number) (omega (arith, S.consequents, S.read.count))
      (omega (arith, ap length (built-written memory (answer s) L number ∙ is-written), built-few memory (answer s).rows (answer s).k (number - 1), S.short, S.consequents, S.read.count))
      (subst (All Fits) is-written (written-fits memory (answer s) L number))

  pub written-only : (t : List ℕ) → ReadsAs t (answer s).k (written_lines s number) → t ≡ written_text s number
  unfolding written_text
  written-only t R = text-only t (answer s).k (written_lines s number) R

-- Rows with their sections, as they are written, and without them

pub written-sections : (s : List ℕ) (number : ℕ) → written_lines s number ≡ map numbers_of (tagged 0 ((sheet_in s).antecedent ∷ chosen (sheet_in s) number))
unfolding written_lines written
written-sections s number = refl

pub written-rows : (s : List ℕ) (number : ℕ) → map row_in (written_lines s number) ≡ antiscenario (sheet_in s) number
unfolding written_lines
written-rows s number = rows_written (sheet_in s) number

-- Judging

module _ (s l : List ℕ) (number : ℕ) (positions : List ℕ) (count : ℕ) (right : count ≡ length (points (antiscenario (sheet_in s) number))) where
  -- whether the positions up to the number are a matching of antiscenario m
  is_matched : Bool
  is_matched = matching (run_in l) (antiscenario (sheet_in s) number) (take count positions)

  judge_answers : refusal_of s l number ≡ 0 → judge_of s l number positions count ≡ record { refusal = 0; met = is_matched }
  unfolding judge_of is_matched
  judge_answers r = simp (eq-eqb (refusal_of s l number) 0 r, eq-eqb count (length (points (antiscenario (sheet_in s) number))) right)

  pub judge_says : (answer s).refusal ≡ 0 → (log-answer l).refusal ≡ 0 → 1 ≤ number → number ≤ count_in s
      → ((judge_of s l number positions count).refusal ≡ 0) × (((judge_of s l number positions count).met ≡ true) ↔ T (matching (run_in l) (antiscenario (sheet_in s) number) (take count positions)))
  unfolding is_matched
  judge_says e f lo hi =
      let q = judge_answers (sym (number-answered s l number (answer s) refl e (log-answer l) refl f 0 (number-taken (answer s).count number lo hi))) in
      let met = ap (λ (j : Judged). j.met) q in
      (ap (λ (j : Judged). j.refusal) q, (λ t. subst T (sym (sym met ∙ t)) tt, λ t. met ∙ is_true is_matched t))
