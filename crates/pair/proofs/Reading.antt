-- What reading a sheet, then a log, leaves: the refusal of one of them, or both in memory; and an answer that goes by the refusals.
-- Assumes nothing.
use mathlib.Core.Path.{◌≡◌, refl, sym, ◌∙◌, ap}
use mathlib.Core.Bool.{Bool, true, false, not, cond}
use mathlib.Core.List.{List}
use Prim.Native.Nat.{ℕ, ◌≤◌}
use lib.ListN.{length}
use lib.Dec.{eqb}
use borrow.Author.Tests.{eq-eqb, ne_eqb, eqb-true}
use Rattle.scenario.specs.Log.{run_of}
use Rattle.row.specs.Memory.{lay as lay-rows}
use Rattle.sheet.specs.Reading.{Answer as SheetAnswer}
use Rattle.sheet.specs.Reading.{taken as sheet-taken, answer as sheet-answer}
use Rattle.sheet.proofs.Held.{sheet_is, sheet_loaded}
use Rattle.runlog.specs.Log.{Answer as LogAnswer}
use Rattle.runlog.specs.Log.{answer as log-answer}
use Rattle.runlog.specs.Held.{Loaded}
use Rattle.pair.specs.Pair.{refusal_of, PairHeld}

module _ (s l : List ℕ) where
  pub sheet-refused : (r : ℕ) → r ≡ (sheet-answer s).refusal → (r ≡ 0 → ⊥) → r ≡ refusal_of s l
  unfolding refusal_of
  sheet-refused r e n = e ∙ sym (rw (ne_eqb (sheet-answer s).refusal 0 (λ z. n (e ∙ z))))

  pub log-refused : (sheet-answer s).refusal ≡ 0 → (r : ℕ) → r ≡ (log-answer l).refusal → r ≡ refusal_of s l
  unfolding refusal_of
  log-refused z r e = e ∙ sym (rw (eq-eqb (sheet-answer s).refusal 0 z))

  -- neither is refused: both are in memory
  pub pair_held : (rs : SheetAnswer) → rs ≡ sheet-answer s → rs.refusal ≡ 0 → (rl : LogAnswer) → rl ≡ log-answer l → rl.refusal ≡ 0
      → (m₀ m : List ℕ) → 1056 ≤ length m₀ → m ≡ lay-rows 0 (sheet-taken s).lines m₀ → (run : List ℕ) → Loaded l run → PairHeld s l m rs.rows rs.k run
  pair_held rs es zs rl el zl m₀ m room em run D = record {
    sheet_accepted = ap (λ (q : SheetAnswer). q.refusal) (sym es) ∙ zs;
    log_accepted = ap (λ (q : LogAnswer). q.refusal) (sym el) ∙ zl;
    sheet = (sheet_loaded s rs es zs m m₀ room em).held;
    sheet_is = sheet_is s rs es zs m m₀ room em;
    held = D.held;
    blank = D.blank;
    run_is = ap run_of D.is;
  }

  -- An answer: refused by the sheet's refusal, or by the log's, or else x
  module _ {A : Type 0} (refused : ℕ → A) (x : A) where
    abbrev pub answer_of : A
    answer_of =
        cond (not (eqb (sheet-answer s).refusal 0)) (refused (sheet-answer s).refusal)
        (cond (not (eqb (log-answer l).refusal 0)) (refused (log-answer l).refusal) x)

    pub refused-is : (r : ℕ) → r ≡ refusal_of s l → (r ≡ 0 → ⊥) → refused r ≡ answer_of
    unfolding refusal_of
    refused-is r e n = go (eqb (sheet-answer s).refusal 0) (eqb (log-answer l).refusal 0) refl e
      where
        go : (b c : Bool) → eqb (log-answer l).refusal 0 ≡ c → r ≡ cond b (log-answer l).refusal (sheet-answer s).refusal
            → refused r ≡ cond (not b) (refused (sheet-answer s).refusal) (cond (not c) (refused (log-answer l).refusal) x)
        go false c z e = ap refused e
        go true false z e = ap refused e
        go true true z e = absurd (n (e ∙ eqb-true (log-answer l).refusal 0 z))

    pub accepted-is : (sheet-answer s).refusal ≡ 0 → (log-answer l).refusal ≡ 0 → x ≡ answer_of
    accepted-is a b = rw (eq-eqb (sheet-answer s).refusal 0 a, eq-eqb (log-answer l).refusal 0 b) refl
