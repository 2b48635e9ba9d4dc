-- What the check says by how reading ends, over bytes; and demand 3 of it.
-- Assumes nothing.
use mathlib.Core.Path.{◌≡◌, sym, ◌∙◌, ap₂, subst}
use mathlib.Core.List.{List}
use Prim.Native.Nat.{ℕ}
use Rattle.scenario.specs.Rows.{Run}
use Rattle.scenario.specs.Sheet.{Sheet}
use Rattle.scenario.specs.Search.{check}
use Rattle.run.specs.Held.{run_held}
use Rattle.runlog.specs.Log.{run_in}
use Rattle.sheet.specs.Reading.{sheet_in}
use Rattle.sheet.specs.Held.{sheet_at}
use Rattle.pair.specs.Pair.{refusal_of, PairHeld}
use Rattle.pair.proofs.Reading.{refused-is, accepted-is}
use Rattle.search.specs.Searching.{search_of}
use Rattle.verdict.specs.Check.{Checked}
use Rattle.verdict.specs.Check.{verdict_of, blank, check_of, Accepted}
use Rattle.verdict.specs.Demands.{DemandThree}
use Rattle.verdict.proofs.DemandThree.{demand-bytes}

module _ (s l : List ℕ) where
  pub refused : (r : ℕ) → r ≡ refusal_of s l → (r ≡ 0 → ⊥) → blank r ≡ check_of s l
  unfolding check_of
  refused = refused-is s l blank (verdict_of (run_in l) (sheet_in s) (check (run_in l) (sheet_in s)))

  -- both are in memory: what is said there is said of the bytes
  pub checked : (rows : List ℕ) (count k : ℕ) (run : List ℕ) → PairHeld s l rows count k run
      → (c : Checked) → c ≡ verdict_of (run_held run) (sheet_at rows count k) (check (run_held run) (sheet_at rows count k)) → c ≡ check_of s l
  unfolding check_of
  checked rows count k run B c e =
      e
      ∙ ap₂ (λ (g : Run) (z : Sheet). verdict_of g z (check g z)) B.run_is B.sheet_is
      ∙ accepted-is s l blank (verdict_of (run_in l) (sheet_in s) (check (run_in l) (sheet_in s))) B.sheet_accepted B.log_accepted

  -- demand 3 of any answer that is the definition's
  pub demanded : (c : Checked) → c ≡ check_of s l → Accepted s l → DemandThree s l c (search_of s l)
  demanded c e A = subst (λ (c : Checked). DemandThree s l c (search_of s l)) (sym e) (demand-bytes s l A)
