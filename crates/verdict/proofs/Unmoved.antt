-- Every other answer stays (document 02, A9), over bytes: where no two positions of the log are at a limit of the sheet.
-- Assumes nothing.
use mathlib.Core.Path.{◌≡◌, refl, ◌∙◌, ap}
use mathlib.Core.List.{List}
use Prim.Native.Nat.{ℕ}
use lib.ListN.{length}
use Rattle.scenario.specs.Sheet.{Answer, nothing, found}
use Rattle.scenario.specs.Search.{check}
use Rattle.scenario.specs.Clock.{plain_run, UnmovedSheet}
use Rattle.scenario.proofs.Unmoved.{check_unmoved, faults_unmoved, matchings_unmoved, search_unmoved}
use Rattle.sheet.specs.Reading.{sheet_in}
use Rattle.runlog.specs.Log.{log_of, run_in}
use Rattle.verdict.specs.Check.{Accepted, verdict_of, violated_at}
use Rattle.verdict.specs.Unmoved.{Stays}
use Rattle.verdict.proofs.DemandThree.{check-is}

module _ (s l : List ℕ) (A : Accepted s l) (U : UnmovedSheet (log_of l) (sheet_in s)) where
  told : (a : Answer) → check (run_in l) (sheet_in s) ≡ a → verdict_of (run_in l) (sheet_in s) a ≡ verdict_of (plain_run (log_of l)) (sheet_in s) a
  unfolding verdict_of
  told nothing e = refl
  told (found xs) e = ap (violated_at xs) (faults_unmoved (log_of l) (sheet_in s) U xs e (length (sheet_in s).antecedent))

  pub every_other_answer_stays : Stays s l
  every_other_answer_stays = record {
    checked =
        check-is s l A ∙ told (check (run_in l) (sheet_in s)) refl
        ∙ ap (verdict_of (plain_run (log_of l)) (sheet_in s)) (check_unmoved (log_of l) (sheet_in s) U);
    matchings = matchings_unmoved (log_of l) (sheet_in s) U;
    searched = search_unmoved (log_of l) (sheet_in s) U;
  }
