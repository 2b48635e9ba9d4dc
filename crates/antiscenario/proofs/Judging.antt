-- The answers of judging, case by case; and that entries past the number play no part.
-- Assumes nothing.
use mathlib.Core.Path.{◌≡◌, sym, ap, ap₂, ◌∙◌}
use mathlib.Core.Bool.{Bool}
use mathlib.Core.List.{List}
use Prim.Native.Nat.{ℕ}
use lib.ListN.{length, take}
use borrow.Author.Tests.{eq-eqb, ne_eqb}
use Rattle.scenario.specs.Rows.{Row, Run, points}
use Rattle.scenario.specs.Log.{run_of}
use Rattle.scenario.specs.Sheet.{antiscenario, matching}
use Rattle.sheet.specs.Reading.{Answer as SheetAnswer}
use Rattle.sheet.specs.Reading.{answer as sheet-answer, sheet_in}
use Rattle.row.specs.Memory.{rows_of}
use Rattle.runlog.specs.Log.{Answer as LogAnswer}
use Rattle.runlog.specs.Log.{answer as log-answer, run_in}
use Rattle.run.specs.Held.{run_held}
use Rattle.runlog.specs.Held.{Loaded}
use Rattle.antiscenario.specs.Judge.{Judged}
use Rattle.antiscenario.specs.Numbers.{number_refusal}
use Rattle.antiscenario.specs.Held.{AntiscenarioHeld, Ready}
use Rattle.antiscenario.specs.Judge.{refusal_of, unjudged, judge_of}

-- two tables that agree up to the number get one answer
pub past_the_number : (s l : List ℕ) (number count : ℕ) (xs ys : List ℕ) → take count xs ≡ take count ys → judge_of s l number xs count ≡ judge_of s l number ys count
unfolding judge_of
past_the_number s l number count xs ys e = rw e

-- an answer that is the definition's, with the promise that no entry past the number plays a part
pub promised : (s l : List ℕ) (number count : ℕ) (xs : List ℕ) (r : Judged) → r ≡ judge_of s l number xs count
    → (r ≡ judge_of s l number xs count) × ((table : List ℕ) → take count table ≡ take count xs → r ≡ judge_of s l number table count)
promised s l number count xs r e = (e, λ table same. e ∙ past_the_number s l number count xs table (sym same))

-- Reading, refused

module _ (s l : List ℕ) (number : ℕ) where
  module _ (rs : SheetAnswer) (es : rs ≡ sheet-answer s) where
    pub sheet-refused : (rs.refusal ≡ 0 → ⊥) → rs.refusal ≡ refusal_of s l number
    unfolding refusal_of
    sheet-refused n = rw (sym es) (simp (ne_eqb rs.refusal 0 n))

    module _ (zs : rs.refusal ≡ 0) (rl : LogAnswer) (el : rl ≡ log-answer l) where
      pub log-refused : (rl.refusal ≡ 0 → ⊥) → rl.refusal ≡ refusal_of s l number
      unfolding refusal_of
      log-refused n = rw (sym es, sym el) (simp (eq-eqb rs.refusal 0 zs, ne_eqb rl.refusal 0 n))

      module _ (zl : rl.refusal ≡ 0) where
        -- then it is the number's
        pub number-answered : (q : ℕ) → q ≡ number_refusal rs.count number → q ≡ refusal_of s l number
        unfolding refusal_of
        number-answered q eq = rw (sym es, sym el) (simp (eq-eqb rs.refusal 0 zs, eq-eqb rl.refusal 0 zl) (eq ∙ ap (λ (a : SheetAnswer). number_refusal a.count number) es))

-- Reading, accepted

pub ready : (l run : List ℕ) → Loaded l run → (s : List ℕ) (number : ℕ) (out : List ℕ) (n : ℕ) → AntiscenarioHeld (sheet_in s) number out n → Ready s l number out n run
ready l run D s number out n A = record { held = D.held; blank = D.blank; run_is = ap run_of D.is; rows_held = A }

-- what is refused promises nothing of the memory
pub promised-nothing : {A : Type 0} (r x : ℕ) → r ≡ x → (x ≡ 0 → ⊥) → r ≡ 0 → A
promised-nothing r x e n z = absurd (n (sym e ∙ z))

-- Judging

module _ (s l : List ℕ) (number : ℕ) (xs : List ℕ) (position_count : ℕ) (r : ℕ) (er : r ≡ refusal_of s l number) where
  pub judge_refused : (r ≡ 0 → ⊥) → unjudged r ≡ judge_of s l number xs position_count
  unfolding judge_of
  judge_refused n = rw (sym er) (simp (ne_eqb r 0 n))

  module _ (z : r ≡ 0) (rows run : List ℕ) (count : ℕ) (R : Ready s l number rows count run) (count_of_points : ℕ) (en : count_of_points ≡ length (points (rows_of rows count))) where
    none : refusal_of s l number ≡ 0
    none = sym er ∙ z

    number_is : count_of_points ≡ length (points (antiscenario (sheet_in s) number))
    number_is = en ∙ ap (λ (rs : List Row). length (points rs)) R.rows_held.rows_are

    pub wrong_number : (position_count ≡ count_of_points → ⊥) → unjudged 34 ≡ judge_of s l number xs position_count
    unfolding judge_of
    wrong_number n = simp (eq-eqb (refusal_of s l number) 0 none, ne_eqb position_count (length (points (antiscenario (sheet_in s) number))) (λ e. n (e ∙ sym number_is)))

    pub judged : (b : Bool) → position_count ≡ count_of_points → b ≡ matching (run_held run) (rows_of rows count) (take count_of_points xs) → record { refusal = 0; met = b } ≡ judge_of s l number xs position_count
    unfolding judge_of
    judged b e f =
        simp (eq-eqb (refusal_of s l number) 0 none, eq-eqb position_count (length (points (antiscenario (sheet_in s) number))) (e ∙ number_is))
        (ap (λ (t : Bool). record { refusal = 0; met = t })
        (f ∙ ap₂ (λ (g : Run) (rs : List Row). matching g rs (take count_of_points xs)) R.run_is R.rows_held.rows_are ∙ ap (λ (k : ℕ). matching (run_in l) (antiscenario (sheet_in s) number) (take k xs)) (sym e)))
