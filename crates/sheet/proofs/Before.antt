-- What document 02's A4 leaves as it was: every text but those that were refused with 11 gets the answer that it got.
-- Assumes nothing.
use mathlib.Core.Path.{◌≡◌, refl}
use mathlib.Core.Bool.{Bool, true, false, cond}
use mathlib.Core.List.{List}
use Prim.Native.Nat.{ℕ}
use native.Mathlib.Omega.{arith}
use lib.ListN.{length}
use lib.Dec.{ltb, eqb}
use Rattle.scenario.specs.Sheet.{count}
use Rattle.sheet.specs.Reading.{Taken, head_of, taken, sheet_of, refused, accepted, closing, answer}
use Rattle.sheet.specs.Before.{closing_before, answer_before}

closed-before : (k : ℕ) (t : Taken) → ((closing_before k t).refusal ≡ 11 → ⊥) → closing k t ≡ closing_before k t
unfolding closing closing_before
closed-before k t = go (eqb t.number 0) (ltb 4096 (count (sheet_of k t.lines)))
  where
    go : (b c : Bool)
        → ((cond b (cond c (refused 11 0) (accepted k (length t.lines) (count (sheet_of k t.lines)))) (refused t.number t.row)).refusal ≡ 11 → ⊥)
        → cond b (accepted k (length t.lines) (count (sheet_of k t.lines))) (refused t.number t.row)
        ≡ cond b (cond c (refused 11 0) (accepted k (length t.lines) (count (sheet_of k t.lines)))) (refused t.number t.row)
    go true true n = absurd (n refl)
    go true false n = refl
    go false c n = refl

-- the same refusal and row, or the same k, row count and N; the rows themselves are `taken s`, then as now
pub as_before : (s : List ℕ) → ((answer_before s).refusal ≡ 11 → ⊥) → answer s ≡ answer_before s
unfolding answer answer_before
as_before s = closed-before (head_of s).k (taken s)

-- in particular what was accepted
pub accepted-before : (s : List ℕ) → (answer_before s).refusal ≡ 0 → answer s ≡ answer_before s
accepted-before s e = as_before s (λ n. omega (arith, e, n))
