-- What the clock drops (A9), of every accepted log: its ticks never fall, so that WITHIN is met exactly when the times keep the limit whatever was dropped.
-- Assumes nothing.
use mathlib.Core.Path.{◌≡◌}
use mathlib.Core.Logic.{◌↔◌}
use mathlib.Core.List.{List, [], ◌∷◌}
use Prim.Native.Nat.{ℕ, zero, suc, ◌-◌, ◌≤◌}
use native.Mathlib.Omega.{arith}
use lib.ListN.{get_or}
use lib.Dec.{T}
use borrow.Author.Tests.{eq-eqb, ne_eqb}
use Rattle.scenario.specs.Log.{Log, tick, near_at}
use Rattle.scenario.specs.Clock.{Ascending, Surely}
use Rattle.scenario.proofs.Base.{Order, lower, level, upper, order}
use Rattle.scenario.proofs.Clock.{within_surely}
use Rattle.runlog.specs.Log.{answer, log_of}
use Rattle.runlog.specs.Text.{Ordered}
use Rattle.runlog.proofs.Theorems.{accepted-text}

above : (last : ℕ) (ticks : List ℕ) (close : ℕ) → Ordered last ticks close → (j : ℕ) → last ≤ get_or ticks j close
above last [] close o j = o
above last (t ∷ ts) close o zero = o.0
above last (t ∷ ts) close o (suc j) = omega (arith, o.0, above t ts close o.1 j)

pub rising : (last : ℕ) (ticks : List ℕ) (close : ℕ) → Ordered last ticks close → (i j : ℕ) → i ≤ j → get_or ticks i close ≤ get_or ticks j close
rising last [] close o i j h = omega arith
rising last (t ∷ ts) close o zero zero h = omega arith
rising last (t ∷ ts) close o zero (suc j) h = above t ts close o.1 j
rising last (t ∷ ts) close o (suc i) zero h = absurd (omega arith)
rising last (t ∷ ts) close o (suc i) (suc j) h = rising t ts close o.1 i j (omega arith)

pub ticks-ascend : (log : Log) → Ordered log.start log.ticks log.close → Ascending (tick log)
unfolding tick
ticks-ascend log o x y h = go (order x 0) (order y 0)
  where
    go : Order x 0 → Order y 0 → tick log x ≤ tick log y
    go (lower l) q = absurd (omega arith)
    go (level e) (lower l) = absurd (omega arith)
    go (level e) (level f) = rw (eq-eqb x 0 e, eq-eqb y 0 f) (omega arith)
    go (level e) (upper l) = rw (eq-eqb x 0 e, ne_eqb y 0 (λ q. omega arith)) (above log.start log.ticks log.close o (y - 1))
    go (upper l) (lower m) = absurd (omega arith)
    go (upper l) (level f) = absurd (omega arith)
    go (upper l) (upper m) =
        rw (ne_eqb x 0 (λ q. omega arith), ne_eqb y 0 (λ q. omega arith)) (rising log.start log.ticks log.close o (x - 1) (y - 1) (omega arith))

-- THE THEOREM
pub accepted_surely : (s : List ℕ) → (answer s).refusal ≡ 0 → (u : ℕ) → 2 ≤ u → (x y lo hi : ℕ) → T (near_at (log_of s) x y lo hi) ↔ Surely u (log_of s) x y lo hi
accepted_surely s e u two x y lo hi = within_surely u two (log_of s) (ticks-ascend (log_of s) (accepted-text s e).valid.ordered) x y lo hi
