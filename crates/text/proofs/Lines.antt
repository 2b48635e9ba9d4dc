-- What holds of all lines in memory holds of each.
-- Assumes nothing.
use mathlib.Core.Path.{subst}
use mathlib.Core.List.{List}
use Prim.Native.Nat.{ℕ, zero, suc, ◌+◌, ◌≤◌, ◌<◌}
use native.Mathlib.Omega.{arith}
use Rattle.scenario.specs.Reading.{All}
use Rattle.scenario.proofs.Base.{Order, lower, level, upper, order}
use Rattle.row.specs.declared.Line.{Line}
use Rattle.row.specs.Memory.{line_in, lines_in}

pub at-line : (P : Line → Type 0) (m : List ℕ) (left i : ℕ) → All P (lines_in m i left) → (j : ℕ) → i ≤ j → j < i + left → P (line_in m j)
unfolding lines_in
at-line P m zero i A j lo hi = absurd (omega arith)
at-line P m (suc left) i A j lo hi = go (order i j) (at-line P m left (suc i) A.1 j)
  where
    go : Order i j → (suc i ≤ j → j < suc i + left → P (line_in m j)) → P (line_in m j)
    go (lower h) r = r (omega arith) (omega arith)
    go (level h) r = subst (λ (x : ℕ). P (line_in m x)) h A.0
    go (upper h) r = absurd (omega arith)
