-- Zeros are a run (Logs.held_empty).
use mathlib.Core.Path.{◌≡◌, sym, ap, ◌∙◌}
use native.Mathlib.Omega.{arith}
use Prim.Native.Nat.{ℕ, ◌<◌}
use lib.ListN.{get_or, replicate, length-replicate, get_or-replicate}
use Rattle.scenario.specs.Rows.{lower_half}
use Rattle.run.specs.Words.{position_count, ticks_in}
use Rattle.run.proofs.Words.{lower_none, tick_half}
use Rattle.run.proofs.Logs.{held_empty}
use Rattle.run.proofs.Run.new.Goals as goal

zero_at : (x : ℕ) → x < 8100 → get_or {A = ℕ} (replicate 8100 0) x 0 ≡ 0
zero_at x h = get_or-replicate 8100 x 0 0 h

zero_tick : (x : ℕ) → x < position_count → get_or (ticks_in (replicate 8100 0)) x 0 ≡ 0
zero_tick x h = sym (tick_half (replicate 8100 0) x h) ∙ ap lower_half (zero_at x (omega arith)) ∙ lower_none

pub invariant_of-result : goal.invariant_of-result
invariant_of-result c =
    record { held = held_empty (replicate 8100 0) (length-replicate {A = ℕ} 8100 0) (zero_at 8099 (omega arith)) (zero_at 8098 (omega arith)) (omega (arith, zero_tick 0 (omega arith), zero_tick 1 (omega arith))) }
