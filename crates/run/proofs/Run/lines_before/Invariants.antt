-- What holds at each turn of the loops of `lines_before`, and what falls.
use Prim.Native.Nat.{ℕ, ◌-◌, ◌≤◌, ◌<◌}
use lib.ListN.{get_or}
use Rattle.run.specs.Words.{ticks_in, line_count}
use Rattle.run.proofs.Run.lines_before.Given as goal

abbrev pub invariant-loop-low : goal.invariant-loop-low
invariant-loop-low l =
    (l.low ≤ l.high) × (l.high ≤ line_count l.self.words) × ((x : ℕ) → 1 ≤ x → x ≤ l.low → get_or (ticks_in l.self.words) x 0 < l.limit) × ((x : ℕ) → l.high < x → x ≤ line_count l.self.words → l.limit ≤ get_or (ticks_in l.self.words) x 0)

abbrev pub decreases-loop-low : goal.decreases-loop-low
decreases-loop-low l = l.high - l.low
