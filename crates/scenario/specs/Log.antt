-- A log, and the run that rows see of it. Document 01, "Log". What must be believed.
-- Assumes nothing.
use Rattle.std.specs.Prelude.{Bool, ◌&&◌, cond, List, ℕ, ◌+◌, ◌-◌, ◌/◌, ◌%◌, ◌^◌, length, get_or, leb, eqb}
use Rattle.scenario.specs.Rows.{Run}

-- "n is at most 4,000"
abbrev pub most_lines : ℕ
most_lines = 4000

-- "start tick, close tick; then n lines: tick, event"
pub record Log : Type 0 where
  pub start : ℕ
  pub close : ℕ
  pub ticks : List ℕ
  pub events : List ℕ

-- "A set of events is the sum of 2^e over its events e": e is in the set s.
unfoldable pub in_set : (s e : ℕ) → Bool
in_set s e = eqb (s / 2 ^ e % 2) 1

-- "The n lines have positions 1 to n": x is one of them, and its event is in s.
unfoldable pub has_at : List ℕ → (s x : ℕ) → Bool
has_at events s x = leb 1 x && leb x (length events) && in_set s (get_or events (x - 1) 0)

-- "Position 0 is the start with the start tick, position n + 1 the close with the close tick": the tick of position x.
unfoldable pub tick : Log → ℕ → ℕ
tick log x = cond (eqb x 0) log.start (get_or log.ticks (x - 1) log.close)

-- "the distance of the ticks of p and q, without sign"
abbrev pub gap : (s t : ℕ) → ℕ
gap s t = s - t + (t - s)

-- Document 02, A9: "WITHIN is met at distance d when d + 1 is at most b, and d − 1 (0 if d is 0) is at least a". proofs/Clock says why.
unfoldable pub sure : (lo hi d : ℕ) → Bool
sure lo hi d = leb (d + 1) hi && leb lo (d - 1)

-- "Points on one position have distance exactly 0 and are compared plainly": from a to b, both included. It goes by positions x and y, not by their ticks.
unfoldable pub near_at : Log → (x y lo hi : ℕ) → Bool
near_at log x y lo hi = cond (eqb x y) (leb lo 0 && leb 0 hi) (sure lo hi (gap (tick log x) (tick log y)))

abbrev pub run_of : Log → Run
run_of log = record { lines = length log.events; has = has_at log.events; near = near_at log }
