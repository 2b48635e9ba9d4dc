-- What a run in memory is: the log that its words are, and what is known of them. Inner vocabulary.
-- Assumes nothing.
use Rattle.std.specs.Prelude.{◌≡◌, List, Bool, false, cond, ℕ, ◌+◌, ◌≤◌, ◌<◌, ltb, eqb, length, get_or, take, drop, Option as Answer, Some, None}
use Rattle.std.proofs.Math.Option.{Option, none, some}
use Rattle.scenario.specs.Rows.{Run, event_count}
use Rattle.scenario.specs.Log.{most_lines, Log, has_at, gap, sure, run_of}
use Rattle.scenario.specs.Clock.{Ascending}
use Rattle.run.specs.Words.{run_room, ticks_in, events_in, present, line_count}
use Rattle.run.specs.Maps.{Mapped}

-- Events by position: that of line x at index x.
pub record Events (events : List ℕ) (n : ℕ) : Type 0 where
  pub room : n < length events
  pub few : n ≤ most_lines
  pub small : (x : ℕ) → 1 ≤ x → x ≤ n → get_or events x 0 < event_count

-- of n lines the values at positions 1 to n
unfoldable pub part : List ℕ → ℕ → List ℕ
part l n = take n (drop 1 l)

abbrev pub log_at : (ticks events : List ℕ) (n : ℕ) → Log
log_at ticks events n = record { start = get_or ticks 0 0; close = get_or ticks (n + 1) 0; ticks = part ticks n; events = part events n }

abbrev pub run_at : (ticks events : List ℕ) (n : ℕ) → Run
run_at ticks events n = run_of (log_at ticks events n)

-- The same by index, as the code goes.

-- the events alone: for all that does not look at ticks
abbrev pub bare : (events : List ℕ) (n : ℕ) → Run
bare events n = record { lines = length (part events n); has = has_at (part events n); near = λ x y lo hi. false }

unfoldable pub tick_of : (ticks : List ℕ) (n x : ℕ) → ℕ
tick_of ticks n x = cond (ltb n x) (get_or ticks (n + 1) 0) (get_or ticks x 0)

-- whether positions x and y surely keep the limits
unfoldable pub near_of : (ticks : List ℕ) (n x y lo hi : ℕ) → Bool
near_of ticks n x y lo hi = cond (eqb x y) (eqb lo 0) (sure lo hi (gap (tick_of ticks n x) (tick_of ticks n y)))

-- The array is a run: its events, its ticks, which never fall, and, where they are drawn, its maps.
pub record Held (run : List ℕ) : Type 0 where
  pub size : length run ≡ run_room
  pub lines : Events (events_in run) (line_count run)
  pub rising : Ascending (tick_of (ticks_in run) (line_count run))
  pub mapped : (present run ≡ 0 → ⊥) → Mapped run

-- the log and the run that it is
abbrev pub log_held : (run : List ℕ) → Log
log_held run = log_at (ticks_in run) (events_in run) (line_count run)

abbrev pub run_held : (run : List ℕ) → Run
run_held run = run_at (ticks_in run) (events_in run) (line_count run)

-- a position as the code answers it
abbrev pub position_of : Option ℕ → Answer ℕ
position_of none = None
position_of (some x) = Some x

-- Of the lines the first `count` have ticks below the limit, and no other has.
pub record Before (run : List ℕ) (limit count : ℕ) : Type 0 where
  pub high : count ≤ line_count run
  pub below : (x : ℕ) → 1 ≤ x → x ≤ count → get_or (ticks_in run) x 0 < limit
  pub above : (x : ℕ) → count < x → x ≤ line_count run → limit ≤ get_or (ticks_in run) x 0
