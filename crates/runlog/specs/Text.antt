-- The text of a log: the first line, and a line to a tick and its event. And which logs have a text that is accepted. What must be believed.
-- Assumes nothing.
use Rattle.std.specs.Prelude.{◌≡◌, List, [], ◌∷◌, ◌++◌, ℕ, ◌≤◌, ◌<◌, length}
use Rattle.scenario.specs.Rows.{event_count}
use Rattle.columns.specs.Spell.{spell}
use Rattle.scenario.specs.Log.{most_lines, Log}
use Rattle.scenario.specs.Reading.{All}
use Rattle.runlog.specs.Numbers.{last_tick}

-- document 01: line count n (5 columns), start tick (11), close tick (11)
unfoldable pub head_text : (n start close : ℕ) → List ℕ
head_text n start close = spell 5 n ++ (spell 11 start ++ (spell 11 close ++ (10 ∷ [])))

-- document 01: tick (11), event (3)
unfoldable pub line_text : (tick event : ℕ) → List ℕ
line_text tick event = spell 11 tick ++ (spell 3 event ++ (10 ∷ []))

unfoldable pub lines_text : (ticks events : List ℕ) → List ℕ
lines_text [] events = []
lines_text (t ∷ ts) [] = []
lines_text (t ∷ ts) (e ∷ es) = line_text t e ++ lines_text ts es

unfoldable pub log_text : Log → List ℕ
log_text g = head_text (length g.ticks) g.start g.close ++ lines_text g.ticks g.events

-- each tick is at least the one before, the first at least `last`, and the close at least the last of them
abbrev pub Ordered : (last : ℕ) (ticks : List ℕ) (close : ℕ) → Type 0
Ordered last [] close = last ≤ close
Ordered last (t ∷ ts) close = (last ≤ t) × Ordered t ts close

-- What document 01 asks of a log's numbers.
pub record ValidLog (g : Log) : Type 0 where
  pub few : length g.ticks ≤ most_lines
  pub paired : length g.events ≡ length g.ticks
  pub known : All (λ (e : ℕ). e < event_count) g.events
  pub ordered : Ordered g.start g.ticks g.close
  pub fits : g.close ≤ last_tick
