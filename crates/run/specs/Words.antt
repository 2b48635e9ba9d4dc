-- A run in memory is one array of words: where what stands in it. Inner vocabulary.
-- Assumes nothing.
use Rattle.std.specs.Prelude.{List, map, ℕ, ◌+◌, ◌*◌, get_or, take}
use Rattle.scenario.specs.Rows.{lower_half, upper_half, event_count}
use Rattle.scenario.specs.Log.{most_lines}

-- the start at 0, the lines, and the close behind the last of them
abbrev pub position_count : ℕ
position_count = most_lines + 2

-- a map has 63 words of 64 lines, and one that says which of them are not 0
abbrev pub map_words : ℕ
map_words = 64

-- a word for each position, then the maps of the events, the set of the events that have one, and the number of lines
abbrev pub run_room : ℕ
run_room = position_count + event_count * map_words + 2

-- of a position's word the lower half is its tick, the upper half its event; by position
unfoldable pub ticks_in : (run : List ℕ) → List ℕ
ticks_in run = map lower_half (take position_count run)

unfoldable pub events_in : (run : List ℕ) → List ℕ
events_in run = map upper_half (take position_count run)

-- word w of the map of event e
unfoldable pub map_in : (run : List ℕ) (e w : ℕ) → ℕ
map_in run e w = get_or run (position_count + (e * map_words + w)) 0

-- the events that have a map: none, where the maps are not drawn
abbrev pub present : (run : List ℕ) → ℕ
present run = get_or run 8098 0

abbrev pub line_count : (run : List ℕ) → ℕ
line_count run = get_or run 8099 0
