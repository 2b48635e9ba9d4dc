-- Document 01's numbers for a log: its limits, but for the most lines (scenario, Log), and the refusals of "Read a log". What must be believed.
-- Assumes nothing.
use Rattle.std.specs.Prelude.{ℕ, ◌-◌}
use Rattle.columns.specs.Number.{largest}
use Rattle.scenario.specs.Rows.{event_count}

abbrev pub last_event : ℕ
last_event = event_count - 1

-- what a field of 11 columns holds at most
abbrev pub last_tick : ℕ
last_tick = largest

-- 21 first line short or malformed
abbrev pub first_line_malformed : ℕ
first_line_malformed = 21

-- 22 n over 4,000
abbrev pub too_many_lines : ℕ
too_many_lines = 22

-- 23 length is not 28 + 15n
abbrev pub wrong_length : ℕ
wrong_length = 23

-- 24 line malformed
abbrev pub line_malformed : ℕ
line_malformed = 24

-- 25 event over 63 (document 02, A1)
abbrev pub event_unknown : ℕ
event_unknown = 25

-- 26 tick below the one before
abbrev pub tick_below : ℕ
tick_below = 26

-- 27 close below the last tick, or below the start if n is 0
abbrev pub close_below : ℕ
close_below = 27
