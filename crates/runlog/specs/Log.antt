-- Document 01, "Read a log": first line, then line by line, last the close. What must be believed.
-- Assumes nothing.
use Rattle.std.specs.Prelude.{not, cond, List, [], ◌∷◌, ℕ, zero, suc, ◌+◌, ◌*◌, length, get_or, set, take, drop, ltb, eqb, Option, Some, None}
use Rattle.columns.specs.Number.{field_at}
use Rattle.scenario.specs.Rows.{Run}
use Rattle.scenario.specs.Log.{most_lines, Log, run_of}
use Rattle.runlog.specs.Numbers.{last_event, first_line_malformed, too_many_lines, wrong_length, line_malformed, event_unknown, tick_below, close_below}

-- First line: line count n (5 columns), start tick (11), close tick (11)

-- What it gives: the refusal 21 to 23 or 0, the line count, the start tick and the close tick.
pub record Head : Type 0 where
  pub refusal : ℕ
  pub n : ℕ
  pub start : ℕ
  pub close : ℕ

abbrev pub headed : (refusal n start close : ℕ) → Head
headed refusal n start close = record { refusal = refusal; n = n; start = start; close = close }

abbrev pub on_head : Option ℕ → (ℕ → Head) → Head
on_head (Some v) f = f v
on_head None f = headed first_line_malformed 0 0 0

unfoldable pub head_of : List ℕ → Head
head_of s =
    cond (ltb (length s) 28) (headed first_line_malformed 0 0 0)
    (on_head (field_at s 5) (λ n.
    on_head (field_at (drop 5 s) 11) (λ start.
    on_head (field_at (drop 16 s) 11) (λ close.
    cond (not (eqb (get_or s 27 0) 10)) (headed first_line_malformed 0 0 0)
    (cond (ltb most_lines n) (headed too_many_lines 0 0 0)
    (cond (not (eqb (length s) (28 + 15 * n))) (headed wrong_length 0 0 0)
    (headed 0 n start close)))))))

-- A line: tick (11 columns), event (3); `last` is the tick of the one before, for line 1 the start

-- What it gives: its refusal, or its tick and its event.
pub data LineRead : Type 0 where
  Refused : ℕ → LineRead
  Line : ℕ → ℕ → LineRead

abbrev pub on_field : Option ℕ → (ℕ → LineRead) → LineRead
on_field (Some v) f = f v
on_field None f = Refused line_malformed

unfoldable pub line_of : (last : ℕ) → List ℕ → LineRead
line_of last t =
    on_field (field_at t 11) (λ tick.
    on_field (field_at (drop 11 t) 3) (λ event.
    cond (not (eqb (get_or t 14 0) 10)) (Refused line_malformed)
    (cond (ltb last_event event) (Refused event_unknown)
    (cond (ltb tick last) (Refused tick_below)
    (Line tick event)))))

-- What reading the lines gives: the refusal or 0, the line it is about, the last tick, and the lines accepted before.
pub record Taken : Type 0 where
  pub number : ℕ
  pub line : ℕ
  pub last : ℕ
  pub ticks : List ℕ
  pub events : List ℕ

abbrev pub stop : (number line last : ℕ) → Taken
stop number line last = record { number = number; line = line; last = last; ticks = []; events = [] }

abbrev pub more : (tick event : ℕ) → Taken → Taken
more tick event t = record { number = t.number; line = t.line; last = t.last; ticks = tick ∷ t.ticks; events = event ∷ t.events }

abbrev pub on_line : LineRead → (ℕ → Taken) → (ℕ → ℕ → Taken) → Taken
on_line (Refused r) g f = g r
on_line (Line tick event) g f = f tick event

-- the 15 bytes of line i + 1
unfoldable pub line_bytes : List ℕ → ℕ → List ℕ
line_bytes s i = take 15 (drop (28 + 15 * i) s)

-- `left` lines from number i + 1 on, after the tick last
unfoldable pub lines_from : (s : List ℕ) (i left last : ℕ) → Taken
lines_from s i zero last = stop 0 0 last
lines_from s i (suc left) last =
    on_line (line_of last (line_bytes s i)) (λ r. stop r (suc i) last) (λ tick event. more tick event (lines_from s (suc i) left tick))

-- The whole

-- What reading gives: the refusal and the line that it is about (0: the first line), or the line count and the start and close ticks.
pub record Answer : Type 0 where
  pub refusal : ℕ
  pub line : ℕ
  pub n : ℕ
  pub start : ℕ
  pub close : ℕ

-- What the operation gives: the refusal, or 0 and the line count.
pub record LogRead : Type 0 where
  pub refusal : ℕ
  pub lines : ℕ

unfoldable pub taken : List ℕ → Taken
taken s = cond (eqb (head_of s).refusal 0) (lines_from s 0 (head_of s).n (head_of s).start) (stop (head_of s).refusal 0 0)

abbrev pub refused : (number line : ℕ) → Answer
refused number line = record { refusal = number; line = line; n = 0; start = 0; close = 0 }

abbrev pub accepted : (n start close : ℕ) → Answer
accepted n start close = record { refusal = 0; line = 0; n = n; start = start; close = close }

-- the last tick is the start where there are no lines
unfoldable pub closing : Head → Taken → Answer
closing h t =
    cond (eqb t.number 0)
    (cond (ltb h.close t.last) (refused close_below 0) (accepted h.n h.start h.close))
    (refused t.number t.line)

-- the refusal and the line that it is about (0 for 21 to 23 and 27), or the line count, the start and the close
unfoldable pub answer : List ℕ → Answer
answer s = closing (head_of s) (taken s)

-- what the operation gives: the refusal, or 0 and n
abbrev pub without_line : Answer → LogRead
without_line a = record { refusal = a.refusal; lines = a.n }

unfoldable pub lines_read : List ℕ → LogRead
lines_read s = without_line (answer s)

-- the log of a text that is accepted
unfoldable pub log_of : List ℕ → Log
log_of s = record { start = (head_of s).start; close = (head_of s).close; ticks = (taken s).ticks; events = (taken s).events }

-- the run that the rows see of a text
abbrev pub run_in : List ℕ → Run
run_in s = run_of (log_of s)

-- numbers stored from index i on
unfoldable pub lay : ℕ → List ℕ → List ℕ → List ℕ
lay i [] m = m
lay i (x ∷ xs) m = lay (suc i) xs (set m i x)
