-- Worked examples: accepted logs, and for each refusal logs that differ from an accepted one in just that, with the line it is about.
-- Assumes nothing.
use mathlib.Core.Path.{◌≡◌, refl}
use mathlib.Core.Bool.{Bool, true, ◌&&◌}
use mathlib.Core.List.{List, [], ◌∷◌, ◌++◌}
use Prim.Native.Nat.{ℕ}
use lib.ListN.{set, take}
use lib.Dec.{eqb}
use Rattle.columns.specs.Number.{field_at, numeral, scan}
use Rattle.columns.specs.Spell.{spell, left, left_byte, last_byte}
use Rattle.runlog.specs.Log.{head_of, line_of, line_bytes, lines_from, taken, closing, answer, lines_read}
use Rattle.runlog.specs.Text.{head_text, line_text, lines_text, log_text}

record Example : Type 0 where
  bytes : List ℕ
  refusal : ℕ
  line : ℕ
  n : ℕ

abbrev accepts : (bytes : List ℕ) (n : ℕ) → Example
accepts bytes n = record { bytes = bytes; refusal = 0; line = 0; n = n }

abbrev refuses : (bytes : List ℕ) (refusal line : ℕ) → Example
refuses bytes refusal line = record { bytes = bytes; refusal = refusal; line = line; n = 0 }

abbrev log : (start close : ℕ) (ticks events : List ℕ) → List ℕ
log start close ticks events = log_text (record { start = start; close = close; ticks = ticks; events = events })

-- Three lines: the first at the start's tick, the third at the second's. The count stands in bytes 0 to 4, the start in 5 to 15, the close in 16 to 26;
-- the lines begin at 28, 43 and 58, with the event 11 bytes further and LF 14 bytes further.
abbrev three : List ℕ
three = log 5 300 (5 ∷ 300 ∷ 300 ∷ []) (31 ∷ 0 ∷ 3 ∷ [])

abbrev none : List ℕ
none = log 7 7 [] []

abbrev examples : List Example
examples =
    accepts three 3
    ∷ accepts none 0
    ∷ accepts (log 0 4294967295 (4294967295 ∷ []) (31 ∷ [])) 1
    ∷ accepts (log 0 300 (5 ∷ 300 ∷ 300 ∷ []) (32 ∷ 33 ∷ 63 ∷ [])) 3
    -- 21: nothing, a byte short, no LF, a leading zero, no digit, a digit before a space, 11 columns over the cap
    ∷ refuses [] 21 0
    ∷ refuses (take 27 none) 21 0
    ∷ refuses (set none 27 13) 21 0
    ∷ refuses (set three 3 48) 21 0
    ∷ refuses (set three 15 32) 21 0
    ∷ refuses (set three 4 32) 21 0
    ∷ refuses (set three 14 45) 21 0
    ∷ refuses (log 0 4294967296 (4294967295 ∷ []) (31 ∷ [])) 21 0
    -- 22: before the length
    ∷ refuses (head_text 4001 0 0) 22 0
    -- 23: 4,000 lines are permitted, but are not there; a byte less, a byte more, a line less, a line more
    ∷ refuses (head_text 4000 0 0) 23 0
    ∷ refuses (take 72 three) 23 0
    ∷ refuses (three ++ (10 ∷ [])) 23 0
    ∷ refuses (take 58 three) 23 0
    ∷ refuses (none ++ line_text 7 0) 23 0
    -- 24: LF of the first and the last line, a leading zero, a letter, a space in a number, 11 columns over the cap; before 25 and 26
    ∷ refuses (set three 42 13) 24 1
    ∷ refuses (set three 72 32) 24 3
    ∷ refuses (set three 70 48) 24 3
    ∷ refuses (set three 56 111) 24 2
    ∷ refuses (set three 52 32) 24 2
    ∷ refuses (log 5 300 (5 ∷ 4294967296 ∷ 300 ∷ []) (31 ∷ 0 ∷ 3 ∷ [])) 24 2
    ∷ refuses (set (log 5 300 (5 ∷ 4 ∷ 300 ∷ []) (31 ∷ 64 ∷ 3 ∷ [])) 57 32) 24 2
    -- 25: the event after 63 (document 02, A1); before 26
    ∷ refuses (log 5 300 (5 ∷ 300 ∷ 300 ∷ []) (64 ∷ 0 ∷ 3 ∷ [])) 25 1
    ∷ refuses (log 5 300 (5 ∷ 4 ∷ 300 ∷ []) (31 ∷ 64 ∷ 3 ∷ [])) 25 2
    -- 26: below the start, below the line before but not below the start; a line is refused before the next is looked at
    ∷ refuses (log 6 300 (5 ∷ 300 ∷ 300 ∷ []) (31 ∷ 0 ∷ 3 ∷ [])) 26 1
    ∷ refuses (log 5 300 (5 ∷ 300 ∷ 299 ∷ []) (31 ∷ 0 ∷ 3 ∷ [])) 26 3
    ∷ refuses (log 5 300 (5 ∷ 4 ∷ 300 ∷ []) (31 ∷ 0 ∷ 64 ∷ [])) 26 2
    -- 27: below the last tick, and below the start where there are no lines; last of all
    ∷ refuses (log 5 299 (5 ∷ 300 ∷ 300 ∷ []) (31 ∷ 0 ∷ 3 ∷ [])) 27 0
    ∷ refuses (log 7 6 [] []) 27 0
    ∷ refuses (log 5 299 (5 ∷ 300 ∷ 300 ∷ []) (31 ∷ 0 ∷ 64 ∷ [])) 25 3
    ∷ []

-- the inner answer, and the number and the count that the operation gives
abbrev come_out : List Example → Bool
come_out [] = true
come_out (x ∷ xs) =
    eqb (answer x.bytes).refusal x.refusal
    && (eqb (answer x.bytes).line x.line
    && (eqb (lines_read x.bytes).refusal x.refusal && (eqb (lines_read x.bytes).lines x.n && come_out xs)))

pub all-come_out : come_out examples ≡ true
unfolding answer lines_read closing taken head_of line_of line_bytes lines_from field_at numeral scan log_text head_text lines_text line_text spell left left_byte last_byte
all-come_out = refl
