-- The text of a log whose numbers document 01 permits is accepted, and is read as that log.
-- Assumes nothing.
use mathlib.Core.Path.{◌≡◌, refl, sym, ap, ◌∙◌}
use mathlib.Core.List.{List, [], ◌∷◌, ◌++◌, append_assoc}
use Prim.Native.Nat.{ℕ, suc, ◌+◌, ◌*◌, ◌≤◌, ◌<◌}
use native.Mathlib.Omega.{arith}
use lib.ListN.{length, get_or, take, drop, length-append}
use lib.Seq.{take_at, drop-append_seam, drop-drop, get_or-drop}
use borrow.Author.Tests.{eq-eqb, le-ltb}
use Rattle.scenario.specs.Rows.{event_count}
use Rattle.columns.specs.Spell.{spell}
use Rattle.columns.proofs.Spelling.{spell-length, spell-read}
use Rattle.scenario.specs.Log.{most_lines, Log}
use Rattle.scenario.specs.Reading.{All}
use Rattle.runlog.specs.Numbers.{last_tick, last_event}
use Rattle.runlog.specs.Log.LineRead.{Line}
use Rattle.runlog.specs.Log.{headed, head_of, line_of, Taken, line_bytes, lines_from, taken, accepted, closing, answer, log_of}
use Rattle.runlog.specs.Text.{head_text, line_text, lines_text, log_text, Ordered, ValidLog}
use Rattle.columns.proofs.Lines.{past}

-- The first line, with the lines after it

module _ (n start close : ℕ) (lines : List ℕ) where
  abbrev from_end : List ℕ
  from_end = 10 ∷ lines

  abbrev from_close : List ℕ
  from_close = spell 11 close ++ from_end

  abbrev from_start : List ℕ
  from_start = spell 11 start ++ from_close

  abbrev whole : List ℕ
  whole = spell 5 n ++ from_start

  whole_is : head_text n start close ++ lines ≡ whole
  unfolding head_text
  whole_is =
      append_assoc (spell 5 n) (spell 11 start ++ (spell 11 close ++ (10 ∷ []))) lines
      ∙ ap (λ (x : List ℕ). spell 5 n ++ x) (append_assoc (spell 11 start) (spell 11 close ++ (10 ∷ [])) lines
      ∙ ap (λ (x : List ℕ). spell 11 start ++ x) (append_assoc (spell 11 close) (10 ∷ []) lines))

  at_start : drop 5 whole ≡ from_start
  at_start = past 5 n 0 from_start

  at-close : drop 16 whole ≡ from_close
  at-close = past 5 n 11 from_start ∙ past 11 start 0 from_close

  at-end : drop 27 whole ≡ from_end
  at-end = past 5 n 22 from_start ∙ past 11 start 11 from_close ∙ past 11 close 0 from_end

  end_is : get_or whole 27 0 ≡ 10
  end_is = sym (get_or-drop 27 whole 0 0) ∙ ap (λ (x : List ℕ). get_or x 0 0) at-end

  at-lines : drop 28 whole ≡ lines
  at-lines = sym (drop-drop 1 27 whole) ∙ ap (drop 1) at-end

  whole_length : length whole ≡ 28 + length lines
  whole_length =
      omega (
        arith,
        length-append (spell 5 n) from_start,
        length-append (spell 11 start) from_close,
        length-append (spell 11 close) from_end,
        spell-length 5 n,
        spell-length 11 start,
        spell-length 11 close,
      )

  head_read : n ≤ most_lines → start ≤ last_tick → close ≤ last_tick → length lines ≡ 15 * n → head_of whole ≡ headed 0 n start close
  unfolding head_of
  head_read few s c l =
      let long : length whole ≡ 28 + 15 * n = omega (arith, whole_length) in
      rw (at_start, at-close)
      (rw (
        spell-read 5 n from_start (omega arith) (omega arith) (omega arith),
        spell-read 11 start from_close (omega arith) (omega arith) s,
        spell-read 11 close from_end (omega arith) (omega arith) c,
      )
      (rw (end_is, long) (simp (le-ltb (28 + 15 * n) 28 (omega arith), le-ltb most_lines n few, eq-eqb (28 + 15 * n) (28 + 15 * n) refl))))

-- A line

module _ (tick event : ℕ) where
  abbrev from_event : List ℕ
  from_event = spell 3 event ++ (10 ∷ [])

  line-ends : get_or (spell 11 tick ++ from_event) 14 0 ≡ 10
  line-ends = sym (get_or-drop 14 (spell 11 tick ++ from_event) 0 0) ∙ ap (λ (x : List ℕ). get_or x 0 0) (past 11 tick 3 from_event ∙ past 3 event 0 (10 ∷ []))

  line_read : (last : ℕ) → last ≤ tick → tick ≤ last_tick → event < event_count → line_of last (line_text tick event) ≡ Line tick event
  unfolding line_of line_text
  line_read last after fits low =
      rw (past 11 tick 0 from_event)
      (rw (
        spell-read 11 tick from_event (omega arith) (omega arith) fits,
        spell-read 3 event (10 ∷ []) (omega arith) (omega arith) (omega arith),
      )
      (rw line-ends (simp (le-ltb last_event event (omega arith), le-ltb tick last after))))

  line-long : length (line_text tick event) ≡ 15
  unfolding line_text
  line-long = omega (arith, length-append (spell 11 tick) from_event, length-append (spell 3 event) (10 ∷ []), spell-length 11 tick, spell-length 3 event)

-- Lines one after another

lines_long : (ticks events : List ℕ) → length events ≡ length ticks → length (lines_text ticks events) ≡ 15 * length ticks
unfolding lines_text
lines_long [] events n = refl
lines_long (t ∷ ts) [] n = absurd (omega arith)
lines_long (t ∷ ts) (e ∷ es) n = omega (arith, length-append (line_text t e) (lines_text ts es), line-long t e, lines_long ts es (omega arith))

-- the tick that the close is compared with
abbrev last_tick_of : (last : ℕ) → List ℕ → ℕ
last_tick_of last [] = last
last_tick_of last (t ∷ ts) = last_tick_of t ts

ordered-last : (last : ℕ) (ticks : List ℕ) (close : ℕ) → Ordered last ticks close → last_tick_of last ticks ≤ close
ordered-last last [] close o = o
ordered-last last (t ∷ ts) close o = ordered-last t ts close o.1

pub ordered-ends : (last : ℕ) (ticks : List ℕ) (close : ℕ) → Ordered last ticks close → last ≤ close
ordered-ends last [] close o = o
ordered-ends last (t ∷ ts) close o = let h = ordered-ends t ts close o.1 in omega (arith, o.0)

abbrev all_taken : (last : ℕ) (ticks events : List ℕ) → Taken
all_taken last ticks events = record { number = 0; line = 0; last = last_tick_of last ticks; ticks = ticks; events = events }

module _ (s : List ℕ) (close : ℕ) (fits : close ≤ last_tick) where
  line-here : (t e i : ℕ) (rest : List ℕ) → drop (28 + 15 * i) s ≡ line_text t e ++ rest → line_bytes s i ≡ line_text t e
  unfolding line_bytes
  line-here t e i rest d = ap (take 15) d ∙ take_at (line_text t e) rest 15 (line-long t e)

  lines_after : (t e i : ℕ) (rest : List ℕ) → drop (28 + 15 * i) s ≡ line_text t e ++ rest → drop (28 + 15 * suc i) s ≡ rest
  lines_after t e i rest d =
      let n : 28 + 15 * suc i ≡ 28 + 15 * i + 15 = omega arith in
      ap (λ (j : ℕ). drop j s) n ∙ sym (drop-drop 15 (28 + 15 * i) s) ∙ ap (drop 15) d
      ∙ ap (λ (j : ℕ). drop j (line_text t e ++ rest)) (sym (line-long t e)) ∙ drop-append_seam (line_text t e) rest

  lines_read_lem : (ticks events : List ℕ) (i last : ℕ) → length events ≡ length ticks → All (λ (e : ℕ). e < event_count) events → Ordered last ticks close
      → drop (28 + 15 * i) s ≡ lines_text ticks events → lines_from s i (length ticks) last ≡ all_taken last ticks events
  unfolding lines_from lines_text
  lines_read_lem [] [] i last n low o d = refl
  lines_read_lem [] (e ∷ es) i last n low o d = absurd (omega arith)
  lines_read_lem (t ∷ ts) [] i last n low o d = absurd (omega arith)
  lines_read_lem (t ∷ ts) (e ∷ es) i last n low o d =
      let c = ordered-ends t ts close o.1 in
      rw (
        line-here t e i (lines_text ts es) d,
        line_read t e last o.0 (omega arith) low.0,
        lines_read_lem ts es (suc i) t (omega arith) low.1 o.1 (lines_after t e i (lines_text ts es) d),
      )

-- The whole text

module _ (g : Log) (valid : ValidLog g) where
  abbrev lines_of : List ℕ
  lines_of = lines_text g.ticks g.events

  abbrev text_of : List ℕ
  text_of = whole (length g.ticks) g.start g.close lines_of

  pub text-is : log_text g ≡ text_of
  unfolding log_text
  text-is = whole_is (length g.ticks) g.start g.close lines_of

  head-is : head_of text_of ≡ headed 0 (length g.ticks) g.start g.close
  head-is =
      let s = ordered-ends g.start g.ticks g.close valid.ordered in
      head_read (length g.ticks) g.start g.close lines_of valid.few (omega (arith, valid.fits)) valid.fits (lines_long g.ticks g.events valid.paired)

  taken_is : taken text_of ≡ all_taken g.start g.ticks g.events
  unfolding taken
  taken_is = rw head-is
      (lines_read_lem text_of g.close valid.fits g.ticks g.events 0 g.start valid.paired valid.known valid.ordered (at-lines (length g.ticks) g.start g.close lines_of))

  answer-is : answer text_of ≡ accepted (length g.ticks) g.start g.close
  unfolding answer closing
  answer-is = rw (head-is, taken_is) (simp (le-ltb g.close (last_tick_of g.start g.ticks) (ordered-last g.start g.ticks g.close valid.ordered)))

  log_is : log_of text_of ≡ g
  unfolding log_of
  log_is = rw (head-is, taken_is)

  -- THE TEXT IS READ: with its line count and its own numbers
  pub text-accepted : answer (log_text g) ≡ accepted (length g.ticks) g.start g.close
  text-accepted = ap answer text-is ∙ answer-is

  pub text-log : log_of (log_text g) ≡ g
  text-log = ap log_of text-is ∙ log_is
