-- What reading leaves in memory is the log of its text.
-- Assumes nothing.
use mathlib.Core.Path.{◌≡◌, refl, sym, ◌∙◌, ap, subst}
use mathlib.Core.Logic.{◌⊎◌, inl, inr}
use mathlib.Core.List.{List, [], ◌∷◌}
use Prim.Native.Nat.{ℕ, zero, suc, ◌+◌, ◌-◌, ◌*◌, ◌≤◌, ◌<◌}
use native.Mathlib.Omega.{arith}
use lib.ListN.{length, get_or, set, replicate, length-set}
use lib.Seq.{get_or-set_same, get_or-set_other, ext_get_or}
use Rattle.scenario.specs.Rows.{event_count, set_of, lower_half, upper_half, full_half}
use Rattle.scenario.specs.Log.{most_lines, Log, tick}
use Rattle.scenario.proofs.Base.{all_get_d}
use Rattle.scenario.proofs.Halves.{lower_half_of, upper_half_of}
use Rattle.run.specs.Words.{position_count, run_room, ticks_in, events_in, map_in, present, line_count}
use Rattle.run.specs.Held.{Held, part, log_at, tick_of}
use Rattle.run.proofs.Words.{lower_none, tick_half, event_half, ticks-length, events-length}
use Rattle.run.proofs.Logs.{default, part_length, part_at, tick_is, held_empty}
use Rattle.runlog.specs.Log.{Answer}
use Rattle.runlog.specs.Log.{Head}
use Rattle.runlog.specs.Log.{head_of, line_of, LineRead, Taken, on_line, more, stop, line_bytes, lines_from, taken, answer, log_of, lay}
use Rattle.runlog.specs.Log.LineRead.{Refused, Line}
use Rattle.runlog.specs.Text.{Ordered}
use Rattle.runlog.specs.Held.{words_of, Loaded}
use Rattle.runlog.proofs.Whole.{accepted-log, answer_said, log-few}
use Rattle.runlog.proofs.Ending.{lines-taken}
use Rattle.runlog.proofs.Theorems.{accepted-text}
use Rattle.runlog.proofs.Clock.{rising, ticks-ascend}

-- Numbers laid from an index on

lay-length : (ws : List ℕ) (i : ℕ) (m : List ℕ) → length (lay i ws m) ≡ length m
unfolding lay
lay-length [] i m = refl
lay-length (w ∷ ws) i m = lay-length ws (suc i) (set m i w) ∙ length-set m i w

lay_beside : (ws : List ℕ) (i : ℕ) (m : List ℕ) (x : ℕ) → (x < i) ⊎ (i + length ws ≤ x) → get_or (lay i ws m) x 0 ≡ get_or m x 0
unfolding lay
lay_beside [] i m x h = refl
lay_beside (w ∷ ws) i m x (inl l) = lay_beside ws (suc i) (set m i w) x (inl (omega arith)) ∙ get_or-set_other m i x w 0 (λ q. omega arith)
lay_beside (w ∷ ws) i m x (inr l) = lay_beside ws (suc i) (set m i w) x (inr (omega arith)) ∙ get_or-set_other m i x w 0 (λ q. omega arith)

lay-here : (ws : List ℕ) (i : ℕ) (m : List ℕ) (j : ℕ) → j < length ws → i + length ws ≤ length m → get_or (lay i ws m) (i + j) 0 ≡ get_or ws j 0
unfolding lay
lay-here [] i m j h r = absurd (omega arith)
lay-here (w ∷ ws) i m zero h r = let e : i + 0 ≡ i = omega arith in ap (λ (k : ℕ). get_or (lay (suc i) ws (set m i w)) k 0) e ∙ lay_beside ws (suc i) (set m i w) i (inl (omega arith)) ∙ get_or-set_same m i w 0 (omega arith)
lay-here (w ∷ ws) i m (suc j) h r = let e : i + suc j ≡ suc i + j = omega arith in ap (λ (k : ℕ). get_or (lay (suc i) ws (set m i w)) k 0) e ∙ lay-here ws (suc i) (set m i w) j (omega arith) (omega (arith, length-set m i w))

-- The words of lines

words_few : (ts es : List ℕ) → length (words_of ts es) ≤ length ts
unfolding words_of
words_few [] es = omega arith
words_few (t ∷ ts) [] = omega arith
words_few (t ∷ ts) (e ∷ es) = omega (arith, words_few ts es)

words-length : (ts es : List ℕ) → length es ≡ length ts → length (words_of ts es) ≡ length ts
unfolding words_of
words-length [] es h = refl
words-length (t ∷ ts) [] h = absurd (omega arith)
words-length (t ∷ ts) (e ∷ es) h = ap suc (words-length ts es (omega arith))

words-at : (ts es : List ℕ) (j : ℕ) → length es ≡ length ts → j < length ts → get_or (words_of ts es) j 0 ≡ set_of (get_or ts j 0) (get_or es j 0)
unfolding words_of
words-at [] es j h l = absurd (omega arith)
words-at (t ∷ ts) [] j h l = absurd (omega arith)
words-at (t ∷ ts) (e ∷ es) zero h l = refl
words-at (t ∷ ts) (e ∷ es) (suc j) h l = words-at ts es j (omega arith) (omega arith)

log-same : (a b c d : ℕ) (t u v w : List ℕ) → a ≡ b → c ≡ d → t ≡ u → v ≡ w → ◌≡◌ {A = Log} (record { start = a; close = c; ticks = t; events = v }) (record { start = b; close = d; ticks = u; events = w })
log-same a b c d t u v w e f g h = rw (e, f, g, h)

-- An accepted text, read into zeros
module _ (l zeros : List ℕ) (size : length zeros ≡ run_room) (blank : (i : ℕ) → get_or zeros i 0 ≡ 0) (e : (answer l).refusal ≡ 0) where
  abbrev ts : List ℕ
  ts = (taken l).ticks

  abbrev es : List ℕ
  es = (taken l).events

  abbrev n : ℕ
  n = (head_of l).n

  abbrev start : ℕ
  start = (head_of l).start

  abbrev close : ℕ
  close = (head_of l).close

  n-is : (answer l).n ≡ n
  n-is = ap (λ (a : Answer). a.n) (answer_said l e)

  few : n ≤ most_lines
  few = omega (arith, n-is, log-few l e)

  many : length ts ≡ n
  many = (accepted-log l e).ticks

  paired : length es ≡ length ts
  paired = (accepted-log l e).events ∙ sym many

  ordered : Ordered start ts close
  unfolding log_of
  ordered = (accepted-text l e).valid.ordered

  close-fits : close ≤ full_half
  unfolding log_of
  close-fits = (accepted-text l e).valid.fits

  start_fits : start ≤ full_half
  unfolding log_of tick
  start_fits = omega (arith, close-fits, above-start ts ordered)
    where
      above-start : (ts : List ℕ) → Ordered start ts close → start ≤ close
      above-start ts o = go ts start o
        where
          go : (ts : List ℕ) (last : ℕ) → Ordered last ts close → last ≤ close
          go [] last o = o
          go (t ∷ ts) last o = omega (arith, o.0, go ts t o.1)

  tick-fits : (j : ℕ) → j < n → get_or ts j 0 ≤ full_half
  tick-fits j h =
      let last : get_or ts (length ts) close ≡ close = past ts in
      omega (arith, close-fits, last, rising start ts close ordered j (length ts) (omega (arith, many)), default ts j 0 close (omega (arith, many)))
    where
      past : (l : List ℕ) → get_or l (length l) close ≡ close
      past [] = refl
      past (x ∷ xs) = past xs

  abbrev words : List ℕ
  words = words_of ts es

  abbrev lines : List ℕ
  lines = lay 1 words zeros

  abbrev full : List ℕ
  full = set (set (set lines 0 (set_of start 0)) (n + 1) (set_of close 0)) 8099 n

  many_words : length words ≡ n
  many_words = words-length ts es paired ∙ many

  lines-size : length lines ≡ run_room
  lines-size = lay-length words 1 zeros ∙ size

  full_size : length full ≡ run_room
  full_size = length-set (set (set lines 0 (set_of start 0)) (n + 1) (set_of close 0)) 8099 n ∙ length-set (set lines 0 (set_of start 0)) (n + 1) (set_of close 0) ∙ length-set lines 0 (set_of start 0) ∙ lines-size

  count-is : line_count full ≡ n
  count-is = get_or-set_same (set (set lines 0 (set_of start 0)) (n + 1) (set_of close 0)) 8099 n 0 (omega (arith, length-set (set lines 0 (set_of start 0)) (n + 1) (set_of close 0), length-set lines 0 (set_of start 0), lines-size))

  -- an index that is neither of the ends' nor that of the number of lines
  inner : (x : ℕ) → (x ≡ 0 → ⊥) → (x ≡ n + 1 → ⊥) → (x ≡ 8099 → ⊥) → get_or full x 0 ≡ get_or lines x 0
  inner x a b c =
      get_or-set_other (set (set lines 0 (set_of start 0)) (n + 1) (set_of close 0)) 8099 x n 0 c ∙ get_or-set_other (set lines 0 (set_of start 0)) (n + 1) x (set_of close 0) 0 b ∙ get_or-set_other lines 0 x (set_of start 0) 0 a

  word-start : get_or full 0 0 ≡ set_of start 0
  word-start =
      get_or-set_other (set (set lines 0 (set_of start 0)) (n + 1) (set_of close 0)) 8099 0 n 0 (λ q. omega arith) ∙ get_or-set_other (set lines 0 (set_of start 0)) (n + 1) 0 (set_of close 0) 0 (λ q. omega arith)
      ∙ get_or-set_same lines 0 (set_of start 0) 0 (omega (arith, lines-size))

  word-close : get_or full (n + 1) 0 ≡ set_of close 0
  word-close =
      get_or-set_other (set (set lines 0 (set_of start 0)) (n + 1) (set_of close 0)) 8099 (n + 1) n 0 (λ q. omega (arith, few))
      ∙ get_or-set_same (set lines 0 (set_of start 0)) (n + 1) (set_of close 0) 0 (omega (arith, few, length-set lines 0 (set_of start 0), lines-size))

  word_line : (j : ℕ) → j < n → get_or full (1 + j) 0 ≡ set_of (get_or ts j 0) (get_or es j 0)
  word_line j h =
      inner (1 + j) (λ q. omega arith) (λ q. omega arith) (λ q. omega (arith, few)) ∙ lay-here words 1 zeros j (omega (arith, many_words)) (omega (arith, many_words, few, size)) ∙ words-at ts es j paired (omega (arith, many))

  word-zero : (x : ℕ) → n + 1 < x → (x ≡ 8099 → ⊥) → get_or full x 0 ≡ 0
  word-zero x h c = inner x (λ q. omega arith) (λ q. omega arith) c ∙ lay_beside words 1 zeros x (inr (omega (arith, many_words))) ∙ blank x

  tick-line : (j : ℕ) → j < n → get_or (ticks_in full) (1 + j) 0 ≡ get_or ts j 0
  tick-line j h = sym (tick_half full (1 + j) (omega (arith, few))) ∙ ap lower_half (word_line j h) ∙ lower_half_of (get_or ts j 0) (get_or es j 0) (tick-fits j h)

  event-line : (j : ℕ) → j < n → get_or (events_in full) (1 + j) 0 ≡ get_or es j 0
  event-line j h = sym (event_half full (1 + j) (omega (arith, few))) ∙ ap upper_half (word_line j h) ∙ upper_half_of (get_or ts j 0) (get_or es j 0) (tick-fits j h)

  ticks-room : n < length (ticks_in full)
  ticks-room = omega (arith, few, ticks-length full (omega (arith, full_size)))

  events-room : n < length (events_in full)
  events-room = omega (arith, few, events-length full (omega (arith, full_size)))

  part-ticks : part (ticks_in full) n ≡ ts
  part-ticks = ext_get_or 0 (part (ticks_in full) n) ts (part_length (ticks_in full) n ticks-room ∙ sym many)
      (λ j h. let i : j < n = omega (arith, part_length (ticks_in full) n ticks-room) in let q : j ≡ 1 + j - 1 = omega arith in
      ap (λ (k : ℕ). get_or (part (ticks_in full) n) k 0) q ∙ part_at (ticks_in full) n ticks-room (1 + j) 0 (omega arith) (omega arith) ∙ tick-line j i)

  part-events : part (events_in full) n ≡ es
  part-events = ext_get_or 0 (part (events_in full) n) es (part_length (events_in full) n events-room ∙ sym (paired ∙ many))
      (λ j h. let i : j < n = omega (arith, part_length (events_in full) n events-room) in let q : j ≡ 1 + j - 1 = omega arith in
      ap (λ (k : ℕ). get_or (part (events_in full) n) k 0) q ∙ part_at (events_in full) n events-room (1 + j) 0 (omega arith) (omega arith) ∙ event-line j i)

  log_is : log_at (ticks_in full) (events_in full) n ≡ log_of l
  unfolding log_of
  log_is = log-same _ _ _ _ _ _ _ _
      (sym (tick_half full 0 (omega arith)) ∙ ap lower_half word-start ∙ lower_half_of start 0 start_fits)
      (sym (tick_half full (n + 1) (omega (arith, few))) ∙ ap lower_half word-close ∙ lower_half_of close 0 close-fits)
      part-ticks
      part-events

  small : (x : ℕ) → 1 ≤ x → x ≤ n → get_or (events_in full) x 0 < event_count
  small x a b = let q : 1 + (x - 1) ≡ x = omega arith in
      subst (λ (k : ℕ). k < event_count) (sym (ap (λ (k : ℕ). get_or (events_in full) k 0) (sym q) ∙ event-line (x - 1) (omega arith)))
      (all_get_d (λ (k : ℕ). k < event_count) 0 es (accepted-log l e).low (x - 1) (omega (arith, paired, many)))

  rises : (x y : ℕ) → x ≤ y → tick_of (ticks_in full) n x ≤ tick_of (ticks_in full) n y
  rises x y h =
      let t : (z : ℕ) → tick (log_of l) z ≡ tick_of (ticks_in full) n z = λ z. ap (λ (g : Log). tick g z) (sym log_is) ∙ tick_is (ticks_in full) (events_in full) n (omega (arith, few, ticks-length full (omega (arith, full_size)))) z in
      omega (arith, ticks-ascend (log_of l) (accepted-text l e).valid.ordered x y h, t x, t y)

  no_word : (f w : ℕ) → f < event_count → w < 64 → map_in full f w ≡ 0
  unfolding map_in
  no_word f w i j = word-zero (position_count + (f * 64 + w)) (omega (arith, few)) (λ q. omega arith)

  loaded : Loaded l full
  loaded = record {
    held = record {
      size = full_size;
      lines = rw count-is (record { room = events-room; few = few; small = small });
      rising = rw count-is rises;
      mapped = λ t. absurd (t none);
    };
    blank = record { zeros = no_word; none = none };
    lines = count-is ∙ sym n-is;
    is = rw count-is log_is;
  }
    where
      none : present full ≡ 0
      none = word-zero 8098 (omega (arith, few)) (λ q. omega arith)

  -- as the code stores it: h is what the first line gave
  pub loaded_by : (h : Head) → h ≡ head_of l → h.refusal ≡ 0 → (run lines started closed : List ℕ) → lines ≡ lay 1 (words_of (lines_from l 0 h.n h.start).ticks (lines_from l 0 h.n h.start).events) zeros
      → started ≡ set lines 0 (set_of h.start 0) → closed ≡ set started (h.n + 1) (set_of h.close 0) → run ≡ set closed 8099 h.n → Loaded l run
  loaded_by h eh z run lines started closed el es' ec er = subst (Loaded l) (sym whole) loaded
    where
      taken_is : lines ≡ lay 1 (words_of ts es) zeros
      taken_is = el ∙ ap (λ (t : Taken). lay 1 (words_of t.ticks t.events) zeros) (sym (lines-taken l h eh z))

      whole : run ≡ full
      whole = er ∙ ap (λ (m : List ℕ). set m 8099 h.n) (ec ∙ ap (λ (m : List ℕ). set m (h.n + 1) (set_of h.close 0)) (es' ∙ ap (λ (m : List ℕ). set m 0 (set_of h.start 0)) taken_is))
          ∙ ap (λ (q : Head). set (set (set (lay 1 (words_of ts es) zeros) 0 (set_of q.start 0)) (q.n + 1) (set_of q.close 0)) 8099 q.n) eh

-- no more lines are read than are asked for
lines_few : (s : List ℕ) (left i last : ℕ) → length (lines_from s i left last).ticks ≤ left
unfolding lines_from
lines_few s zero i last = omega arith
lines_few s (suc left) i last = go (line_of last (line_bytes s i)) (lines_few s left (suc i))
  where
    go : (c : LineRead) → ((tick : ℕ) → length (lines_from s (suc i) left tick).ticks ≤ left) → length (on_line c (λ r. stop r (suc i) last) (λ tick event. more tick event (lines_from s (suc i) left tick))).ticks ≤ suc left
    go (Refused r) h = omega arith
    go (Line tick event) h = omega (arith, h tick)

-- Where a log is refused, its lines may be there, but they are not counted: that is a run without lines.
pub held_refused : (s zeros : List ℕ) (n start : ℕ) → n ≤ most_lines → length zeros ≡ run_room → ((i : ℕ) → get_or zeros i 0 ≡ 0) → (run : List ℕ)
    → run ≡ lay 1 (words_of (lines_from s 0 n start).ticks (lines_from s 0 n start).events) zeros → Held run
held_refused s zeros n start few size blank run is = subst Held (sym is) (held_empty laid (lay-length words 1 zeros ∙ size) (untouched 8099 (omega arith)) (untouched 8098 (omega arith)) (omega (arith, low)))
  where
    words : List ℕ
    words = words_of (lines_from s 0 n start).ticks (lines_from s 0 n start).events

    laid : List ℕ
    laid = lay 1 words zeros

    untouched : (x : ℕ) → 4001 ≤ x → get_or laid x 0 ≡ 0
    untouched x h = lay_beside words 1 zeros x (inr (omega (arith, few, words_few (lines_from s 0 n start).ticks (lines_from s 0 n start).events, lines_few s n 0 start))) ∙ blank x

    low : get_or (ticks_in laid) 0 0 ≡ 0
    low = sym (tick_half laid 0 (omega arith)) ∙ ap lower_half (lay_beside words 1 zeros 0 (inl (omega arith)) ∙ blank 0) ∙ lower_none

-- an array of zeros
pub all-zeros : (n i : ℕ) → get_or {A = ℕ} (replicate n 0) i 0 ≡ 0
all-zeros zero i = refl
all-zeros (suc n) zero = refl
all-zeros (suc n) (suc i) = all-zeros n i
