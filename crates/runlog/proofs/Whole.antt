-- What reading has seen of a log that it accepts: of the first line, of each line in turn, of the close.
-- Assumes nothing.
use mathlib.Core.Path.{◌≡◌, refl, sym, ap, ap₂, ◌∙◌, subst}
use mathlib.Core.Bool.{Bool, true, false, cond, not}
use mathlib.Core.List.{List, [], ◌∷◌, ◌++◌, append_assoc}
use Prim.Native.Nat.{ℕ, zero, suc, ◌+◌, ◌*◌, ◌≤◌, ◌<◌}
use native.Mathlib.Omega.{arith}
use lib.ListN.{length, get_or, set, take, drop, length-set, take-append-drop, drop_of_length-le}
use lib.Seq.{take-suc-set, drop-set-lt, drop-drop, drop-cons}
use lib.Dec.{eqb, ltb}
use borrow.Author.Tests.{eq-eqb, eqb-true, eqb-false, ltb-false, not-false}
use Rattle.scenario.specs.Rows.{event_count}
use Rattle.columns.specs.Number.{field_at}
use Rattle.columns.specs.Spell.{spell}
use Rattle.std.specs.Prelude.{Option, Some, None}
use Rattle.scenario.specs.Reading.{All}
use Rattle.runlog.specs.Numbers.{last_event, close_below}
use Rattle.scenario.specs.Log.{most_lines}
use Rattle.runlog.specs.Log.{Head}
use Rattle.runlog.specs.Log.{Answer}
use Rattle.runlog.specs.Log.{LineRead}
use Rattle.runlog.specs.Log.LineRead.{Refused, Line}
use Rattle.runlog.specs.Log.{headed, on_head, head_of, on_field, line_of, Taken, stop, more, on_line, line_bytes, lines_from, taken, refused, accepted, closing, answer, lay}
use Rattle.runlog.specs.Text.{line_text, lines_text, Ordered}
use Rattle.columns.proofs.Lines.{peel}
use Rattle.runlog.proofs.Loop.{line-length}

-- The first line

pub record FirstSeen (s : List ℕ) (h : Head) : Type 0 where
  pub count : field_at s 5 ≡ Some h.n
  pub start : field_at (drop 5 s) 11 ≡ Some h.start
  pub close : field_at (drop 16 s) 11 ≡ Some h.close
  pub end : get_or s 27 0 ≡ 10
  pub few : h.n ≤ most_lines
  pub length : length s ≡ 28 + 15 * h.n

-- a first line that is not refused was seen
abbrev Sure : List ℕ → Head → Type 0
Sure s h = h.refusal ≡ 0 → FirstSeen s h

module _ (s : List ℕ) where
  sure_bad : (n : ℕ) → Sure s (headed (suc n) 0 0 0)
  sure_bad n e = absurd (omega arith)

  sure_if : (b : Bool) (n : ℕ) (h : Head) → (b ≡ false → Sure s h) → Sure s (cond b (headed (suc n) 0 0 0) h)
  sure_if true n h f = sure_bad n
  sure_if false n h f = f refl

  sure-on : (f : Option ℕ) (g : ℕ → Head) → ((v : ℕ) → f ≡ Some v → Sure s (g v)) → Sure s (on_head f g)
  sure-on (Some v) g h = h v refl
  sure-on None g h = sure_bad 20

  pub first-seen : (head_of s).refusal ≡ 0 → FirstSeen s (head_of s)
  unfolding head_of
  first-seen =
      sure_if (ltb (length s) 28) 20 _ (λ _.
      sure-on (field_at s 5) _ (λ n is-count.
      sure-on (field_at (drop 5 s) 11) _ (λ start is-start.
      sure-on (field_at (drop 16 s) 11) _ (λ close is-close.
      sure_if (not (eqb (get_or s 27 0) 10)) 20 _ (λ end.
      sure_if (ltb most_lines n) 21 _ (λ few.
      sure_if (not (eqb (length s) (28 + 15 * n))) 22 _ (λ long _.
      record {
        count = is-count;
        start = is-start;
        close = is-close;
        end = eqb-true (get_or s 27 0) 10 (not-false (eqb (get_or s 27 0) 10) end);
        few = ltb-false most_lines n few;
        length = eqb-true (length s) (28 + 15 * n) (not-false (eqb (length s) (28 + 15 * n)) long);
      })))))))

-- One line

record LineSeen (last : ℕ) (t : List ℕ) (tick event : ℕ) : Type 0 where
  is-tick : field_at t 11 ≡ Some tick
  is-event : field_at (drop 11 t) 3 ≡ Some event
  end : get_or t 14 0 ≡ 10
  low : event < event_count
  after : last ≤ tick

module _ (last : ℕ) (t : List ℕ) where
  -- a line that is read was seen, and a refusal is not 0
  abbrev Told : LineRead → Type 0
  Told (Refused r) = r ≡ 0 → ⊥
  Told (Line tick event) = LineSeen last t tick event

  told_if : (b : Bool) (r : ℕ) (c : LineRead) → (b ≡ false → Told c) → Told (cond b (Refused (suc r)) c)
  told_if true r c f = λ e. omega arith
  told_if false r c f = f refl

  told-on : (f : Option ℕ) (g : ℕ → LineRead) → ((v : ℕ) → f ≡ Some v → Told (g v)) → Told (on_field f g)
  told-on (Some v) g h = h v refl
  told-on None g h = λ e. omega arith

  told : Told (line_of last t)
  unfolding line_of
  told =
      told-on (field_at t 11) _ (λ tick is-tick.
      told-on (field_at (drop 11 t) 3) _ (λ event is-event.
      told_if (not (eqb (get_or t 14 0) 10)) 23 _ (λ end.
      told_if (ltb last_event event) 24 _ (λ known.
      told_if (ltb tick last) 25 (Line tick event) (λ after. let k = ltb-false last_event event known in
      record {
        is-tick = is-tick;
        is-event = is-event;
        end = eqb-true (get_or t 14 0) 10 (not-false (eqb (get_or t 14 0) 10) end);
        low = omega arith;
        after = ltb-false tick last after;
      })))))

  -- the text of a line that is read
  line-only : (tick event : ℕ) → length t ≡ 15 → LineSeen last t tick event → t ≡ line_text tick event
  unfolding line_text
  line-only tick event n S =
      let c : drop 14 t ≡ 10 ∷ [] = drop-cons t 14 0 (omega arith) ∙ ap₂ ◌∷◌ S.end (drop_of_length-le t {i = 15} (omega arith)) in
      peel 11 tick t S.is-tick
      ∙ ap (λ (x : List ℕ). spell 11 tick ++ x) (peel 3 event (drop 11 t) S.is-event
      ∙ ap (λ (x : List ℕ). spell 3 event ++ x) (drop-drop 3 11 t ∙ c))

-- Lines of which none is refused, n of them from number i + 1 on, after the tick last
pub record Lines (s : List ℕ) (i n last : ℕ) (t : Taken) : Type 0 where
  pub ticks : length t.ticks ≡ n
  pub events : length t.events ≡ n
  pub low : All (λ (e : ℕ). e < event_count) t.events
  pub ordered : Ordered last t.ticks t.last
  pub text : drop (28 + 15 * i) s ≡ lines_text t.ticks t.events

module _ (s : List ℕ) where
  abbrev Fine : (i n last : ℕ) → Taken → Type 0
  Fine i n last t = t.number ≡ 0 → Lines s i n last t

  line-next : (i : ℕ) → drop (28 + 15 * i) s ≡ line_bytes s i ++ drop (28 + 15 * suc i) s
  unfolding line_bytes
  line-next i =
      let n : 28 + 15 * i + 15 ≡ 28 + 15 * suc i = omega arith in
      sym (take-append-drop 15 (drop (28 + 15 * i) s)) ∙ ap (λ (x : List ℕ). take 15 (drop (28 + 15 * i) s) ++ x) (drop-drop 15 (28 + 15 * i) s ∙ ap (λ (j : ℕ). drop j s) n)

  fine-on : (i n last : ℕ) (c : LineRead) (f : ℕ → Taken) → length (line_bytes s i) ≡ 15 → Told last (line_bytes s i) c → ((tick : ℕ) → Fine (suc i) n tick (f tick))
      → Fine i (suc n) last (on_line c (λ r. stop r (suc i) last) (λ tick event. more tick event (f tick)))
  unfolding lines_text
  fine-on i n last (Refused r) f l h g = λ e. absurd (h e)
  fine-on i n last (Line tick event) f l h g = λ e. let G = g tick e in
      record {
        ticks = ap suc G.ticks;
        events = ap suc G.events;
        low = (h.low, G.low);
        ordered = (h.after, G.ordered);
        text = line-next i ∙ ap₂ (λ (x y : List ℕ). x ++ y) (line-only last (line_bytes s i) tick event l h) G.text;
      }

  fine : (left i last : ℕ) → length s ≡ 28 + 15 * (i + left) → Fine i left last (lines_from s i left last)
  unfolding lines_from lines_text
  fine zero i last l = λ e. record { ticks = refl; events = refl; low = tt; ordered = omega arith; text = drop_of_length-le s {i = 28 + 15 * i} (omega arith) }
  fine (suc left) i last l =
      fine-on i left last (line_of last (line_bytes s i)) (λ tick. lines_from s (suc i) left tick) (line-length s i (suc i) (omega arith) (omega arith)) (told last (line_bytes s i))
      (λ tick. fine left (suc i) tick (omega arith))

-- The close

record Closed (h : Head) (t : Taken) : Type 0 where
  number : t.number ≡ 0
  close : t.last ≤ h.close
  is : closing h t ≡ accepted h.n h.start h.close

module _ (h : Head) (t : Taken) where
  abbrev closing_by : (b c : Bool) → Answer
  closing_by b c = cond b (cond c (refused close_below 0) (accepted h.n h.start h.close)) (refused t.number t.line)

  closed : (closing h t).refusal ≡ 0 → Closed h t
  unfolding closing
  closed = go (eqb t.number 0) (ltb h.close t.last) refl refl
    where
      go : (b c : Bool) → eqb t.number 0 ≡ b → ltb h.close t.last ≡ c → (closing_by b c).refusal ≡ 0 → Closed h t
      go true true x y e = absurd (omega arith)
      go true false x y e = record { number = eqb-true t.number 0 x; close = ltb-false h.close t.last y; is = rw (x, y) }
      go false c x y e = absurd (eqb-false t.number 0 x e)

  unclosed : ((closing h t).refusal ≡ 0 → ⊥) → (closing h t).n ≡ 0
  unfolding closing
  unclosed = go (eqb t.number 0) (ltb h.close t.last)
    where
      go : (b c : Bool) → ((closing_by b c).refusal ≡ 0 → ⊥) → (closing_by b c).n ≡ 0
      go true true e = refl
      go true false e = absurd (e refl)
      go false c e = refl

-- The whole log

module _ (s : List ℕ) (e : (answer s).refusal ≡ 0) where
  all_closed : Closed (head_of s) (taken s)
  unfolding answer
  all_closed = closed (head_of s) (taken s) e

  pub answer_said : answer s ≡ accepted (head_of s).n (head_of s).start (head_of s).close
  unfolding answer
  answer_said = all_closed.is

  pub close-after : (taken s).last ≤ (head_of s).close
  close-after = all_closed.close

  first-passed : (head_of s).refusal ≡ 0
  unfolding taken
  first-passed = go (eqb (head_of s).refusal 0) refl all_closed.number
    where
      go : (b : Bool) → eqb (head_of s).refusal 0 ≡ b → (cond b (lines_from s 0 (head_of s).n (head_of s).start) (stop (head_of s).refusal 0 0)).number ≡ 0 → (head_of s).refusal ≡ 0
      go true x z = eqb-true (head_of s).refusal 0 x
      go false x z = z

  pub first-accepted : FirstSeen s (head_of s)
  first-accepted = first-seen s first-passed

  taken-lines : lines_from s 0 (head_of s).n (head_of s).start ≡ taken s
  unfolding taken
  taken-lines = simp (eq-eqb (head_of s).refusal 0 first-passed)

  -- THE THEOREM: n lines, with known events, their ticks in order, and no other text
  pub accepted-log : Lines s 0 (head_of s).n (head_of s).start (taken s)
  accepted-log = subst (Lines s 0 (head_of s).n (head_of s).start) taken-lines
      (fine s (head_of s).n 0 (head_of s).start (omega (arith, first-accepted.length)) (ap (λ (t : Taken). t.number) taken-lines ∙ all_closed.number))

  pub log-few : (answer s).n ≤ most_lines
  log-few = omega (arith, ap (λ (a : Answer). a.n) answer_said, first-accepted.few)

answer-none : (s : List ℕ) → ((answer s).refusal ≡ 0 → ⊥) → (answer s).n ≡ 0
unfolding answer
answer-none s = unclosed (head_of s) (taken s)

pub answer-few : (s : List ℕ) → (answer s).n ≤ most_lines
answer-few s = go (eqb (answer s).refusal 0) refl
  where
    go : (b : Bool) → eqb (answer s).refusal 0 ≡ b → (answer s).n ≤ most_lines
    go true x = log-few s (eqb-true (answer s).refusal 0 x)
    go false x = omega (arith, answer-none s (eqb-false (answer s).refusal 0 x))

-- What is stored, as a list
pub lay-is : (xs : List ℕ) (i : ℕ) (m : List ℕ) → i + length xs ≤ length m → lay i xs m ≡ take i m ++ (xs ++ drop (i + length xs) m)
unfolding lay
lay-is [] i m h = let e : i + length {A = ℕ} [] ≡ i = omega arith in rw e (sym (take-append-drop i m))
lay-is (x ∷ xs) i m h =
    let e : suc i + length xs ≡ i + length (x ∷ xs) = omega arith in
    lay-is xs (suc i) (set m i x) (omega (arith, length-set m i x))
    ∙ ap₂ (λ (a b : List ℕ). a ++ (xs ++ b)) (take-suc-set m i x (omega arith)) (drop-set-lt (suc i + length xs) m i x (omega arith) ∙ ap (λ (j : ℕ). drop j m) e)
    ∙ append_assoc (take i m) (x ∷ []) (xs ++ drop (i + length (x ∷ xs)) m)
