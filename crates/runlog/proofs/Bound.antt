-- How large a log's refusals are: up to 27.
-- Assumes nothing.
use mathlib.Core.Bool.{Bool, true, false, not, cond}
use mathlib.Core.List.{List}
use Prim.Native.Nat.{ℕ, zero, suc, ◌+◌, ◌*◌, ◌≤◌}
use native.Mathlib.Omega.{arith}
use lib.ListN.{length, get_or, drop}
use lib.Dec.{eqb, ltb}
use Rattle.runlog.specs.Numbers.{last_event}
use Rattle.columns.specs.Number.{field_at}
use Rattle.std.specs.Prelude.{Option, Some, None}
use Rattle.runlog.specs.Log.{Head as LogHead}
use Rattle.runlog.specs.Log.{LineRead}
use Rattle.runlog.specs.Log.LineRead.{Refused, Line}
use Rattle.runlog.specs.Log as log

-- A first line is refused with 21 to 23

log_low_if : (b : Bool) (x y : LogHead) → x.refusal ≤ 23 → y.refusal ≤ 23 → (cond b x y).refusal ≤ 23
log_low_if true x y f g = f
log_low_if false x y f g = g

log-low-on : (f : Option ℕ) (g : ℕ → LogHead) → ((v : ℕ) → (g v).refusal ≤ 23) → (log.on_head f g).refusal ≤ 23
log-low-on (Some v) g h = h v
log-low-on None g h = omega arith

pub log-head-low : (l : List ℕ) → (log.head_of l).refusal ≤ 23
unfolding log.head_of
log-head-low l =
    log_low_if (ltb (length l) 28) _ _ (omega arith)
    (log-low-on (field_at l 5) _ (λ n.
    log-low-on (field_at (drop 5 l) 11) _ (λ first.
    log-low-on (field_at (drop 16 l) 11) _ (λ close.
    log_low_if (not (eqb (get_or l 27 0) 10)) _ _ (omega arith)
    (log_low_if (ltb 4000 n) _ _ (omega arith)
    (log_low_if (not (eqb (length l) (28 + 15 * n))) (log.headed 23 0 0 0) (log.headed 0 n first close) (omega arith) (omega arith)))))))

-- A line with 24 to 26, and the close with 27

abbrev Low : LineRead → Type 0
Low (Refused r) = r ≤ 26
Low (Line tick event) = Unit {0}

low_if : (b : Bool) (x y : LineRead) → Low x → Low y → Low (cond b x y)
low_if true x y f g = f
low_if false x y f g = g

low-on : (f : Option ℕ) (g : ℕ → LineRead) → ((v : ℕ) → Low (g v)) → Low (log.on_field f g)
low-on (Some v) g h = h v
low-on None g h = omega arith

line_low : (last : ℕ) (t : List ℕ) → Low (log.line_of last t)
unfolding log.line_of
line_low last t =
    low-on (field_at t 11) _ (λ tick.
    low-on (field_at (drop 11 t) 3) _ (λ event.
    low_if (not (eqb (get_or t 14 0) 10)) _ _ (omega arith)
    (low_if (ltb last_event event) _ _ (omega arith)
    (low_if (ltb tick last) (Refused 26) (Line tick event) (omega arith) tt))))

lines-low : (l : List ℕ) (left i last : ℕ) → (log.lines_from l i left last).number ≤ 26
unfolding log.lines_from
lines-low l zero i last = omega arith
lines-low l (suc left) i last = go (log.line_of last (log.line_bytes l i)) (line_low last (log.line_bytes l i)) (λ tick. lines-low l left (suc i) tick)
  where
    go : (c : LineRead) → Low c → ((tick : ℕ) → (log.lines_from l (suc i) left tick).number ≤ 26)
        → (log.on_line c (λ r. log.stop r (suc i) last) (λ tick event. log.more tick event (log.lines_from l (suc i) left tick))).number ≤ 26
    go (Refused r) h f = h
    go (Line tick event) h f = f tick

log-closing-low : (h : LogHead) (t : log.Taken) → t.number ≤ 26 → (log.closing h t).refusal ≤ 27
unfolding log.closing
log-closing-low h t n = go (eqb t.number 0) (ltb h.close t.last)
  where
    go : (b c : Bool) → (cond b (cond c (log.refused 27 0) (log.accepted h.n h.start h.close)) (log.refused t.number t.line)).refusal ≤ 27
    go true true = omega arith
    go true false = omega arith
    go false c = omega arith

pub log-refusal-low : (l : List ℕ) → (log.answer l).refusal ≤ 27
unfolding log.answer log.taken
log-refusal-low l = log-closing-low (log.head_of l) (log.taken l) (go (eqb (log.head_of l).refusal 0))
  where
    go : (b : Bool) → (cond b (log.lines_from l 0 (log.head_of l).n (log.head_of l).start) (log.stop (log.head_of l).refusal 0 0)).number ≤ 26
    go true = lines-low l (log.head_of l).n 0 (log.head_of l).start
    go false = omega (arith, log-head-low l)
