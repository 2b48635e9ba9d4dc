-- The row or line that a refusal is about stands in the text, so the part shown lies inside it.
-- Carried by one induction over the rows, one over the lines: a refusal there names one of those read.
-- Assumes nothing.
use mathlib.Core.Path.{◌≡◌, refl, sym, subst}
use mathlib.Core.Bool.{Bool, true, false, not, cond, ◌&&◌}
use mathlib.Core.List.{List}
use Prim.Native.Nat.{ℕ, zero, suc, ◌+◌, ◌-◌, ◌*◌, ◌≤◌, min}
use native.Mathlib.Nat.{mul-suc}
use native.Mathlib.Omega.{arith}
use lib.ListN.{length, take, drop, length-take}
use lib.Dec.{eqb, leb, ltb}
use borrow.Author.Tests.{eq-eqb, ne_eqb, eqb-true, eqb-false, le-leb, leb-true}
use Rattle.scenario.specs.Sheet.{count}
use Rattle.row.specs.declared.Line.{Line as Row}
use Rattle.rules.specs.declared.Stand.{Stand}
use Rattle.sheet.specs.Reading.{Answer as SheetAnswer}
use Rattle.std.specs.Prelude.{Option, Some, None}
use Rattle.rules.specs.Rules.{start, refusal}
use Rattle.row.specs.Row.{line_of}
use Rattle.sheet.specs.Reading as reading
use Rattle.sheet.proofs.Memory.{head_good as sheet-head-good}
use Rattle.runlog.specs.Log.{Head as LogHead}
use Rattle.runlog.specs.Log.{Answer as LogAnswer}
use Rattle.runlog.specs.Log.{LineRead}
use Rattle.runlog.specs.Log.LineRead.{Refused, Line}
use Rattle.runlog.specs.Log as log
use Rattle.runlog.proofs.Whole.{first-seen as first-line-seen}
use Rattle.line.specs.Showing.{Part}
use Rattle.line.specs.Showing.{part, line_part, sheet_part, log_part, part_of, shown_line, Inside, Stands}
use Rattle.sheet.proofs.Bound.{sheet-head-low}
use Rattle.runlog.proofs.Bound.{log-head-low}

-- The sheet's rows

-- a refusal of rows names one of those read
abbrev Names : (lo hi : ℕ) → reading.Taken → Type 0
Names lo hi t = (t.number ≡ 0 → ⊥) → (lo ≤ t.row) × (t.row ≤ hi)

names_rows : (k : ℕ) (s : List ℕ) (left i : ℕ) (at : Stand) → Names (suc i) (i + left) (reading.rows_from k s i left at)
unfolding reading.rows_from
names_rows k s zero i at = λ n. absurd (n refl)
names_rows k s (suc left) i at = go (line_of (reading.row_bytes s i)) (λ at. names_rows k s left (suc i) at)
  where
    pick : (b : Bool) (l : Row) (r : ℕ) (t : reading.Taken) → Names (suc (suc i)) (suc i + left) t → Names (suc i) (i + suc left) (cond b (reading.more l t) (reading.stop r (suc i)))
    pick true l r t f n = let h = f n in (omega (arith, h.0), omega (arith, h.1))
    pick false l r t f n = (omega arith, omega arith)

    go : (p : Option Row) → ((at : Stand) → Names (suc (suc i)) (suc i + left) (reading.rows_from k s (suc i) left at))
        → Names (suc i) (i + suc left) (reading.on_line p (reading.stop 4 (suc i)) (λ l. cond (eqb (refusal k at l) 0) (reading.more l (reading.rows_from k s (suc i) left (reading.after at l))) (reading.stop (refusal k at l) (suc i))))
    go (Some l) f = pick (eqb (refusal k at l) 0) l (refusal k at l) (reading.rows_from k s (suc i) left (reading.after at l)) (f (reading.after at l))
    go None f = λ n. (omega arith, omega arith)

-- 4 to 10 come from the rows
pub record FromRow (t : reading.Taken) (a : SheetAnswer) : Type 0 where
  pub refused : t.number ≡ 0 → ⊥
  pub number : a.refusal ≡ t.number
  pub row : a.row ≡ t.row

from_row : (k : ℕ) (t : reading.Taken) → 4 ≤ (reading.closing k t).refusal → (reading.closing k t).refusal ≤ 10 → FromRow t (reading.closing k t)
unfolding reading.closing
from_row k t = go (eqb t.number 0) refl
  where
    go : (b : Bool) → eqb t.number 0 ≡ b
        → let a = cond b (reading.accepted k (length t.lines) (count (reading.sheet_of k t.lines))) (reading.refused t.number t.row) in
        4 ≤ a.refusal → a.refusal ≤ 10 → FromRow t a
    go true e lo hi = absurd (omega arith)
    go false e lo hi = record { refused = eqb-false t.number 0 e; number = refl; row = refl }

pub row_stands : (s : List ℕ) → 4 ≤ (reading.answer s).refusal → (reading.answer s).refusal ≤ 10 → Stands (length s) 7 35 (reading.answer s).row
unfolding reading.answer reading.taken
row_stands s lo hi = go (eqb (reading.head_of s).refusal 0) refl (from_row (reading.head_of s).k (reading.taken s) lo hi)
  where
    go : (b : Bool) → eqb (reading.head_of s).refusal 0 ≡ b
        → FromRow (cond b (reading.rows_from (reading.head_of s).k s 0 (reading.head_of s).rows start) (reading.stop (reading.head_of s).refusal 0)) (reading.answer s) → Stands (length s) 7 35 (reading.answer s).row
    go true e f =
        let g = sheet-head-good s (eqb-true (reading.head_of s).refusal 0 e) in
        let h = names_rows (reading.head_of s).k s (reading.head_of s).rows 0 start f.refused in
        record { low = omega (arith, f.row, h.0); high = omega (arith, f.row, h.1, g.length); few = omega (arith, f.row, h.1, g.rows) }
    go false e f = absurd (omega (arith, f.number, lo, sheet-head-low s))

abbrev LogNames : (lo hi : ℕ) → log.Taken → Type 0
LogNames lo hi t = (t.number ≡ 0 → ⊥) → (lo ≤ t.line) × (t.line ≤ hi)

names_lines : (l : List ℕ) (left i last : ℕ) → LogNames (suc i) (i + left) (log.lines_from l i left last)
unfolding log.lines_from
names_lines l zero i last = λ n. absurd (n refl)
names_lines l (suc left) i last = go (log.line_of last (log.line_bytes l i)) (λ tick. names_lines l left (suc i) tick)
  where
    go : (c : LineRead) → ((tick : ℕ) → LogNames (suc (suc i)) (suc i + left) (log.lines_from l (suc i) left tick))
        → LogNames (suc i) (i + suc left) (log.on_line c (λ r. log.stop r (suc i) last) (λ tick event. log.more tick event (log.lines_from l (suc i) left tick)))
    go (Refused r) f n = (omega arith, omega arith)
    go (Line tick event) f n = let h = f tick n in (omega (arith, h.0), omega (arith, h.1))

pub record FromLine (t : log.Taken) (a : LogAnswer) : Type 0 where
  pub refused : t.number ≡ 0 → ⊥
  pub number : a.refusal ≡ t.number
  pub line : a.line ≡ t.line

from-line : (h : LogHead) (t : log.Taken) → 24 ≤ (log.closing h t).refusal → (log.closing h t).refusal ≤ 26 → FromLine t (log.closing h t)
unfolding log.closing
from-line h t = go (eqb t.number 0) (ltb h.close t.last) refl
  where
    go : (b c : Bool) → eqb t.number 0 ≡ b
        → let a = cond b (cond c (log.refused 27 0) (log.accepted h.n h.start h.close)) (log.refused t.number t.line) in
        24 ≤ a.refusal → a.refusal ≤ 26 → FromLine t a
    go true true e lo hi = absurd (omega arith)
    go true false e lo hi = absurd (omega arith)
    go false c e lo hi = record { refused = eqb-false t.number 0 e; number = refl; line = refl }

pub line_stands : (l : List ℕ) → 24 ≤ (log.answer l).refusal → (log.answer l).refusal ≤ 26 → Stands (length l) 28 15 (log.answer l).line
unfolding log.answer log.taken
line_stands l lo hi = go (eqb (log.head_of l).refusal 0) refl (from-line (log.head_of l) (log.taken l) lo hi)
  where
    go : (b : Bool) → eqb (log.head_of l).refusal 0 ≡ b
        → FromLine (cond b (log.lines_from l 0 (log.head_of l).n (log.head_of l).start) (log.stop (log.head_of l).refusal 0 0)) (log.answer l) → Stands (length l) 28 15 (log.answer l).line
    go true e f =
        let g = first-line-seen l (eqb-true (log.head_of l).refusal 0 e) in
        let h = names_lines l (log.head_of l).n 0 (log.head_of l).start f.refused in
        record { low = omega (arith, f.line, h.0); high = omega (arith, f.line, h.1, g.length); few = omega (arith, f.line, h.1, g.few) }
    go false e f = absurd (omega (arith, f.number, lo, log-head-low l))

-- A part, by how the refusal lies to the rows' numbers

module _ (log : Bool) (first wide low high : ℕ) (t : List ℕ) (refusal line : ℕ) where
  pub part_front : (low ≤ refusal → refusal ≤ high → ⊥) → part refusal log 0 (min first (length t)) ≡ line_part log first wide low high t refusal line
  unfolding line_part
  part_front h = go (leb low refusal) (leb refusal high) refl refl
    where
      go : (b c : Bool) → leb low refusal ≡ b → leb refusal high ≡ c
          → part refusal log 0 (min first (length t)) ≡ cond (b && c) (part refusal log (first + wide * (line - 1)) (first + wide * (line - 1) + wide)) (part refusal log 0 (min first (length t)))
      go true true x y = absurd (h (leb-true low refusal x) (leb-true refusal high y))
      go true false x y = refl
      go false c x y = refl

  pub part-line : low ≤ refusal → refusal ≤ high → part refusal log (first + wide * (line - 1)) (first + wide * (line - 1) + wide) ≡ line_part log first wide low high t refusal line
  unfolding line_part
  part-line a b = simp (le-leb low refusal a, le-leb refusal high b)

-- a line that stands in the text ends there
pub line-ends : (size first wide line : ℕ) → Stands size first wide line → first + wide * (line - 1) + wide ≤ size
line-ends size first wide zero S = let low = S.low in absurd (omega arith)
line-ends size first wide (suc k) S = let e : suc k - 1 ≡ k = omega arith in rw e (omega (arith, S.high, mul-suc wide k))

-- The part of a sheet and a log, by how reading them ends; a and b are what the readers answer

pub row_stands_of : (s : List ℕ) (a : SheetAnswer) → a ≡ reading.answer s → 4 ≤ a.refusal → a.refusal ≤ 10 → Stands (length s) 7 35 a.row
row_stands_of s a e = subst (λ (z : SheetAnswer). 4 ≤ z.refusal → z.refusal ≤ 10 → Stands (length s) 7 35 z.row) (sym e) (row_stands s)

pub line_stands_of : (l : List ℕ) (b : LogAnswer) → b ≡ log.answer l → 24 ≤ b.refusal → b.refusal ≤ 26 → Stands (length l) 28 15 b.line
line_stands_of l b e = subst (λ (z : LogAnswer). 24 ≤ z.refusal → z.refusal ≤ 26 → Stands (length l) 28 15 z.line) (sym e) (line_stands l)

module _ (s l : List ℕ) (a : SheetAnswer) (ea : a ≡ reading.answer s) where
  pub part-sheet : (a.refusal ≡ 0 → ⊥) → sheet_part s a.refusal a.row ≡ part_of s l
  unfolding part_of
  part-sheet n = rw (sym ea) (simp (ne_eqb a.refusal 0 n))

  module _ (z : a.refusal ≡ 0) (b : LogAnswer) (eb : b ≡ log.answer l) where
    pub part_log : (b.refusal ≡ 0 → ⊥) → log_part l b.refusal b.line ≡ part_of s l
    unfolding part_of
    part_log n = rw (sym ea, sym eb) (simp (eq-eqb a.refusal 0 z, ne_eqb b.refusal 0 n))

    pub part_none : b.refusal ≡ 0 → part 0 false 0 0 ≡ part_of s l
    unfolding part_of
    part_none w = rw (sym ea, sym eb) (simp (eq-eqb a.refusal 0 z, eq-eqb b.refusal 0 w))

-- The part lies inside its text.

module _ (s l : List ℕ) where
  line-inside : (log : Bool) (first wide low high refusal line : ℕ) → (low ≤ refusal → refusal ≤ high → Stands (length (cond log l s)) first wide line)
      → Inside s l (line_part log first wide low high (cond log l s) refusal line)
  unfolding line_part
  line-inside log first wide low high refusal line h = go (leb low refusal) (leb refusal high) refl refl
    where
      go : (b c : Bool) → leb low refusal ≡ b → leb refusal high ≡ c
          → Inside s l (cond (b && c) (part refusal log (first + wide * (line - 1)) (first + wide * (line - 1) + wide)) (part refusal log 0 (min first (length (cond log l s)))))
      go true true x y = record { order = omega arith; end = line-ends (length (cond log l s)) first wide line (h (leb-true low refusal x) (leb-true refusal high y)) }
      go true false x y = record { order = omega arith; end = omega arith }
      go false c x y = record { order = omega arith; end = omega arith }

  pub part-inside : Inside s l (part_of s l)
  unfolding part_of
  part-inside = go (eqb (reading.answer s).refusal 0) (eqb (log.answer l).refusal 0)
    where
      go : (b c : Bool) → Inside s l (cond (not b) (sheet_part s (reading.answer s).refusal (reading.answer s).row) (cond (not c) (log_part l (log.answer l).refusal (log.answer l).line) (part 0 false 0 0)))
      go false c = line-inside false 7 35 4 10 (reading.answer s).refusal (reading.answer s).row (row_stands s)
      go true false = line-inside true 28 15 24 26 (log.answer l).refusal (log.answer l).line (line_stands l)
      go true true = record { order = omega arith; end = omega arith }

  -- so does any that is the definition's
  pub inside_is : (x : Part) → x ≡ part_of s l → Inside s l x
  inside_is x e = subst (Inside s l) (sym e) part-inside

  pub shown_log : (x : Part) → x ≡ part_of s l → x.log ≡ true → take (x.to - x.from) (drop x.from l) ≡ shown_line s l
  unfolding shown_line
  shown_log x e t = rw (sym e, t)

  pub shown_sheet : (x : Part) → x ≡ part_of s l → x.log ≡ false → take (x.to - x.from) (drop x.from s) ≡ shown_line s l
  unfolding shown_line
  shown_sheet x e t = rw (sym e, t)

  -- no row or line has more than 35 bytes, and no first line more than 28
  part-few : (x : Part) → x ≡ part_of s l → x.to ≤ x.from + 35
  unfolding part_of line_part
  part-few x e = subst (λ (y : Part). y.to ≤ y.from + 35) (sym e) (few (eqb (reading.answer s).refusal 0) (eqb (log.answer l).refusal 0))
    where
      pick : (b : Bool) (y z : Part) → y.to ≤ y.from + 35 → z.to ≤ z.from + 35 → (cond b y z).to ≤ (cond b y z).from + 35
      pick true y z f g = f
      pick false y z f g = g

      few : (b c : Bool)
          → let y = cond (not b) (sheet_part s (reading.answer s).refusal (reading.answer s).row) (cond (not c) (log_part l (log.answer l).refusal (log.answer l).line) (part 0 false 0 0)) in
          y.to ≤ y.from + 35
      few false c = pick (leb 4 (reading.answer s).refusal && leb (reading.answer s).refusal 10) _ _ (omega arith) (omega arith)
      few true false = pick (leb 24 (log.answer l).refusal && leb (log.answer l).refusal 26) _ _ (omega arith) (omega arith)
      few true true = omega arith

  pub shown_few : length (shown_line s l) ≤ 35
  unfolding shown_line
  shown_few = simp length-take (omega (arith, part-few (part_of s l) refl))
