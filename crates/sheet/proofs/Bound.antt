-- How large a sheet's refusals are: 1 to 3, a row's 4 to 10, and never 11.
-- Assumes nothing.
use mathlib.Core.Path.{◌≡◌}
use mathlib.Core.Bool.{Bool, true, false, not, cond}
use mathlib.Core.List.{List}
use Prim.Native.Nat.{ℕ, zero, suc, ◌+◌, ◌*◌, ◌≤◌}
use native.Mathlib.Omega.{arith}
use lib.ListN.{length, get_or, drop}
use lib.Dec.{eqb, ltb}
use Rattle.columns.specs.Number.{field_at}
use Rattle.std.specs.Prelude.{Option, Some, None}
use Rattle.scenario.specs.Sheet.{count}
use Rattle.row.specs.declared.Line.{Line as SheetLine}
use Rattle.rules.specs.declared.Stand.{Stand}
use Rattle.rules.specs.Rules.{start, enter, section_fits, kind_fits, p_fits, q_fits, rest_fits, room_fits, unless, refusal_within, refusal}
use Rattle.row.specs.Row.{line_of}
use Rattle.sheet.specs.Reading as reading
use Rattle.sheet.specs.Reading.{Head as SheetHead}

-- A first line is refused with 1 to 3

abbrev Low : SheetHead → Type 0
Low h = h.refusal ≤ 3

low_if : (b : Bool) (x y : SheetHead) → Low x → Low y → Low (cond b x y)
low_if true x y f g = f
low_if false x y f g = g

low-on : (f : Option ℕ) (g : ℕ → SheetHead) → ((v : ℕ) → Low (g v)) → Low (reading.on_head f g)
low-on (Some v) g h = h v
low-on None g h = omega arith

pub sheet-head-low : (s : List ℕ) → (reading.head_of s).refusal ≤ 3
unfolding reading.head_of
sheet-head-low s =
    low_if (ltb (length s) 7) _ _ (omega arith)
    (low-on (field_at s 3) _ (λ k.
    low-on (field_at (drop 3 s) 3) _ (λ rows.
    low_if (not (eqb (get_or s 6 0) 10)) _ _ (omega arith)
    (low_if (ltb 6 k) _ _ (omega arith)
    (low_if (ltb 176 rows) _ _ (omega arith)
    (low_if (not (eqb (length s) (7 + 35 * rows))) (reading.headed 3 0 0) (reading.headed 0 k rows) (omega arith) (omega arith)))))))

-- A row with 4 to 10

unless-low : (b : Bool) (r next : ℕ) → r ≤ 10 → next ≤ 10 → unless b r next ≤ 10
unless-low true r next h k = k
unless-low false r next h k = h

row_low : (k : ℕ) (at : Stand) (l : SheetLine) → refusal k at l ≤ 10
unfolding refusal refusal_within
row_low k at l =
    let here = enter at l.section in
    unless-low (section_fits k at.section l.section) 5 _ (omega arith)
    (unless-low (kind_fits l.section l.kind) 6 _ (omega arith)
    (unless-low (p_fits l.kind l.section here.antecedent here.own l.p) 7 _ (omega arith)
    (unless-low (q_fits l.kind l.section here.antecedent here.own l.p l.q l.a) 8 _ (omega arith)
    (unless-low (rest_fits l.kind l.q l.a l.b) 9 _ (omega arith)
    (unless-low (room_fits l.section here.rows) 10 0 (omega arith) (omega arith))))))

taken-low : (b : Bool) (x y : reading.Taken) → x.number ≤ 10 → y.number ≤ 10 → (cond b x y).number ≤ 10
taken-low true x y h k = h
taken-low false x y h k = k

rows-low : (k : ℕ) (s : List ℕ) (left i : ℕ) (at : Stand) → (reading.rows_from k s i left at).number ≤ 10
unfolding reading.rows_from
rows-low k s zero i at = omega arith
rows-low k s (suc left) i at = go (line_of (reading.row_bytes s i)) (λ at. rows-low k s left (suc i) at)
  where
    go : (p : Option SheetLine) → ((at : Stand) → (reading.rows_from k s (suc i) left at).number ≤ 10)
        → (reading.on_line p (reading.stop 4 (suc i)) (λ l. cond (eqb (refusal k at l) 0) (reading.more l (reading.rows_from k s (suc i) left (reading.after at l))) (reading.stop (refusal k at l) (suc i)))).number ≤ 10
    go (Some l) f =
        taken-low (eqb (refusal k at l) 0) (reading.more l (reading.rows_from k s (suc i) left (reading.after at l))) (reading.stop (refusal k at l) (suc i)) (f (reading.after at l)) (row_low k at l)
    go None f = omega arith

sheet-closing-low : (k : ℕ) (t : reading.Taken) → t.number ≤ 10 → (reading.closing k t).refusal ≤ 10
unfolding reading.closing
sheet-closing-low k t h = go (eqb t.number 0)
  where
    go : (b : Bool) → (cond b (reading.accepted k (length t.lines) (count (reading.sheet_of k t.lines))) (reading.refused t.number t.row)).refusal ≤ 10
    go true = omega arith
    go false = omega arith

pub sheet-refusal-low : (s : List ℕ) → (reading.answer s).refusal ≤ 10
unfolding reading.answer reading.taken
sheet-refusal-low s =
    sheet-closing-low (reading.head_of s).k (reading.taken s)
    (taken-low (eqb (reading.head_of s).refusal 0) (reading.rows_from (reading.head_of s).k s 0 (reading.head_of s).rows start) (reading.stop (reading.head_of s).refusal 0)
    (rows-low (reading.head_of s).k s (reading.head_of s).rows 0 start) (omega (arith, sheet-head-low s)))

-- document 02, A4: "Refusal 11 is never given."
pub never_eleven : (s : List ℕ) → (reading.answer s).refusal ≡ 11 → ⊥
never_eleven s e = omega (arith, e, sheet-refusal-low s)
