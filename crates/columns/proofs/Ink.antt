-- A field that is written from its last column to its first.
-- Assumes nothing.
use mathlib.Core.Path.{◌≡◌, sym, ap, ap₂, ◌∙◌}
use mathlib.Core.List.{List, [], ◌∷◌, ◌++◌, append_assoc}
use Prim.Native.Nat.{ℕ, zero, suc, ◌+◌, ◌-◌, ◌/◌, ◌≤◌, ◌<◌}
use native.Mathlib.Omega.{arith}
use lib.ListN.{length, take, drop, set, take-append-drop}
use lib.Seq.{take-set-le, drop-set-add, drop-cons}
use Rattle.columns.specs.Spell.{last_byte, left_byte, left, spell}

-- the memory with the columns from index at on
abbrev pub field : ℕ → List ℕ → (w : ℕ) → List ℕ → List ℕ
field at l w m = take at m ++ (l ++ drop (at + w) m)

drop-set : (n : ℕ) (m : List ℕ) (c : ℕ) → n < length m → drop n (set m n c) ≡ c ∷ drop (suc n) m
drop-set n m c h =
    let e : n + 0 ≡ n = omega arith in
    ap (λ (j : ℕ). drop n (set m j c)) (sym e) ∙ drop-set-add n m 0 c ∙ ap (λ (l : List ℕ). set l 0 c) (drop-cons m n 0 h)

-- a byte more at the left of what is written
ink : (at w c : ℕ) (l m : List ℕ) → at + w < length m → field at l w (set m (at + w) c) ≡ field at (l ++ (c ∷ [])) (suc w) m
ink at w c l m h =
    let e : suc (at + w) ≡ at + suc w = omega arith in
    ap₂ (λ (x y : List ℕ). x ++ (l ++ y)) (take-set-le at m (at + w) c (omega arith)) (drop-set (at + w) m c h ∙ ap (λ (j : ℕ). c ∷ drop j m) e)
    ∙ ap (λ (y : List ℕ). take at m ++ y) (sym (append_assoc l (c ∷ []) (drop (at + suc w) m)))

pub ink_last : (at w v : ℕ) (m : List ℕ) → 1 ≤ w → at + w ≤ length m → field at (left (w - 1) (v / 10)) (w - 1) (set m (at + (w - 1)) (last_byte v)) ≡ field at (spell w v) w m
unfolding spell
ink_last at zero v m h k = absurd (omega arith)
ink_last at (suc w) v m h k = let e : suc w - 1 ≡ w = omega arith in rw e (ink at w (last_byte v) (left w (v / 10)) m (omega arith))

pub ink_left : (at i v : ℕ) (m : List ℕ) → 1 ≤ i → at + i ≤ length m → field at (left (i - 1) (v / 10)) (i - 1) (set m (at + (i - 1)) (left_byte v)) ≡ field at (left i v) i m
unfolding left
ink_left at zero v m h k = absurd (omega arith)
ink_left at (suc i) v m h k = let e : suc i - 1 ≡ i = omega arith in rw e (ink at i (left_byte v) (left i (v / 10)) m (omega arith))

pub ink_end : (at i v : ℕ) (m : List ℕ) → i ≤ 0 → m ≡ field at (left i v) i m
unfolding left
ink_end at zero v m h = let e : at + 0 ≡ at = omega arith in rw e (sym (take-append-drop at m))
ink_end at (suc i) v m h = absurd (omega arith)
