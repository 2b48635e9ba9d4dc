-- Text written piece by piece.
-- Assumes nothing.
use mathlib.Core.Path.{◌≡◌, refl, sym, ap, ap₂, ◌∙◌}
use mathlib.Core.List.{List, [], ◌∷◌, ◌++◌, append_assoc}
use Prim.Native.Nat.{ℕ, zero, suc, ◌+◌, ◌≤◌, ◌<◌}
use native.Mathlib.Omega.{arith}
use lib.ListN.{length, take, drop, set, length-append, length-drop}
use lib.Seq.{take-append_seam, drop-append_seam, drop-drop, length-take-le}
use Rattle.columns.specs.Spell.{spell}
use Rattle.columns.proofs.Spelling.{spell-length}
use Rattle.columns.specs.Ink.{inked}

-- one text after another
pub inked-more : (at : ℕ) (xs ys m : List ℕ) → at ≤ length m → inked (at + length xs) ys (inked at xs m) ≡ inked at (xs ++ ys) m
unfolding inked
inked-more at xs ys m h =
    let A = take at m in
    let D = drop (at + length xs) m in
    let a : length A ≡ at = length-take-le at m h in
    let ax : length (A ++ xs) ≡ at + length xs = length-append A xs ∙ ap (λ (n : ℕ). n + length xs) a in
    let whole : A ++ (xs ++ D) ≡ (A ++ xs) ++ D = sym (append_assoc A xs D) in
    let front : take (at + length xs) (A ++ (xs ++ D)) ≡ A ++ xs = ap₂ (λ (n : ℕ) (l : List ℕ). take n l) (sym ax) whole ∙ take-append_seam (A ++ xs) D in
    let mid : drop (at + length xs) (A ++ (xs ++ D)) ≡ D = ap₂ (λ (n : ℕ) (l : List ℕ). drop n l) (sym ax) whole ∙ drop-append_seam (A ++ xs) D in
    let n : at + length xs + length ys ≡ at + length (xs ++ ys) = omega (arith, length-append xs ys) in
    let back : drop (at + length xs + length ys) (A ++ (xs ++ D)) ≡ drop (at + length (xs ++ ys)) m =
    sym (drop-drop (length ys) (at + length xs) (A ++ (xs ++ D))) ∙ ap (drop (length ys)) mid ∙ drop-drop (length ys) (at + length xs) m ∙ ap (λ (j : ℕ). drop j m) n in
    ap₂ (λ (u v : List ℕ). u ++ (ys ++ v)) front back ∙ append_assoc A xs (ys ++ drop (at + length (xs ++ ys)) m)
    ∙ ap (λ (u : List ℕ). A ++ u) (sym (append_assoc xs ys (drop (at + length (xs ++ ys)) m)))

pub inked-length : (at : ℕ) (xs m : List ℕ) → at + length xs ≤ length m → length (inked at xs m) ≡ length m
unfolding inked
inked-length at xs m h =
    omega (arith, length-append (take at m) (xs ++ drop (at + length xs) m), length-append xs (drop (at + length xs) m), length-take-le at m (omega arith), length-drop (at + length xs) m)

-- a piece of w bytes, and the rest after it
pub after : (at w at' : ℕ) (xs ys b b' c : List ℕ) → length xs ≡ w → at + w ≡ at' → at ≤ length b → b' ≡ inked at xs b → c ≡ inked at' ys b' → c ≡ inked at (xs ++ ys) b
after at w at' xs ys b b' c l e h p q =
    q ∙ ap₂ (λ (n : ℕ) (z : List ℕ). inked n ys z) (sym (ap (λ (n : ℕ). at + n) l ∙ e)) p ∙ inked-more at xs ys b h

pub number-inked : (at w v : ℕ) (m : List ℕ) → take at m ++ (spell w v ++ drop (at + w) m) ≡ inked at (spell w v) m
unfolding inked
number-inked at w v m = ap (λ (n : ℕ). take at m ++ (spell w v ++ drop (at + n) m)) (sym (spell-length w v))

pub byte-inked : (m : List ℕ) (at c : ℕ) → at < length m → set m at c ≡ inked at (c ∷ []) m
unfolding inked
byte-inked [] at c h = absurd (omega arith)
byte-inked (x ∷ m) zero c h = let e : 0 + 1 ≡ 1 = omega arith in refl
byte-inked (x ∷ m) (suc at) c h =
    let e : suc at + 1 ≡ suc (at + 1) = omega arith in rw e (ap (λ (l : List ℕ). x ∷ l) (byte-inked m at c (omega arith)))
