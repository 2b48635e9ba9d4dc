-- A numeral with any number of spaces before it is read at any width, whatever comes after the field.
-- Assumes nothing.
use mathlib.Core.Path.{◌≡◌, refl, sym, ap, ◌∙◌}
use mathlib.Core.List.{List, [], ◌∷◌, ◌++◌, append_assoc}
use mathlib.Core.Bool.{Bool, true, false}
use Prim.Native.Nat.{ℕ, zero, suc, ◌+◌, ◌≤◌}
use native.Mathlib.Omega.{arith}
use lib.ListN.{length, take, replicate, length-append, length-replicate}
use lib.Seq.{take_at}
use lib.Dec.{eqb}
use borrow.Author.Tests.{eqb-true, le-leb}
use Rattle.columns.specs.Number.{after_spaces, numeral, scan, field_at}
use Rattle.std.specs.Prelude.{Some, None}

abbrev pub spaces : ℕ → List ℕ
spaces m = replicate m 32

pub bad_not : (v : ℕ) → None ≡ Some v → ⊥
bad_not v h = let z : ◌≡◌ {A = ℕ} 0 1 = cc in omega arith

-- a numeral does not begin with a space
no_space : (d : List ℕ) → numeral (32 ∷ d) ≡ None
unfolding numeral scan
no_space [] = refl
no_space (b ∷ d) = refl

after-at : (t : Bool) (b v : ℕ) (d : List ℕ) → eqb b 32 ≡ t → numeral (b ∷ d) ≡ Some v → after_spaces (b ∷ d) ≡ b ∷ d
after-at false b v d e h = rw e
after-at true b v d e h =
    let s : b ≡ 32 = eqb-true b 32 e in
    absurd (bad_not v (sym (no_space d) ∙ (rw s at h)))

after_none : (d : List ℕ) (v : ℕ) → numeral d ≡ Some v → after_spaces d ≡ d
after_none [] v h = refl
after_none (b ∷ d) v h = after-at (eqb b 32) b v d refl h

after-all : (m : ℕ) (d : List ℕ) → after_spaces (spaces m ++ d) ≡ after_spaces d
after-all zero d = refl
after-all (suc m) d = after-all m d

pub padded : (m v : ℕ) (d rest : List ℕ) → numeral d ≡ Some v → field_at (spaces m ++ (d ++ rest)) (m + length d) ≡ Some v
unfolding field_at
padded m v d rest h =
    let n : length (spaces m) ≡ m = length-replicate m 32 in
    let w : length (spaces m ++ d) ≡ m + length d = length-append (spaces m) d ∙ ap (λ (j : ℕ). j + length d) n in
    let l : m + length d ≤ length (spaces m ++ (d ++ rest)) = omega (arith, length-append (spaces m) (d ++ rest), length-append d rest) in
    let t : take (m + length d) (spaces m ++ (d ++ rest)) ≡ spaces m ++ d = ap (take (m + length d)) (sym (append_assoc (spaces m) d rest)) ∙ take_at (spaces m ++ d) rest (m + length d) w in
    rw (le-leb (m + length d) (length (spaces m ++ (d ++ rest))) l, t, after-all m d, after_none d v h) h
