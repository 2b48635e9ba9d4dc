-- Sets as numbers: the union of two, and the set of one.
-- Assumes nothing.
use mathlib.Core.Path.{◌≡◌, refl, sym, ap, ◌∙◌}
use mathlib.Core.Bool.{Bool, ◌||◌}
use Prim.Native.Nat.{ℕ, zero, suc, ◌/◌, ◌%◌, ◌^◌, max, ◌<◌}
use native.Mathlib.Omega.{arith}
use native.Mathlib.Nat.{pow-succ'}
use lib.Bits.{bit_or, or_step}
use lib.Dec.{eqb, eqb-suc-suc}
use borrow.Author.Tests.{ne_eqb}
use Rattle.scenario.specs.Log.{in_set}
use Rattle.scenario.proofs.Logs.{in_set-zero, in_set-suc, in_set-none}

-- of two digits, one is 1 where the higher is
digit_or : (a b : ℕ) → a < 2 → b < 2 → eqb (max a b) 1 ≡ (eqb a 1 || eqb b 1)
digit_or zero zero h k = refl
digit_or zero (suc zero) h k = refl
digit_or zero (suc (suc b)) h k = absurd (omega arith)
digit_or (suc zero) zero h k = refl
digit_or (suc zero) (suc zero) h k = refl
digit_or (suc zero) (suc (suc b)) h k = absurd (omega arith)
digit_or (suc (suc a)) b h k = absurd (omega arith)

module _ (a b : ℕ) where
  or_low : bit_or a b % 2 ≡ max (a % 2) (b % 2)
  or_low = omega (arith, or_step a b)

  or_half : bit_or a b / 2 ≡ bit_or (a / 2) (b / 2)
  or_half = omega (arith, or_step a b)

pub in_set_or : (e a b : ℕ) → in_set (bit_or a b) e ≡ (in_set a e || in_set b e)
in_set_or zero a b =
    in_set-zero (bit_or a b) ∙ ap (λ (k : ℕ). eqb k 1) (or_low a b) ∙ digit_or (a % 2) (b % 2) (omega arith) (omega arith)
    ∙ sym (ap (λ (x : Bool). x || in_set b 0) (in_set-zero a) ∙ ap (λ (x : Bool). eqb (a % 2) 1 || x) (in_set-zero b))
in_set_or (suc e) a b =
    in_set-suc (bit_or a b) e ∙ ap (λ (k : ℕ). in_set k e) (or_half a b) ∙ in_set_or e (a / 2) (b / 2)
    ∙ sym (ap (λ (x : Bool). x || in_set b (suc e)) (in_set-suc a e) ∙ ap (λ (x : Bool). in_set (a / 2) e || x) (in_set-suc b e))

pub in_set-one : (x y : ℕ) → in_set (2 ^ x) y ≡ eqb x y
in_set-one zero zero = in_set-zero 1
in_set-one zero (suc y) = in_set-suc 1 y ∙ in_set-none y ∙ sym (ne_eqb 0 (suc y) (λ e. omega arith))
in_set-one (suc x) zero = in_set-zero (2 ^ suc x) ∙ ap (λ (k : ℕ). eqb k 1) (even x) ∙ sym (ne_eqb (suc x) 0 (λ e. omega arith))
  where
    even : (x : ℕ) → 2 ^ suc x % 2 ≡ 0
    even x = omega (arith, pow-succ' 2 x)
in_set-one (suc x) (suc y) = in_set-suc (2 ^ suc x) y ∙ ap (λ (k : ℕ). in_set k y) (half x) ∙ in_set-one x y ∙ sym (eqb-suc-suc x y)
  where
    half : (x : ℕ) → 2 ^ suc x / 2 ≡ 2 ^ x
    half x = omega (arith, pow-succ' 2 x)
