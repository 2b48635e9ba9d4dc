-- A field's value is at most 4,294,967,295 and below 10 to its width, at any width: w digits say no more.
-- Assumes nothing.
use mathlib.Core.Path.{◌≡◌, refl, subst}
use mathlib.Core.Bool.{Bool, true, false, ◌&&◌, cond}
use mathlib.Core.List.{List, [], ◌∷◌}
use Prim.Native.Nat.{ℕ, suc, ◌+◌, ◌*◌, ◌-◌, ◌^◌, ◌≤◌, ◌<◌}
use native.Mathlib.Nat.{pow-suc, pow-le-pow_right, le_trans}
use native.Mathlib.Omega.{arith}
use lib.ListN.{length, take}
use lib.Seq.{length-take-le}
use lib.Dec.{eqb, leb, lit<}
use borrow.Author.Tests.{leb-true}
use Rattle.columns.specs.Number.{after_spaces, is_digit, all_digits, decimal, well_led, field_at, numeral, scan, largest}
use Rattle.std.specs.Prelude.{Option, Some, None}
use Rattle.sheet.proofs.Points.{both_true}

decimal-below : (m : ℕ) (l : List ℕ) (v : ℕ) → all_digits l ≡ true → v < 10 ^ m → decimal v l < 10 ^ (m + length l)
decimal-below m [] v d h = let e : m + length {A = ℕ} [] ≡ m = omega arith in rw e h
decimal-below m (b ∷ l) v d h =
    let D = both_true (is_digit b) (all_digits l) d in
    let high = leb-true b 57 (both_true (leb 48 b) (leb b 57) D.0).1 in
    let e : m + length (b ∷ l) ≡ suc m + length l = omega arith in
    rw e (decimal-below (suc m) l (v * 10 + (b - 48)) D.1 (rw (pow-suc 10 m) (omega (arith, high))))

spaces_shorten : (l : List ℕ) → length (after_spaces l) ≤ length l
spaces_shorten [] = omega arith
spaces_shorten (b ∷ l) = go (eqb b 32) (spaces_shorten l)
  where
    go : (x : Bool) → length (after_spaces l) ≤ length l → length (cond x (after_spaces l) (b ∷ l)) ≤ suc (length l)
    go true h = omega arith
    go false h = omega arith

abbrev Most : ℕ → Option ℕ → Type 0
Most w (Some v) = (v ≤ largest) × (v < 10 ^ w)
Most w None = Unit {0}

most_if : (w : ℕ) (b : Bool) (f : Option ℕ) → (b ≡ true → Most w f) → Most w (cond b f None)
most_if w true f h = h refl
most_if w false f h = tt

most : (s : List ℕ) (w : ℕ) → Most w (field_at s w)
unfolding field_at numeral scan
most s w =
    let digits = after_spaces (take w s) in
    most_if w (leb w (length s)) _ (λ a.
    most_if w (well_led digits) _ (λ b.
    most_if w (all_digits digits && leb (decimal 0 digits) largest) _ (λ c.
    let C = both_true (all_digits digits) (leb (decimal 0 digits) largest) c in
    let size : 0 + length digits ≤ w = omega (arith, spaces_shorten (take w s), length-take-le w s (leb-true w (length s) a)) in (
      leb-true (decimal 0 digits) largest C.1,
      le_trans (decimal-below 0 digits 0 C.0 (lit< tt)) (pow-le-pow_right {n = 10} (lit< tt) {i = 0 + length digits} {j = w} size),
    ))))

pub field-most : (s : List ℕ) (w v : ℕ) → field_at s w ≡ Some v → (v ≤ largest) × (v < 10 ^ w)
field-most s w v e = subst (Most w) e (most s w)
