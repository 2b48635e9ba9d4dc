-- What one byte more says of the definitions of specs/Number.antt, at an index of a list.
-- Assumes nothing.
use mathlib.Core.Path.{◌≡◌, refl}
use mathlib.Core.List.{List, [], ◌∷◌}
use mathlib.Core.Bool.{Bool, true, false, cond, not, and-false}
use Prim.Native.Nat.{ℕ, zero, suc, ◌+◌, ◌*◌, ◌-◌, ◌^◌, ◌≤◌, ◌<◌}
use native.Mathlib.Nat.{le_trans, le_refl, lt_of_lt_of_le, pow-suc, pow-le-pow_right}
use native.Mathlib.Numerals.{add-one}
use native.Mathlib.Omega.{arith}
use lib.ListN.{length, take, drop, length-drop, get_or, drop_of_length-le}
use lib.Seq.{drop-cons, take_all}
use lib.Dec.{leb, ltb, eqb, lit<}
use borrow.Author.Tests.{eq-eqb, ne_eqb, eqb-false, le-leb, lt-leb, leb-true, ltb-false}
use Rattle.std.specs.List.{position_or_len}
use Rattle.std.specs.Option.{unwrap_or}
use Rattle.std.proofs.Common.{Option, Some, None}
use Rattle.columns.specs.Number.{after_spaces, decimal, scan, numeral}
use Rattle.std.specs.Prelude.{Some, None}

-- the part `&s[a..]`, as the borrow checker has it
pub to_end : (a : ℕ) (s : List ℕ) → take (length s - a) (drop a s) ≡ drop a s
to_end a s = take_all (length s - a) (drop a s) (omega (arith, length-drop a s))

decimal_le : (v : ℕ) (l : List ℕ) → v ≤ decimal v l
decimal_le v [] = le_refl v
decimal_le v (b ∷ l) = le_trans (omega arith) (decimal_le (v * 10 + (b - 48)) l)

-- each digit makes the number ten times as large
decimal-long : (n m v : ℕ) (l : List ℕ) → n ≤ length l → 10 ^ m ≤ v → 10 ^ (m + n) ≤ decimal v l
decimal-long zero m v l h k = let e : m + 0 ≡ m = omega arith in rw e (le_trans k (decimal_le v l))
decimal-long (suc n) m v [] h k = absurd (omega arith)
decimal-long (suc n) m v (b ∷ l) h k =
    let e : m + suc n ≡ suc m + n = omega arith in
    rw e (decimal-long n (suc m) (v * 10 + (b - 48)) l (omega arith) (omega (arith, pow-suc 10 m)))

-- and not more than that
pub digits_below : (i v d : ℕ) → v < 10 ^ i → d ≤ 9 → v * 10 + d < 10 ^ (i + 1)
digits_below i v d h k = rw add-one (omega (arith, pow-suc 10 i))

pub fewer_digits : (n i v : ℕ) → i ≤ n → v < 10 ^ i → v < 10 ^ n
fewer_digits n i v h k = lt_of_lt_of_le k (pow-le-pow_right {n = 10} (lit< tt) {i = i} {j = n} h)

-- how many spaces a list begins with
abbrev pub gap : List ℕ → ℕ
gap = position_or_len (λ b. not (eqb b 32))

-- what stands after them
pub gap_passed : (s : List ℕ) → (gap s ≤ length s) × (drop (gap s) s ≡ after_spaces s)
gap_passed [] = (omega arith, refl)
gap_passed (b ∷ s) = go (eqb b 32) refl (gap_passed s)
  where
    go : (t : Bool) → eqb b 32 ≡ t → (gap s ≤ length s) × (drop (gap s) s ≡ after_spaces s)
        → (gap (b ∷ s) ≤ suc (length s)) × (drop (gap (b ∷ s)) (b ∷ s) ≡ after_spaces (b ∷ s))
    go true e h = let n : 1 + gap s ≡ suc (gap s) = omega arith in simp (e, n) (omega arith, h.1)
    go false e h = simp e (omega arith, refl)

-- their number, where a search for another byte gives r
pub gap_found : (s : List ℕ) (r : Option ℕ) → r ≡ cond (ltb (gap s) (length s)) (Some (gap s)) None → unwrap_or r (length s) ≡ gap s
gap_found s r e = go (ltb (gap s) (length s)) refl
  where
    go : (t : Bool) → ltb (gap s) (length s) ≡ t → unwrap_or r (length s) ≡ gap s
    go true f = rw (e, f)
    go false f = rw (e, f) (omega (arith, ltb-false (gap s) (length s) f, (gap_passed s).0))

module _ (s : List ℕ) (i : ℕ) (h : i < length s) where
  module _ (v : ℕ) where
    pub scan-low : get_or s i 0 < 48 → scan v (drop i s) ≡ None
    unfolding scan
    scan-low lo = rw (drop-cons s i 0) (simp (lt-leb _ _ lo))

    pub scan-high : 48 ≤ get_or s i 0 → 57 < get_or s i 0 → scan v (drop i s) ≡ None
    unfolding scan
    scan-high lo hi = rw (drop-cons s i 0) (simp (le-leb _ _ lo, lt-leb _ _ hi))

    pub scan-on : 48 ≤ get_or s i 0 → get_or s i 0 ≤ 57 → scan v (drop i s) ≡ scan (v * 10 + (get_or s i 0 - 48)) (drop (i + 1) s)
    unfolding scan
    scan-on lo hi = rw (add-one, drop-cons s i 0) (simp (le-leb _ _ lo, le-leb _ _ hi))

pub scan-end : (s : List ℕ) (i v : ℕ) → length s ≤ i → v ≤ 4294967295 → scan v (drop i s) ≡ Some v
unfolding scan
scan-end s i v e le = rw drop_of_length-le (simp (le-leb _ _ le))

pub scan-end-over : (s : List ℕ) (i v : ℕ) → length s ≤ i → 4294967295 < v → scan v (drop i s) ≡ None
unfolding scan
scan-end-over s i v e over = rw drop_of_length-le (simp (lt-leb _ _ over))

-- a numeral of one digit, or of several with no leading zero, is its scan
pub led_empty : (s : List ℕ) → length s ≡ 0 → numeral s ≡ None
unfolding numeral
led_empty [] e = refl
led_empty (b ∷ s) e = absurd (omega arith)

pub led_zero : (s : List ℕ) → get_or s 0 0 ≡ 48 → 1 < length s → numeral s ≡ None
unfolding numeral
led_zero [] e h = refl
led_zero (b ∷ []) e h = absurd (omega arith)
led_zero (b ∷ (d ∷ s)) e h = simp (eq-eqb _ _ e)

pub led_one : (s : List ℕ) → (length s ≡ 0 → ⊥) → length s ≤ 1 → numeral s ≡ scan 0 s
unfolding numeral
led_one [] n h = absurd (n refl)
led_one (b ∷ []) n h = refl
led_one (b ∷ (d ∷ s)) n h = absurd (omega arith)

pub led_more : (s : List ℕ) → (length s ≡ 0 → ⊥) → (get_or s 0 0 ≡ 48 → ⊥) → numeral s ≡ scan 0 s
unfolding numeral
led_more [] n h = absurd (n refl)
led_more (b ∷ []) n h = refl
led_more (b ∷ (d ∷ s)) n h = simp (ne_eqb _ _ h)

-- more than ten digits have a leading zero or are over the largest
pub led_long : (s : List ℕ) → 10 < length s → numeral s ≡ None
unfolding numeral scan
led_long [] h = refl
led_long (b ∷ []) h = absurd (omega arith)
led_long (b ∷ (d ∷ s)) h = go (eqb b 48) (leb 48 b) refl refl
  where
    go : (x y : Bool) → eqb b 48 ≡ x → leb 48 b ≡ y → numeral (b ∷ (d ∷ s)) ≡ None
    go true y e f = simp e
    go false false e f = simp (e, f)
    go false true e f =
        let n = eqb-false b 48 e in
        let k = leb-true 48 b f in
        let v = 0 * 10 + (b - 48) in
        let over : 10 ^ 10 ≤ decimal v (d ∷ s) = decimal-long 10 0 v (d ∷ s) (omega arith) (omega arith) in
        simp e (simp (lt-leb (decimal v (d ∷ s)) 4294967295 (lt_of_lt_of_le (lit< tt) over), and-false))
