-- The count over rows in memory: the denials of a kind, a row more, a section more, and that the product fits.
-- Assumes nothing.
use mathlib.Core.Path.{◌≡◌, refl, sym, ap, ◌∙◌}
use mathlib.Core.Bool.{Bool, true, false}
use mathlib.Core.List.{List}
use Prim.Native.Nat.{ℕ, suc, ◌+◌, ◌*◌, ◌-◌, ◌^◌, ◌≤◌, ◌<◌}
use native.Mathlib.Nat.{mul_assoc, mul-le-mul, pow-suc, pow-le-pow_right, le_trans, lt_of_le_of_lt, sub-zero}
use native.Mathlib.Numerals.{add-one}
use native.Mathlib.Omega.{arith}
use lib.Dec.{eqb, lit<}
use lib.ListN.{length, get_or, set, replicate, take, drop, length-set, length-drop, get_or-replicate}
use lib.Seq.{get_or-set_same, get_or-set_other, length-take-le}
use Rattle.std.proofs.lemmas.List.{get_or-take, get_or-drop}
use borrow.Author.Tests.{eq-eqb, ne_eqb, eqb-true, eqb-false, le-leb, lt-leb}
use Rattle.row.specs.declared.Line.{Line}
use Rattle.row.specs.Memory.{section_at, kind_at, p_at, q_at, line_in, lines_in}
use Rattle.sheet.specs.Count.{weight_free, weight, weigh_line, weighed, Weighed, product}

module _ (k p q : ℕ) where
  pub weight_6 : k ≡ 6 → 2 ≡ weight k p q
  unfolding weight
  weight_6 e = rw e

  pub weight_9 : k ≡ 9 → weight_free p q ≡ weight k p q
  unfolding weight
  weight_9 e = rw e

  pub weight-low : (k ≡ 1 → ⊥) → k < 4 → 1 ≡ weight k p q
  unfolding weight
  weight-low n hi = simp (ne_eqb k 1 n, lt-leb 4 k (omega arith), ne_eqb k 6 (omega arith), ne_eqb k 9 (omega arith))

  pub weight-high : 6 ≤ k → (k ≡ 6 → ⊥) → (k ≡ 9 → ⊥) → 1 ≡ weight k p q
  unfolding weight
  weight-high lo n6 n9 = simp (ne_eqb k 1 (omega arith), le-leb 4 k (omega arith), lt-leb k 5 (omega arith), ne_eqb k 6 n6, ne_eqb k 9 n9)

-- a row more
pub weighed-step : (s : ℕ) (m : List ℕ) (i n sum : ℕ) → i < n → sum + weighed s (lines_in m i (n - i)) ≡ sum + weigh_line s (line_in m i) + weighed s (lines_in m (i + 1) (n - (i + 1)))
unfolding weighed lines_in
weighed-step s m i n sum h = let e : n - i ≡ suc (n - (i + 1)) = omega arith in rw (e, add-one i) (omega arith)

pub weighed-end : (s : ℕ) (m : List ℕ) (i n sum : ℕ) → n ≤ i → sum ≡ sum + weighed s (lines_in m i (n - i))
unfolding weighed lines_in
weighed-end s m i n sum h = let e : n - i ≡ 0 = omega arith in rw e (omega arith)

-- The denials by section

-- the sums so far, the rows from number i on still to come
pub record Sums (m d : List ℕ) (i n : ℕ) : Type 0 where
  pub long : length d ≡ 7
  pub sum : (s : ℕ) → s < 7 → get_or d s 0 + weighed s (lines_in m i (n - i)) ≡ weighed s (lines_in m 0 n)
  pub low : (s : ℕ) → s < 7 → get_or d s 0 ≤ 2 * i

pub sums_none : (m d : List ℕ) (n : ℕ) → d ≡ replicate 7 0 → Sums m d 0 n
sums_none m d n e =
    record {
      long = ap length e;
      sum = λ s h. rw (e, sub-zero) (omega (arith, get_or-replicate {A = ℕ} 7 s 0 0 h));
      low = λ s h. rw e (omega (arith, get_or-replicate {A = ℕ} 7 s 0 0 h));
    }

-- a row in memory, from its numbers
module _ (m : List ℕ) (i t : ℕ) (e : t ≡ section_at m i) where
  pub weighs_own : (w k p q : ℕ) → w ≡ weight k p q → k ≡ kind_at m i → p ≡ p_at m i → q ≡ q_at m i → w ≡ weigh_line t (line_in m i)
  unfolding weigh_line line_in
  weighs_own w k p q ew ek ep eq = rw (ew, ek, ep, eq, eq-eqb (section_at m i) t (sym e))

  pub weighs_none : (s : ℕ) → (t ≡ s → ⊥) → 0 ≡ weigh_line s (line_in m i)
  unfolding weigh_line line_in
  weighs_none s n = rw (ne_eqb (section_at m i) s (λ z. n (e ∙ z)))

module _ (m d : List ℕ) (i n : ℕ) (h : i < n) (S : Sums m d i n) (t : ℕ) (e : t ≡ section_at m i) where
  pub sums_skip : 7 ≤ t → Sums m d (i + 1) n
  sums_skip far =
      record {
        long = S.long;
        sum = λ s l. omega (arith, S.sum s l, weighed-step s m i n (get_or d s 0) h, weighs_none m i t e s (λ z. omega arith));
        low = λ s l. omega (arith, S.low s l);
      }

  pub sums_add : t < 7 → (w : ℕ) → w ≡ weigh_line t (line_in m i) → w ≤ 2 → Sums m (set d t (get_or d t 0 + w)) (i + 1) n
  sums_add l w q k = record { long = length-set d t (get_or d t 0 + w) ∙ S.long; sum = λ s b. at s b (eqb s t) refl; low = λ s b. few s b (eqb s t) refl }
    where
      at : (s : ℕ) → s < 7 → (b : Bool) → eqb s t ≡ b → get_or (set d t (get_or d t 0 + w)) s 0 + weighed s (lines_in m (i + 1) (n - (i + 1))) ≡ weighed s (lines_in m 0 n)
      at s b true f =
          let z = eqb-true s t f in
          rw z (omega (arith, get_or-set_same d t (get_or d t 0 + w) 0 (omega (arith, S.long)), S.sum t l, weighed-step t m i n (get_or d t 0) h, q))
      at s b false f =
          let z = eqb-false s t f in
          omega (arith, get_or-set_other d t s (get_or d t 0 + w) 0 z, S.sum s b, weighed-step s m i n (get_or d s 0) h, weighs_none m i t e s (λ x. z (sym x)))

      few : (s : ℕ) → s < 7 → (b : Bool) → eqb s t ≡ b → get_or (set d t (get_or d t 0 + w)) s 0 ≤ 2 * (i + 1)
      few s b true f = let z = eqb-true s t f in rw z (omega (arith, get_or-set_same d t (get_or d t 0 + w) 0 (omega (arith, S.long)), S.low t l))
      few s b false f = omega (arith, get_or-set_other d t s (get_or d t 0 + w) 0 (eqb-false s t f), S.low s b)

pub sums_all : (m d : List ℕ) (i n : ℕ) → n ≤ i → i ≤ 176 → Sums m d i n → Weighed d (lines_in m 0 n)
sums_all m d i n h k S =
    record {
      long = S.long;
      denials_of = λ s l. weighed-end s m i n (get_or d s 0) h ∙ S.sum s l;
      few = λ s l. omega (arith, S.low s l);
    }

-- a section more: i sections are in the product
pub product-step : (ls : List Line) (i k total : ℕ) → i < k → total * product (i + 1) (k - i) ls ≡ total * weighed (i + 1) ls * product (i + 1 + 1) (k - (i + 1)) ls
unfolding product
product-step ls i k total h =
    let e : k - i ≡ suc (k - (i + 1)) = omega arith in
    rw (e, add-one (i + 1)) (sym (mul_assoc total (weighed (i + 1) ls) (product (suc (i + 1)) (k - (i + 1)) ls)))

pub product-end : (ls : List Line) (i k total : ℕ) → k ≤ i → total ≡ total * product (i + 1) (k - i) ls
unfolding product
product-end ls i k total h = let e : k - i ≡ 0 = omega arith in rw e (omega arith)

-- the factors are the denials of the sections 1 to k
module _ (d : List ℕ) (k : ℕ) (long : length d ≡ 7) (few : k ≤ 6) where
  pub factors-length : length (take (k + 1 - 1) (drop 1 d)) ≡ k
  factors-length = let e : k + 1 - 1 ≡ k = omega arith in rw e (length-take-le k (drop 1 d) (omega (arith, length-drop 1 d, long)))

  pub factor-at : (i : ℕ) → i < k → get_or (take (k + 1 - 1) (drop 1 d)) i 0 ≡ get_or d (i + 1) 0
  factor-at i h = get_or-take (k + 1 - 1) (drop 1 d) i 0 (omega arith) ∙ get_or-drop 1 d i 0 ∙ ap (λ (j : ℕ). get_or d j 0) (let e : 1 + i ≡ i + 1 = omega arith in e)

-- a product of i factors, each at most 352; six of them fit
module _ (i total w : ℕ) (t : total ≤ 352 ^ i) (l : w ≤ 352) where
  pub power_step : total * w ≤ 352 ^ (i + 1)
  power_step = rw (add-one i, pow-suc 352 i) (mul-le-mul t l)

  pub power_fits : i < 6 → total * w < 18446744073709551616
  power_fits h = lt_of_le_of_lt (le_trans power_step (pow-le-pow_right {n = 352} (lit< tt) {i = i + 1} {j = 6} (omega arith))) (lit< tt)
