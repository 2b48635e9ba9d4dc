-- A row that passes its tests is one that a sheet's theorem asks for (RowRead). Carried by `any-kind`: with the kind a numeral, each test computes.
-- Assumes nothing.
use mathlib.Core.Path.{◌≡◌, refl, sym, ap, ◌∙◌}
use mathlib.Core.Logic.{◌⊎◌, inl, inr, ⊎_elim}
use mathlib.Core.Bool.{Bool, true, false, not, ◌&&◌, ◌||◌}
use Prim.Native.Nat.{ℕ, suc, ◌+◌, ◌*◌, ◌≤◌, ◌<◌}
use native.Mathlib.Omega.{arith}
use lib.ListN.{length}
use lib.Dec.{eqb, leb, ltb}
use borrow.Author.Tests.{eqb-true, leb-true, ltb-true}
use Rattle.columns.specs.Number.{largest}
use Rattle.scenario.specs.Rows.{Row, set_of, lower_half, upper_half, introduced, needs}
use Rattle.scenario.specs.Fields.{five, fields, decode, row_of}
use Rattle.scenario.specs.Reading.{All, Ordinary, Seen, first, final, antecedent as seen-antecedent, own as seen-own, RowRead}
use Rattle.scenario.proofs.Base.{never}
use Rattle.scenario.proofs.Halves.{lower_half_of, upper_half_of, set_of-events}
use Rattle.scenario.proofs.Numbers.{any-kind}
use Rattle.rules.specs.declared.Stand.{Stand}
use Rattle.rules.specs.Rules.{advance, ordinary, known, is_due, known_but, ordinary_but, both_ordinary, kind_fits, p_fits, origin_fits, q_fits, set_only, both_zero, rest_fits}
use Rattle.rules.proofs.Fitting.{kind-high}

pub both_true : (a b : Bool) → (a && b) ≡ true → (a ≡ true) × (b ≡ true)
both_true true b e = (refl, e)
both_true false b e = never e

either_true : (a b : Bool) → (a || b) ≡ true → (a ≡ true) ⊎ (b ≡ true)
either_true true b e = inl refl
either_true false b e = inr e

-- Points that may be used

module _ (s a c m : ℕ) where
  -- one of the antecedent's, or one of the section's
  ordinary-is : ordinary s a c m ≡ true → ((1 ≤ m) × (m ≤ a)) ⊎ ((10 * s < m) × (m ≤ 10 * s + c))
  unfolding ordinary
  ordinary-is e =
      ⊎_elim (λ h. let b = both_true (leb 1 m) (leb m a) h in inl (leb-true 1 m b.0, leb-true m a b.1))
      (λ h. let b = both_true (ltb (10 * s) m) (leb m (10 * s + c)) h in inr (ltb-true (10 * s) m b.0, leb-true m (10 * s + c) b.1))
      (either_true (leb 1 m && leb m a) (ltb (10 * s) m && leb m (10 * s + c)) e)

  pub ordinary-seen : ordinary s a c m ≡ true → Seen a s c m
  ordinary-seen e = ⊎_elim (λ h. seen-antecedent h.0 h.1) (λ h. seen-own h.0 h.1) (ordinary-is e)

  pub ordinary-plain : s ≤ 6 → a ≤ 4 → c ≤ 8 → ordinary s a c m ≡ true → Ordinary m
  ordinary-plain hs ha hc e = ⊎_elim
      (λ h. record { not_start = λ q. omega (arith, h.0); not_close = λ q. omega (arith, h.1) })
      (λ h. record { not_start = λ q. omega (arith, h.0); not_close = λ q. omega (arith, h.1) }) (ordinary-is e)

  pub known-seen : known s a c m ≡ true → Seen a s c m
  unfolding known
  known-seen e =
      ⊎_elim (λ h. first (eqb-true m 0 h))
      (λ h. ⊎_elim (λ g. final (eqb-true m 99 g)) ordinary-seen (either_true (eqb m 99) (ordinary s a c m) h))
      (either_true (eqb m 0) (eqb m 99 || ordinary s a c m) e)

module _ (s a c q other : ℕ) where
  known_but_lem : known_but s a c q other ≡ true → Seen a s c q
  unfolding known_but
  known_but_lem e = known-seen s a c q (both_true (not (eqb q other)) (known s a c q) e).1

  ordinary_but_lem : ordinary_but s a c q other ≡ true → ordinary s a c q ≡ true
  unfolding ordinary_but
  ordinary_but_lem e = (both_true (not (eqb q other)) (ordinary s a c q) e).1

  both_ordinary_lem : both_ordinary s a c q other ≡ true → (ordinary s a c q ≡ true) × (ordinary s a c other ≡ true)
  unfolding both_ordinary
  both_ordinary_lem e = let b = both_true (ordinary_but s a c q other) (ordinary s a c other) e in (ordinary_but_lem b.0, b.1)

pub due-is : (f m n p : ℕ) → is_due f m n p ≡ true → (p ≡ f + n + 1) × (n < m)
unfolding is_due
due-is f m n p e = let b = both_true (ltb n m) (eqb p (f + n + 1)) e in (eqb-true p (f + n + 1) b.1, ltb-true n m b.0)

-- A row of a consequent s, where c of its points and a of the antecedent's are introduced
module _ (s a c : ℕ) (s1 : 1 ≤ s) (s6 : s ≤ 6) (a4 : a ≤ 4) (c8 : c ≤ 8) (p q x b : ℕ) (fits : x ≤ largest) (fits-b : b ≤ largest) where
  abbrev ConsRow : ℕ → Type 0
  ConsRow k =
      kind_fits s k ≡ true → p_fits k s a c p ≡ true → q_fits k s a c p q x ≡ true → RowRead a s c (row_of k p q x b)

  plain : (m : ℕ) → ordinary s a c m ≡ true → Ordinary m
  plain m e = ordinary-plain s a c m s6 a4 c8 e

  pub cons_row : (k : ℕ) → ConsRow k
  unfolding kind_fits p_fits q_fits origin_fits decode
  cons_row =
      any-kind ConsRow
      (λ e f g. never e)
      (λ e f g. absurd (let z = eqb-true s 0 e in omega arith))
      (λ e f g. record { valid = tt; due = (due-is (10 * s) 8 c p f, tt); known = (known_but_lem s a c q 99 g, tt) })
      (λ e f g. record { valid = tt; due = (due-is (10 * s) 8 c p f, tt); known = (known_but_lem s a c q 0 g, tt) })
      (λ e f g. introduced f g)
      (λ e f g. introduced' f g)
      (λ e f g. record { valid = tt; due = tt; known = (ordinary-seen s a c p f, (ordinary-seen s a c q (ordinary_but_lem s a c q p g), tt)) })
      (λ e f g. record { valid = tt; due = tt; known = (ordinary-seen s a c p f, (ordinary-seen s a c q (ordinary_but_lem s a c q p g), tt)) })
      (λ e f g. record { valid = tt; due = tt; known = (ordinary-seen s a c p f, (ordinary-seen s a c q (ordinary_but_lem s a c q p g), tt)) })
      (λ e f g. record { valid = tt; due = tt; known = (known-seen s a c p f, (known_but_lem s a c q p g, tt)) })
      (λ e f g. record { valid = tt; due = tt; known = (known-seen s a c p f, (known_but_lem s a c q p g, tt)) })
      (λ e f g. record { valid = tt; due = tt; known = (known-seen s a c p f, (known_but_lem s a c q p g, tt)) })
      (λ e f g. record { valid = (plain p f, set_of-events x b fits fits-b); due = tt; known = (ordinary-seen s a c p f, tt) })
      (λ k e f g. absurd (let h = kind-high (suc (suc (suc (suc (suc (suc (suc (suc (suc (suc (suc (suc (suc k))))))))))))) s e in omega arith))
    where
      introduced : is_due (10 * s) 8 c p ≡ true → both_ordinary s a c q x ≡ true → RowRead a s c (row_of 4 p q x b)
      introduced f g =
          let o = both_ordinary_lem s a c q x g in
          record { valid = (plain q o.0, plain x o.1); due = (due-is (10 * s) 8 c p f, tt); known = (ordinary-seen s a c q o.0, (ordinary-seen s a c x o.1, tt)) }

      introduced' : is_due (10 * s) 8 c p ≡ true → both_ordinary s a c q x ≡ true → RowRead a s c (row_of 5 p q x b)
      introduced' f g =
          let o = both_ordinary_lem s a c q x g in
          record { valid = (plain q o.0, plain x o.1); due = (due-is (10 * s) 8 c p f, tt); known = (ordinary-seen s a c q o.0, (ordinary-seen s a c x o.1, tt)) }

-- A row of the antecedent, where a of its points are introduced
pub record AnteRow (a : ℕ) (k : Row) : Type 0 where
  pub due : All (λ (p : ℕ). (p ≡ a + 1) × (a < 4)) (introduced k)
  pub known : All (Seen a 0 0) (needs k)

module _ (a p q x b : ℕ) where
  abbrev Ante : ℕ → Type 0
  Ante k = kind_fits 0 k ≡ true → p_fits k 0 a 0 p ≡ true → q_fits k 0 a 0 p q x ≡ true → AnteRow a (row_of k p q x b)

  pub ante_row : (k : ℕ) → Ante k
  unfolding kind_fits p_fits q_fits origin_fits decode
  ante_row =
      any-kind Ante
      (λ e f g. never e)
      (λ e f g. record { due = (due-first f, tt); known = tt })
      (λ e f g. never e)
      (λ e f g. never e)
      (λ e f g. never e)
      (λ e f g. never e)
      (λ e f g. record { due = tt; known = (ordinary-seen 0 a 0 p f, (ordinary-seen 0 a 0 q (ordinary_but_lem 0 a 0 q p g), tt)) })
      (λ e f g. record { due = tt; known = (ordinary-seen 0 a 0 p f, (ordinary-seen 0 a 0 q (ordinary_but_lem 0 a 0 q p g), tt)) })
      (λ e f g. record { due = tt; known = (ordinary-seen 0 a 0 p f, (ordinary-seen 0 a 0 q (ordinary_but_lem 0 a 0 q p g), tt)) })
      (λ e f g. record { due = tt; known = (known-seen 0 a 0 p f, (known_but_lem 0 a 0 q p g, tt)) })
      (λ e f g. record { due = tt; known = (known-seen 0 a 0 p f, (known_but_lem 0 a 0 q p g, tt)) })
      (λ e f g. record { due = tt; known = (known-seen 0 a 0 p f, (known_but_lem 0 a 0 q p g, tt)) })
      (λ e f g. record { due = tt; known = (ordinary-seen 0 a 0 p f, tt) })
      (λ k e f g. absurd (let h = kind-high (suc (suc (suc (suc (suc (suc (suc (suc (suc (suc (suc (suc (suc k))))))))))))) 0 e in omega arith))
    where
      due-first : is_due 0 4 a p ≡ true → (p ≡ a + 1) × (a < 4)
      due-first f = let d = due-is 0 4 a p f in (omega (arith, d.0), d.1)

-- Where the reading stands after the row: one point more where the row introduces one
module _ (at : Stand) (p q x b : ℕ) where
  abbrev ConsNext : ℕ → Type 0
  ConsNext k =
      ((advance at k).antecedent ≡ at.antecedent) × ((advance at k).own ≡ length (introduced (row_of k p q x b)) + at.own)

  abbrev AnteNext : ℕ → Type 0
  AnteNext k =
      ((advance at k).antecedent ≡ length (introduced (row_of k p q x b)) + at.antecedent) × ((advance at k).own ≡ at.own)

  module _ (s : ℕ) (s1 : 1 ≤ s) where
    pub cons_next : (k : ℕ) → kind_fits s k ≡ true → ConsNext k
    unfolding kind_fits advance decode
    cons_next =
        any-kind (λ (k : ℕ). kind_fits s k ≡ true → ConsNext k)
        (λ e. never e)
        (λ e. absurd (let z = eqb-true s 0 e in omega arith))
        (λ e. (refl, omega arith))
        (λ e. (refl, omega arith))
        (λ e. (refl, omega arith))
        (λ e. (refl, omega arith))
        (λ e. (refl, omega arith))
        (λ e. (refl, omega arith))
        (λ e. (refl, omega arith))
        (λ e. (refl, omega arith))
        (λ e. (refl, omega arith))
        (λ e. (refl, omega arith))
        (λ e. (refl, omega arith))
        (λ k e. absurd (let h = kind-high (suc (suc (suc (suc (suc (suc (suc (suc (suc (suc (suc (suc (suc k))))))))))))) s e in omega arith))

  pub ante_next : (k : ℕ) → kind_fits 0 k ≡ true → AnteNext k
  unfolding kind_fits advance decode
  ante_next =
      any-kind (λ (k : ℕ). kind_fits 0 k ≡ true → AnteNext k)
      (λ e. never e)
      (λ e. (omega arith, refl))
      (λ e. never e)
      (λ e. never e)
      (λ e. never e)
      (λ e. never e)
      (λ e. (omega arith, refl))
      (λ e. (omega arith, refl))
      (λ e. (omega arith, refl))
      (λ e. (omega arith, refl))
      (λ e. (omega arith, refl))
      (λ e. (omega arith, refl))
      (λ e. (omega arith, refl))
      (λ k e. absurd (let h = kind-high (suc (suc (suc (suc (suc (suc (suc (suc (suc (suc (suc (suc (suc k))))))))))))) 0 e in omega arith))

-- The fields that the kind does not mention are 0, and a set's halves are a and b: the row's numbers are the line's
module _ (p q x b : ℕ) (fits : x ≤ largest) where
  abbrev Back : ℕ → Type 0
  Back k = 1 ≤ k → k ≤ 12 → rest_fits k q x b ≡ true → fields (row_of k p q x b) ≡ five k p q x b

  zero : (y : ℕ) → eqb y 0 ≡ true → 0 ≡ y
  zero y e = sym (eqb-true y 0 e)

  zeros : both_zero x b ≡ true → (0 ≡ x) × (0 ≡ b)
  unfolding both_zero
  zeros e = let z = both_true (eqb x 0) (eqb b 0) e in (zero x z.0, zero b z.1)

  no_q : set_only q x b ≡ true → 0 ≡ q
  unfolding set_only
  no_q e = zero q (both_true (eqb q 0) (not (both_zero x b)) e).0

  halves : (k y : ℕ) → five k p y (lower_half (set_of x b)) (upper_half (set_of x b)) ≡ five k p y x b
  halves k y = rw (lower_half_of x b fits, upper_half_of x b fits)

  pub fields_back : (k : ℕ) → Back k
  unfolding rest_fits decode fields
  fields_back =
      any-kind Back
      (λ h g e. absurd (omega arith))
      (λ h g e. halves 1 0 ∙ ap (λ (y : ℕ). five 1 p y x b) (no_q e))
      (λ h g e. halves 2 q)
      (λ h g e. halves 3 q)
      (λ h g e. ap (λ (y : ℕ). five 4 p q x y) (zero b e))
      (λ h g e. ap (λ (y : ℕ). five 5 p q x y) (zero b e))
      (λ h g e. ap (λ (y : ℕ). five 6 p q y 0) (zeros e).0 ∙ ap (λ (y : ℕ). five 6 p q x y) (zeros e).1)
      (λ h g e. ap (λ (y : ℕ). five 7 p q y 0) (zeros e).0 ∙ ap (λ (y : ℕ). five 7 p q x y) (zeros e).1)
      (λ h g e. ap (λ (y : ℕ). five 8 p q y 0) (zeros e).0 ∙ ap (λ (y : ℕ). five 8 p q x y) (zeros e).1)
      (λ h g e. halves 9 q)
      (λ h g e. refl)
      (λ h g e. refl)
      (λ h g e. halves 12 0 ∙ ap (λ (y : ℕ). five 12 p y x b) (zero q e))
      (λ k h g e. absurd (omega arith))
