-- When each far end is taken (document 02, A8), both ways: the tests are its sentences, and of several points the lowest number is taken.
-- Assumes nothing.
use mathlib.Core.Path.{◌≡◌, refl, sym, subst}
use mathlib.Core.Logic.{◌⊎◌, inl, inr, ⊎_elim, ◌↔◌}
use mathlib.Core.Bool.{Bool, not, ◌&&◌, ◌||◌}
use mathlib.Core.List.{List, [], ◌∷◌, Memᴰ}
use Prim.Native.Nat.{ℕ, suc, ◌+◌, ◌≤◌, ◌<◌}
use native.Mathlib.Omega.{arith}
use lib.ListN.{length, get_or}
use lib.Dec.{T, eqb, eqb→eq, T_not}
use Rattle.scenario.specs.Links.{Link, leads}
use Rattle.scenario.specs.Rows.{Row, point, next, last, earlier, later, before, apart, same, free, within, outside, event, introduced, points, elem, gather, before_link, ascends, may_end, first_or, far_end}
use Rattle.scenario.specs.Sheet.{Sheet}
use Rattle.scenario.specs.Reading.{All, Counted, SheetRead}
use Rattle.scenario.specs.Denials.{Leads, step, on, Ends, EndsNext, EndsLast, Taken, short, long}
use Rattle.scenario.proofs.Base.{both, pair, either, left, right, tell, is_true, is_false, eq→eqb, neq→neqb, neqb→neq, all_map, all-at, elem_at}
use Rattle.scenario.proofs.Links.{mem_all, all-gather, gather-put, leads-chain, leads-link, leads_in_lem}
use Rattle.scenario.proofs.Far.{end_tests}
use Rattle.scenario.proofs.Reading.{sound, counted-all}
use Rattle.scenario.proofs.Glue.{section_at_lem, points-all}
use Rattle.scenario.proofs.Agreement.{Base}

-- `ascends` is "lead, in one or more steps", of two different points
module _ (rows : List Row) where
  abbrev Way : ℕ → ℕ → Type 0
  Way x y = (x ≡ y) ⊎ Leads rows x y

  way-chain : (x y z : ℕ) → Way x y → Way y z → Way x z
  way-chain x y z (inl p) b = subst (λ (k : ℕ). Way k z) (sym p) b
  way-chain x y z (inr a) (inl q) = inr (subst (Leads rows x) q a)
  way-chain x y z (inr a) (inr b) = inr (on a b)

  before-way : (row : Row) → Memᴰ row rows → All (λ (l : Link). Way l.from l.to) (before_link row)
  before-way (point p s) m = tt
  before-way (next p q s) m = tt
  before-way (last p q s) m = tt
  before-way (earlier p q a) m = tt
  before-way (later p q a) m = tt
  before-way (before p q) m = (inr (step m), tt)
  before-way (apart p q) m = tt
  before-way (same p q) m = tt
  before-way (free p q s) m = tt
  before-way (within p q lo hi) m = tt
  before-way (outside p q lo hi) m = tt
  before-way (event p s) m = tt

  ascends_get : (x y : ℕ) → T (ascends rows x y) → Leads rows x y
  unfolding ascends
  ascends_get x y t =
      let b = both (not (eqb x y)) (leads (gather before_link rows) x y) t in
      ⊎_elim (λ q. absurd (neqb→neq x y b.0 q)) (λ l. l)
      (leads_in_lem Way (λ x. inl refl) way-chain (gather before_link rows)
      (all-gather (λ (l : Link). Way l.from l.to) before_link rows
      (mem_all (λ (row : Row). All (λ (l : Link). Way l.from l.to) (before_link row)) rows before-way)) x y b.1)

  leads-put : (x y : ℕ) → Leads rows x y → T (leads (gather before_link rows) x y)
  leads-put x y (step m) = leads-link (gather before_link rows) (gather-put before_link rows m (Memᴰ.head refl))
  leads-put x y (on {y = k} a b) = leads-chain (gather before_link rows) x k y (leads-put x k a) (leads-put k y b)

  pub ascends-is : (x y : ℕ) → (x ≡ y → ⊥) → T (ascends rows x y) ↔ Leads rows x y
  unfolding ascends
  ascends-is x y n = (ascends_get x y, λ l. pair (not (eqb x y)) (leads (gather before_link rows) x y) (neq→neqb x y n) (leads-put x y l))

-- Of points in order, the first that passes is the lowest number that does.
taken-map : {P Q : ℕ → Type 0} {d z : ℕ} → ((y : ℕ) → P y → Q y) → ((y : ℕ) → Q y → P y) → Taken P d z → Taken Q d z
taken-map {z = z} f g (short h k) = short (f z h) (λ y q. k y (g y q))
taken-map f g (long k) = long (λ y q. k y (g y q))

module _ (d : ℕ) (f : ℕ → Bool) where
  abbrev Passes : List ℕ → ℕ → Type 0
  Passes zs z = T (elem z zs) × T (f z)

  first_or-taken : (b : ℕ) (zs : List ℕ) → Counted b zs → Taken (Passes zs) d (first_or d f zs)
  unfolding first_or elem
  first_or-taken b [] c = long (λ y h. h.0)
  first_or-taken b (z ∷ zs) c =
      ⊎_elim (λ t. rw (is_true (f z) t) (short (left (eqb z z) (elem z zs) (eq→eqb z z refl), t) (λ y h. lowest y (either (eqb y z) (elem y zs) h.0))))
      (λ n. rw (is_false (f z) n) (taken-map (λ y h. (right (eqb y z) (elem y zs) h.0, h.1)) (λ y h. (other n y h.1 (either (eqb y z) (elem y zs) h.0), h.1))
      (first_or-taken (suc b) zs c.1))) (tell (f z))
    where
      lowest : (y : ℕ) → T (eqb y z) ⊎ T (elem y zs) → z ≤ y
      lowest y (inl t) = omega (arith, eqb→eq y z t)
      lowest y (inr t) = omega (arith, c.0, elem_at (λ (p : ℕ). (suc b < p) × (p ≤ suc b + length zs)) y zs t (counted-all (suc b) zs c.1))

      other : T (not (f z)) → (y : ℕ) → T (f y) → T (eqb y z) ⊎ T (elem y zs) → T (elem y zs)
      other n y t (inl q) = absurd (T_not (f z) n (subst (λ (k : ℕ). T (f k)) (eqb→eq y z q) t))
      other n y t (inr q) = q

-- A far end, of tests that say of the antecedent's points what the sentences say.
module _ (antecedent : List Row) (C : Counted 0 (points antecedent)) (beyond ordered : ℕ → Bool) (Beyond Ordered : ℕ → Type 0) (q edge d : ℕ)
    (is-beyond : (z : ℕ) → T (elem z (points antecedent)) → T (beyond z) ↔ Beyond z) (is-ordered : (z : ℕ) → (z ≡ q → ⊥) → T (ordered z) ↔ Ordered z) where
  taken : Taken (Ends antecedent Beyond Ordered q edge) d (first_or d (may_end beyond ordered q edge) (points antecedent))
  unfolding may_end
  taken = taken-map there back (first_or-taken d (may_end beyond ordered q edge) 0 (points antecedent) C)
    where
      there : (z : ℕ) → Passes d (may_end beyond ordered q edge) (points antecedent) z → Ends antecedent Beyond Ordered q edge z
      there z h =
          let t = end_tests beyond ordered q edge z h.1 in
          let n = neqb→neq z q t.1 in
          record { point = h.0; beyond = (is-beyond z h.0).0 t.0; other = n; ordered = ⊎_elim (λ u. inl (eqb→eq q edge u)) (λ u. inr ((is-ordered z n).0 u)) t.2 }

      back : (z : ℕ) → Ends antecedent Beyond Ordered q edge z → Passes d (may_end beyond ordered q edge) (points antecedent) z
      back z h = (
        h.point,
        pair (beyond z && not (eqb z q)) (eqb q edge || ordered z)
            (pair (beyond z) (not (eqb z q)) ((is-beyond z h.point).1 h.beyond) (neq→neqb z q h.other))
            (⊎_elim (λ u. left (eqb q edge) (ordered z) (eq→eqb q edge u)) (λ u. right (eqb q edge) (ordered z) ((is-ordered z h.other).1 u)) h.ordered),
      )

-- Of a sheet that is read: the far ends of consequent number i + 1.
module _ (sheet : Sheet) (R : SheetRead sheet) (i : ℕ) (h : i < length sheet.consequents) where
  abbrev consequent : List Row
  consequent = get_or sheet.consequents i []

  abbrev NotAntecedent : ℕ → Type 0
  NotAntecedent p = (z : ℕ) → T (elem z (points sheet.antecedent)) → p ≡ z → ⊥

  -- a consequent's own point is none of the antecedent's
  not-antecedent : (row : Row) → Memᴰ row consequent → All NotAntecedent (introduced row)
  not-antecedent row m =
      all-at (λ (row : Row). All NotAntecedent (introduced row)) m
      (points-all NotAntecedent consequent
      (all_map (λ p o z t e. omega (
        arith,
        o.low,
        R.few,
        elem_at (λ (m : ℕ). (0 < m) × (m ≤ 0 + length (points sheet.antecedent))) z (points sheet.antecedent) t
            (counted-all 0 (points sheet.antecedent) R.numbers),
      )) (points consequent)
      (section_at_lem (Base sheet) 1 sheet.consequents (sound sheet R).sections i h).home))

  pub next-far_end : (p q s : ℕ) → Memᴰ (next p q s) consequent
      → Taken (EndsNext sheet.antecedent consequent p q) 99 (far_end sheet.antecedent consequent (next p q s))
  unfolding far_end
  next-far_end p q s m =
      taken sheet.antecedent R.numbers (ascends consequent p) (ascends sheet.antecedent q) (Leads consequent p) (Leads sheet.antecedent q) q 0 99
      (λ z t. ascends-is consequent p z ((not-antecedent (next p q s) m).0 z t)) (λ z n. ascends-is sheet.antecedent q z (λ e. n (sym e)))

  pub last-far_end : (p q s : ℕ) → Memᴰ (last p q s) consequent
      → Taken (EndsLast sheet.antecedent consequent p q) 0 (far_end sheet.antecedent consequent (last p q s))
  unfolding far_end
  last-far_end p q s m =
      taken sheet.antecedent R.numbers (λ z. ascends consequent z p) (λ z. ascends sheet.antecedent z q) (λ z. Leads consequent z p) (λ z. Leads sheet.antecedent z q) q 99 0
      (λ z t. ascends-is consequent z p (λ e. (not-antecedent (last p q s) m).0 z t (sym e))) (λ z n. ascends-is sheet.antecedent z q n)
