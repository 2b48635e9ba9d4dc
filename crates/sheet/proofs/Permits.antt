-- One row: the reader's tests of its numbers are document 01's sentences on it (Permitted), by the rows before it.
-- Carried by the numbers that a section has introduced: they are counted from 10i, so that how many there are says which.
-- Assumes nothing.
use mathlib.Core.Path.{◌≡◌, refl, sym, ap, ◌∙◌}
use mathlib.Core.Logic.{inl, inr}
use mathlib.Core.Bool.{Bool, true, false, not, ◌&&◌, ◌||◌}
use mathlib.Core.List.{List, [], ◌∷◌, ◌++◌, append-nil}
use Prim.Native.Nat.{ℕ, zero, suc, ◌+◌, ◌*◌, ◌≤◌, ◌<◌}
use native.Mathlib.Omega.{arith}
use lib.ListN.{length}
use lib.Dec.{T, eqb, leb, ltb}
use borrow.Author.Tests.{eqb-true, eqb-false, leb-true, ltb-true, not-true, eq-eqb, ne_eqb, le-leb, lt-ltb}
use Rattle.scenario.specs.Rows.{Row, point, next, last, earlier, later, before, apart, same, free, within, outside, event, full_set, lower_half, upper_half, introduced, points, elem}
use Rattle.scenario.specs.Fields.{Tagged, fields}
use Rattle.scenario.specs.Reading.{Ordinary, Counted, Seen, first, final, antecedent as seen-antecedent, own as seen-own}
use Rattle.scenario.proofs.Base.{never, elem_at, Order, lower, level, upper, order}
use Rattle.scenario.proofs.Reading.{counted_in, counted-all}
use Rattle.scenario.proofs.Halves.{lower_half-fits, upper_half-fits, halves_fit, empty_halves}
use Rattle.row.specs.declared.Line.{Line}
use Rattle.rules.specs.Rules.{ordinary, known, is_due, known_but, ordinary_but, both_ordinary, kind_fits, p_fits, origin_fits, q_fits, set_only, both_zero, rest_fits}
use Rattle.sheet.specs.Text.{Fits, numbers_of}
use Rattle.sheet.specs.Valid.{rows_of, Introduced, OrdinaryPoint, KnownPoint, the_start, the_close, an_ordinary, last_point, Due, Pair, SomeEvents, Permitted}
use Rattle.sheet.proofs.Points.{both_true, ordinary-seen, ordinary-plain, due-is}

-- Tests

or-true : (b : Bool) → (b || true) ≡ true
or-true true = refl
or-true false = refl

and-true : (a b : Bool) → a ≡ true → b ≡ true → (a && b) ≡ true
and-true true b e f = f
and-true false b e f = e

differ : (x y : ℕ) → not (eqb x y) ≡ true → x ≡ y → ⊥
differ x y e = eqb-false x y (not-true (eqb x y) e)

differs : (x y : ℕ) → (x ≡ y → ⊥) → not (eqb x y) ≡ true
differs x y n = simp (ne_eqb x y n)

-- Numbers in order: one more

counted-last : (b : ℕ) (ps : List ℕ) (p : ℕ) → Counted b (ps ++ (p ∷ [])) → p ≡ b + length ps + 1
counted-last b [] p c = omega (arith, c.0)
counted-last b (q ∷ ps) p c = omega (arith, counted-last (suc b) ps p c.1)

counted-more : (b : ℕ) (ps : List ℕ) (p : ℕ) → Counted b ps → p ≡ b + length ps + 1 → Counted b (ps ++ (p ∷ []))
counted-more b [] p c e = (omega arith, tt)
counted-more b (q ∷ ps) p c e = (c.0, counted-more (suc b) ps p c.1 (omega arith))

-- Where a row of section i finds a points of the antecedent and c of its own, those that the rows before it introduce
pub record Found (front : List Tagged) (i a c : ℕ) : Type 0 where
  pub low : i ≤ 6
  pub antecedent : a ≡ length (points (rows_of 0 front))
  pub own : 1 ≤ i → c ≡ length (points (rows_of i front))
  pub none : i ≡ 0 → c ≡ 0
  pub few : a ≤ 4
  pub few-own : c ≤ 8
  pub counted-antecedent : Counted 0 (points (rows_of 0 front))
  pub counted : Counted (10 * i) (points (rows_of i front))

module _ (front : List Tagged) (i a c : ℕ) (F : Found front i a c) where
  -- Points

  of_antecedent : (m : ℕ) → T (elem m (points (rows_of 0 front))) → (1 ≤ m) × (m ≤ a)
  of_antecedent m t =
      let h = elem_at (λ (p : ℕ). (0 < p) × (p ≤ 0 + length (points (rows_of 0 front)))) m (points (rows_of 0 front)) t (counted-all 0 (points (rows_of 0 front)) F.counted-antecedent) in
      (omega (arith, h.0), omega (arith, h.1, F.antecedent))

  of_own : (m : ℕ) → T (elem m (points (rows_of i front))) → (10 * i < m) × (m ≤ 10 * i + length (points (rows_of i front)))
  of_own m t = elem_at (λ (p : ℕ). (10 * i < p) × (p ≤ 10 * i + length (points (rows_of i front)))) m (points (rows_of i front)) t (counted-all (10 * i) (points (rows_of i front)) F.counted)

  low-passes : (m : ℕ) → 1 ≤ m → m ≤ a → ordinary i a c m ≡ true
  unfolding ordinary
  low-passes m lo hi = simp (le-leb 1 m lo, le-leb m a hi)

  own-passes : (m : ℕ) → 10 * i < m → m ≤ 10 * i + c → ordinary i a c m ≡ true
  unfolding ordinary
  own-passes m lo hi = simp (lt-ltb (10 * i) m lo, le-leb m (10 * i + c) hi) (or-true (leb 1 m && leb m a))

  introduced-passes : (m : ℕ) → Introduced front i m → ordinary i a c m ≡ true
  introduced-passes m (inl t) = go (order i 0)
    where
      go : Order i 0 → ordinary i a c m ≡ true
      go (lower h) = absurd (omega arith)
      go (level z) = let h = of_antecedent m (rw z at t) in low-passes m h.0 h.1
      go (upper h) = let b = of_own m t in own-passes m b.0 (omega (arith, b.1, F.own h))
  introduced-passes m (inr t) = let h = of_antecedent m t in low-passes m h.0 h.1

  ordinary_in : (m : ℕ) → OrdinaryPoint front i m → ordinary i a c m ≡ true
  ordinary_in m o = introduced-passes m o.introduced

  -- a point that is seen and neither start nor close is one that the rows before introduce
  seen-introduced : (m : ℕ) → Ordinary m → Seen a i c m → Introduced front i m
  seen-introduced m o (first e) = absurd (o.not_start e)
  seen-introduced m o (final e) = absurd (o.not_close e)
  seen-introduced m o (seen-antecedent lo hi) = inr (counted_in 0 (points (rows_of 0 front)) F.counted-antecedent m (omega arith) (omega (arith, F.antecedent)))
  seen-introduced m o (seen-own lo hi) = go (order i 0)
    where
      go : Order i 0 → Introduced front i m
      go (lower h) = absurd (omega arith)
      go (level z) = absurd (omega (arith, F.none z))
      go (upper h) = inl (counted_in (10 * i) (points (rows_of i front)) F.counted m lo (omega (arith, F.own h)))

  ordinary-out : (m : ℕ) → ordinary i a c m ≡ true → OrdinaryPoint front i m
  ordinary-out m e =
      let o = ordinary-plain i a c m F.low F.few F.few-own e in
      record { ordinary = o; introduced = seen-introduced m o (ordinary-seen i a c m e) }

  known_in : (m : ℕ) → KnownPoint front i m → known i a c m ≡ true
  unfolding known
  known_in m (the_start e) = simp (eq-eqb m 0 e)
  known_in m (the_close e) = simp (eq-eqb m 99 e) (or-true (eqb m 0))
  known_in m (an_ordinary o) = rw (ordinary_in m o) (ap (λ (b : Bool). eqb m 0 || b) (or-true (eqb m 99)) ∙ or-true (eqb m 0))

  known_out : (m : ℕ) → known i a c m ≡ true → KnownPoint front i m
  unfolding known
  known_out m e = go (eqb m 0) (eqb m 99) (ordinary i a c m) refl refl refl e
    where
      go : (x y z : Bool) → eqb m 0 ≡ x → eqb m 99 ≡ y → ordinary i a c m ≡ z → (x || (y || z)) ≡ true → KnownPoint front i m
      go true y z ex ey ez e = the_start (eqb-true m 0 ex)
      go false true z ex ey ez e = the_close (eqb-true m 99 ey)
      go false false true ex ey ez e = an_ordinary (ordinary-out m ez)
      go false false false ex ey ez e = never e

  -- Numbers due

  first_in : i ≡ 0 → (p : ℕ) → Due front i p → is_due 0 4 a p ≡ true
  unfolding is_due last_point
  first_in z p d =
      let n : p ≡ 0 + length (points (rows_of 0 front)) + 1 = counted-last 0 (points (rows_of 0 front)) p (rw z at d.in_order) in
      let u : p ≤ 4 = (rw z at d.up_to) in
      and-true (ltb a 4) (eqb p (0 + a + 1)) (lt-ltb a 4 (omega (arith, F.antecedent))) (eq-eqb p (0 + a + 1) (omega (arith, F.antecedent)))

  first_out : i ≡ 0 → (p : ℕ) → is_due 0 4 a p ≡ true → Due front i p
  unfolding last_point
  first_out z p e =
      let d = due-is 0 4 a p e in
      rw z (record { in_order = counted-more 0 (points (rows_of 0 front)) p F.counted-antecedent (omega (arith, d.0, F.antecedent)); up_to = omega (arith, d.0, d.1) })

  last-own : 1 ≤ i → last_point i ≡ 10 * i + 8
  unfolding last_point
  last-own h = go i h
    where
      go : (j : ℕ) → 1 ≤ j → last_point j ≡ 10 * j + 8
      go zero h = absurd (omega arith)
      go (suc j) h = refl

  next_in : 1 ≤ i → (p : ℕ) → Due front i p → is_due (10 * i) 8 c p ≡ true
  unfolding is_due
  next_in h p d =
      let n = counted-last (10 * i) (points (rows_of i front)) p d.in_order in
      and-true (ltb c 8) (eqb p (10 * i + c + 1)) (lt-ltb c 8 (omega (arith, d.up_to, last-own h, F.own h))) (eq-eqb p (10 * i + c + 1) (omega (arith, F.own h)))

  next-out : 1 ≤ i → (p : ℕ) → is_due (10 * i) 8 c p ≡ true → Due front i p
  next-out h p e =
      let d = due-is (10 * i) 8 c p e in
      record { in_order = counted-more (10 * i) (points (rows_of i front)) p F.counted (omega (arith, d.0, F.own h)); up_to = omega (arith, d.0, d.1, last-own h) }

  -- Pairs

  known_but_in : (q other : ℕ) → KnownPoint front i q → (q ≡ other → ⊥) → known_but i a c q other ≡ true
  unfolding known_but
  known_but_in q other o n = and-true (not (eqb q other)) (known i a c q) (differs q other n) (known_in q o)

  known_but-out : (q other : ℕ) → known_but i a c q other ≡ true → KnownPoint front i q × (q ≡ other → ⊥)
  unfolding known_but
  known_but-out q other e = let b = both_true (not (eqb q other)) (known i a c q) e in (known_out q b.1, differ q other b.0)

  ordinary_but_in : (q other : ℕ) → OrdinaryPoint front i q → (q ≡ other → ⊥) → ordinary_but i a c q other ≡ true
  unfolding ordinary_but
  ordinary_but_in q other o n = and-true (not (eqb q other)) (ordinary i a c q) (differs q other n) (ordinary_in q o)

  ordinary_but-out : (q other : ℕ) → ordinary_but i a c q other ≡ true → OrdinaryPoint front i q × (q ≡ other → ⊥)
  unfolding ordinary_but
  ordinary_but-out q other e = let b = both_true (not (eqb q other)) (ordinary i a c q) e in (ordinary-out q b.1, differ q other b.0)

  both_in : (q x : ℕ) → Pair (OrdinaryPoint front i) q x → both_ordinary i a c q x ≡ true
  unfolding both_ordinary
  both_in q x P = and-true (ordinary_but i a c q x) (ordinary i a c x) (ordinary_but_in q x P.first (λ e. P.different (sym e))) (ordinary_in x P.second)

  both_out : (q x : ℕ) → both_ordinary i a c q x ≡ true → Pair (OrdinaryPoint front i) q x
  unfolding both_ordinary
  both_out q x e =
      let b = both_true (ordinary_but i a c q x) (ordinary i a c x) e in
      let o = ordinary_but-out q x b.0 in
      record { different = λ d. o.1 (sym d); first = o.0; second = ordinary-out x b.1 }

  pair_out : (p q : ℕ) → ordinary i a c p ≡ true → ordinary_but i a c q p ≡ true → Pair (OrdinaryPoint front i) p q
  pair_out p q e f = let o = ordinary_but-out q p f in record { different = o.1; first = ordinary-out p e; second = o.0 }

  known_pair_out : (p q : ℕ) → known i a c p ≡ true → known_but i a c q p ≡ true → Pair (KnownPoint front i) p q
  known_pair_out p q e f = let o = known_but-out q p f in record { different = o.1; first = known_out p e; second = o.0 }

  -- Sets

  -- "It is empty when both are 0."
  set_in : (s : ℕ) → SomeEvents s → set_only 0 (lower_half s) (upper_half s) ≡ true
  unfolding set_only both_zero
  set_in s E = go (eqb (lower_half s) 0) (eqb (upper_half s) 0) refl refl
    where
      go : (x y : Bool) → eqb (lower_half s) 0 ≡ x → eqb (upper_half s) 0 ≡ y → not (x && y) ≡ true
      go true true ex ey = absurd (E.non_empty (empty_halves s (eqb-true (lower_half s) 0 ex) (eqb-true (upper_half s) 0 ey)))
      go true false ex ey = refl
      go false y ex ey = refl

  set_out : (s : ℕ) → upper_half s ≤ 4294967295 → set_only 0 (lower_half s) (upper_half s) ≡ true → SomeEvents s
  unfolding set_only both_zero lower_half upper_half
  set_out s h e = record { fits = halves_fit s h; non_empty = λ z. never (rw z at e) }

  -- The row's tests
  pub record Tests (l : Line) : Type 0 where
    pub kind : kind_fits i l.kind ≡ true
    pub p : p_fits l.kind i a c l.p ≡ true
    pub q : q_fits l.kind i a c l.p l.q l.a ≡ true
    pub rest : rest_fits l.kind l.q l.a l.b ≡ true

  abbrev numbers : Row → Line
  numbers r = numbers_of (record { section = i; row = r })

  pub tested : (r : Row) → Permitted front i r → Tests (numbers r)
  unfolding numbers_of fields kind_fits p_fits q_fits origin_fits rest_fits both_zero
  tested (point p s) P = record { kind = eq-eqb i 0 P.0; p = first_in P.0 p P.1; q = refl; rest = set_in s P.2 }
  tested (next p q s) P = record { kind = lt-ltb 0 i P.0; p = next_in P.0 p P.1; q = known_but_in q 99 P.2 P.3; rest = set_in s P.4 }
  tested (last p q s) P = record { kind = lt-ltb 0 i P.0; p = next_in P.0 p P.1; q = known_but_in q 0 P.2 P.3; rest = set_in s P.4 }
  tested (earlier p q x) P = record { kind = lt-ltb 0 i P.0; p = next_in P.0 p P.1; q = both_in q x P.2; rest = refl }
  tested (later p q x) P = record { kind = lt-ltb 0 i P.0; p = next_in P.0 p P.1; q = both_in q x P.2; rest = refl }
  tested (before p q) P = record { kind = refl; p = ordinary_in p P.first; q = ordinary_but_in q p P.second P.different; rest = refl }
  tested (apart p q) P = record { kind = refl; p = ordinary_in p P.first; q = ordinary_but_in q p P.second P.different; rest = refl }
  tested (same p q) P = record { kind = refl; p = ordinary_in p P.first; q = ordinary_but_in q p P.second P.different; rest = refl }
  tested (free p q s) P = record { kind = refl; p = known_in p P.0.first; q = known_but_in q p P.0.second P.0.different; rest = set_in s P.1 }
  tested (within p q lo hi) P = record { kind = refl; p = known_in p P.0.first; q = known_but_in q p P.0.second P.0.different; rest = le-leb lo hi P.1.ascend }
  tested (outside p q lo hi) P = record { kind = refl; p = known_in p P.0.first; q = known_but_in q p P.0.second P.0.different; rest = le-leb lo hi P.1.ascend }
  tested (event p s) P = record { kind = refl; p = ordinary_in p P.0; q = refl; rest = refl }

  pub permitted : (r : Row) → Fits (numbers r) → Tests (numbers r) → Permitted front i r
  unfolding numbers_of fields kind_fits p_fits q_fits origin_fits rest_fits both_zero
  permitted (point p s) N t = let z = eqb-true i 0 t.kind in (z, first_out z p t.p, set_out s N.b t.rest)
  permitted (next p q s) N t = let h = ltb-true 0 i t.kind in let k = known_but-out q 99 t.q in (h, next-out h p t.p, k.0, k.1, set_out s N.b t.rest)
  permitted (last p q s) N t = let h = ltb-true 0 i t.kind in let k = known_but-out q 0 t.q in (h, next-out h p t.p, k.0, k.1, set_out s N.b t.rest)
  permitted (earlier p q x) N t = let h = ltb-true 0 i t.kind in (h, next-out h p t.p, both_out q x t.q)
  permitted (later p q x) N t = let h = ltb-true 0 i t.kind in (h, next-out h p t.p, both_out q x t.q)
  permitted (before p q) N t = pair_out p q t.p t.q
  permitted (apart p q) N t = pair_out p q t.p t.q
  permitted (same p q) N t = pair_out p q t.p t.q
  permitted (free p q s) N t = (known_pair_out p q t.p t.q, set_out s N.b t.rest)
  permitted (within p q lo hi) N t = (known_pair_out p q t.p t.q, record { ascend = leb-true lo hi t.rest; fits = N.b })
  permitted (outside p q lo hi) N t = (known_pair_out p q t.p t.q, record { ascend = leb-true lo hi t.rest; fits = N.b })
  permitted (event p s) N t = (ordinary-out p t.p, halves_fit s N.b)

  -- The row's numbers fit their columns

  last-first : i ≡ 0 → last_point i ≡ 4
  unfolding last_point
  last-first z = rw z

  due-low : (p : ℕ) → Due front i p → p < 1000
  due-low p d = go (order i 0)
    where
      go : Order i 0 → p < 1000
      go (lower h) = absurd (omega arith)
      go (level z) = omega (arith, d.up_to, last-first z)
      go (upper h) = omega (arith, d.up_to, last-own h, F.low)

  ordinary-low : (m : ℕ) → OrdinaryPoint front i m → m < 1000
  ordinary-low m o = go (ordinary-seen i a c m (ordinary_in m o))
    where
      go : Seen a i c m → m < 1000
      go (first e) = omega arith
      go (final e) = omega arith
      go (seen-antecedent lo hi) = omega (arith, F.few)
      go (seen-own lo hi) = omega (arith, F.few-own, F.low)

  known-low : (m : ℕ) → KnownPoint front i m → m < 1000
  known-low m (the_start e) = omega arith
  known-low m (the_close e) = omega arith
  known-low m (an_ordinary o) = ordinary-low m o

  abbrev fit : (kind p q x y : ℕ) → kind < 1000 → p < 1000 → q < 1000 → x ≤ 4294967295 → y ≤ 4294967295 → Fits (record { section = i; kind = kind; p = p; q = q; a = x; b = y })
  fit kind p q x y hk hp hq hx hy = record { section = omega (arith, F.low); kind = hk; p = hp; q = hq; a = hx; b = hy }

  abbrev fit_set : (kind p q s : ℕ) → kind < 1000 → p < 1000 → q < 1000 → s ≤ full_set
      → Fits (record { section = i; kind = kind; p = p; q = q; a = lower_half s; b = upper_half s })
  fit_set kind p q s hk hp hq hs = fit kind p q (lower_half s) (upper_half s) hk hp hq (lower_half-fits s) (upper_half-fits s hs)

  pub fitting : (r : Row) → Permitted front i r → Fits (numbers r)
  unfolding numbers_of fields
  fitting (point p s) P = fit_set 1 p 0 s (omega arith) (due-low p P.1) (omega arith) P.2.fits
  fitting (next p q s) P = fit_set 2 p q s (omega arith) (due-low p P.1) (known-low q P.2) P.4.fits
  fitting (last p q s) P = fit_set 3 p q s (omega arith) (due-low p P.1) (known-low q P.2) P.4.fits
  fitting (earlier p q x) P = let h = ordinary-low x P.2.second in fit 4 p q x 0 (omega arith) (due-low p P.1) (ordinary-low q P.2.first) (omega arith) (omega arith)
  fitting (later p q x) P = let h = ordinary-low x P.2.second in fit 5 p q x 0 (omega arith) (due-low p P.1) (ordinary-low q P.2.first) (omega arith) (omega arith)
  fitting (before p q) P = fit 6 p q 0 0 (omega arith) (ordinary-low p P.first) (ordinary-low q P.second) (omega arith) (omega arith)
  fitting (apart p q) P = fit 7 p q 0 0 (omega arith) (ordinary-low p P.first) (ordinary-low q P.second) (omega arith) (omega arith)
  fitting (same p q) P = fit 8 p q 0 0 (omega arith) (ordinary-low p P.first) (ordinary-low q P.second) (omega arith) (omega arith)
  fitting (free p q s) P = fit_set 9 p q s (omega arith) (known-low p P.0.first) (known-low q P.0.second) P.1.fits
  fitting (within p q lo hi) P = let h = P.1.ascend in fit 10 p q lo hi (omega arith) (known-low p P.0.first) (known-low q P.0.second) (omega (arith, P.1.fits)) P.1.fits
  fitting (outside p q lo hi) P = let h = P.1.ascend in fit 11 p q lo hi (omega arith) (known-low p P.0.first) (known-low q P.0.second) (omega (arith, P.1.fits)) P.1.fits
  fitting (event p s) P = fit_set 12 p 0 s (omega arith) (ordinary-low p P.0) (omega arith) P.1

  -- The points of the section, with the one that the row introduces, are in order
  pub still_counted : (r : Row) → Permitted front i r → Counted (10 * i) (points (rows_of i front) ++ introduced r)
  still_counted (point p s) P = P.1.in_order
  still_counted (next p q s) P = P.1.in_order
  still_counted (last p q s) P = P.1.in_order
  still_counted (earlier p q x) P = P.1.in_order
  still_counted (later p q x) P = P.1.in_order
  still_counted (before p q) P = rw append-nil F.counted
  still_counted (apart p q) P = rw append-nil F.counted
  still_counted (same p q) P = rw append-nil F.counted
  still_counted (free p q s) P = rw append-nil F.counted
  still_counted (within p q lo hi) P = rw append-nil F.counted
  still_counted (outside p q lo hi) P = rw append-nil F.counted
  still_counted (event p s) P = rw append-nil F.counted
