-- Reading's facts are all that demand 3 needs: points numbered in order make a sound sheet.
-- Assumes nothing.
use mathlib.Core.Path.{◌≡◌}
use mathlib.Core.Logic.{◌⊎◌, inl, inr, ⊎_elim}
use mathlib.Core.Bool.{◌||◌}
use mathlib.Core.List.{List, [], ◌∷◌, ◌++◌}
use Prim.Native.Nat.{ℕ, suc, ◌+◌, ◌*◌, ◌≤◌, ◌<◌}
use native.Mathlib.Omega.{arith}
use lib.ListN.{length}
use lib.Dec.{T, eqb}
use Rattle.scenario.specs.Rows.{Row, point, next, last, earlier, later, before, apart, same, free, within, outside, event, points, introduced, needs, elem}
use Rattle.scenario.specs.Sheet.{Sheet}
use Rattle.scenario.proofs.Base.{left, right, eq→eqb, Order, lower, level, upper, order, all_map, all_append, elem_at}
use Rattle.scenario.specs.Reading.{SheetRead, SectionsRead, RowsRead, RowRead, own, antecedent, final, first, Seen, Counted, All, Ordinary, Distinct}
use Rattle.scenario.proofs.Section.{Fits, Ready}
use Rattle.scenario.proofs.Glue.{Home, Section, Sections}
use Rattle.scenario.proofs.Agreement.{Base, is-start, is-close, is-antecedent, Sound}

pub counted_in : (b : ℕ) (ps : List ℕ) → Counted b ps → (m : ℕ) → b < m → m ≤ b + length ps → T (elem m ps)
unfolding elem
counted_in b [] c m l h = absurd (omega arith)
counted_in b (p ∷ ps) c m l h = go (order m p) (λ k. counted_in (suc b) ps c.1 m k (omega arith))
  where
    go : Order m p → (suc b < m → T (elem m ps)) → T (eqb m p || elem m ps)
    go (lower k) r = absurd (omega (arith, c.0))
    go (level q) r = left (eqb m p) (elem m ps) (eq→eqb m p q)
    go (upper k) r = right (eqb m p) (elem m ps) (r (omega (arith, c.0)))

pub counted-all : (b : ℕ) (ps : List ℕ) → Counted b ps → All (λ (p : ℕ). (b < p) × (p ≤ b + length ps)) ps
counted-all b [] c = tt
counted-all b (p ∷ ps) c = (omega (arith, c.0), all_map (λ q h. omega arith) ps (counted-all (suc b) ps c.1))

counted_distinct : (b : ℕ) (ps : List ℕ) → Counted b ps → Distinct ps
counted_distinct b [] c = tt
counted_distinct b (p ∷ ps) c = (
  λ t. omega (arith, c.0, elem_at (λ (q : ℕ). (suc b < q) × (q ≤ suc b + length ps)) p ps t (counted-all (suc b) ps c.1)),
  counted_distinct (suc b) ps c.1,
)

-- a row introduces at most one point
pub short : (k : Row) → length (introduced k) ≤ 1
short (point p s) = omega arith
short (next p q s) = omega arith
short (last p q s) = omega arith
short (earlier p q a) = omega arith
short (later p q a) = omega arith
short (before p q) = omega arith
short (apart p q) = omega arith
short (same p q) = omega arith
short (free p q s) = omega arith
short (within p q lo hi) = omega arith
short (outside p q lo hi) = omega arith
short (event p s) = omega arith

-- the points b + 1 to b + c in ps, and one more or none
module _ (b c : ℕ) (ps : List ℕ) where
  more_in : (l : List ℕ) → length l ≤ 1 → All (λ (p : ℕ). (p ≡ b + c + 1) × (c < 8)) l → ((m : ℕ) → b < m → m ≤ b + c → T (elem m ps))
      → (m : ℕ) → b < m → m ≤ b + (length l + c) → T (elem m (l ++ ps))
  unfolding elem
  more_in [] s d f m x y = f m x (omega arith)
  more_in (p ∷ []) s d f m x y = go (order m p)
    where
      go : Order m p → T (eqb m p || elem m ps)
      go (lower k) = right (eqb m p) (elem m ps) (f m x (omega (arith, d.0.0)))
      go (level q) = left (eqb m p) (elem m ps) (eq→eqb m p q)
      go (upper k) = absurd (omega (arith, d.0.0))
  more_in (p ∷ q ∷ l) s d f m x y = absurd (omega arith)

  more-all : (l : List ℕ) → length l ≤ 1 → All (λ (p : ℕ). (p ≡ b + c + 1) × (c < 8)) l → All (λ (p : ℕ). (b < p) × (p ≤ b + c)) ps
      → All (λ (p : ℕ). (b < p) × (p ≤ b + (length l + c))) (l ++ ps)
  more-all [] s d g = all_map (λ p h. (h.0, omega (arith, h.1))) ps g
  more-all (p ∷ []) s d g = (omega (arith, d.0.0), all_map (λ p h. (h.0, omega (arith, h.1))) ps g)
  more-all (p ∷ q ∷ l) s d g = absurd (omega arith)

module _ (sheet : Sheet) (R : SheetRead sheet) where
  a : ℕ
  a = length (points sheet.antecedent)

  base_of : (i c m : ℕ) → Seen a i c m → Base sheet m ⊎ ((10 * i < m) × (m ≤ 10 * i + c))
  unfolding a
  base_of i c m (first q) = inl (is-start q)
  base_of i c m (final q) = inl (is-close q)
  base_of i c m (antecedent l h) = inl (is-antecedent (counted_in 0 (points sheet.antecedent) R.numbers m l (omega arith)))
  base_of i c m (own l h) = inr (l, h)

  -- the base's points are outside the sections 1 to 6
  base_out : (i m : ℕ) → 1 ≤ i → i ≤ 6 → 10 * i < m → m ≤ 10 * i + 9 → Base sheet m → ⊥
  base_out i m l h x y (is-start q) = omega arith
  base_out i m l h x y (is-close q) = omega arith
  base_out i m l h x y (is-antecedent t) =
      omega (arith, R.few, elem_at (λ (p : ℕ). (0 < p) × (p ≤ 0 + length (points sheet.antecedent))) m (points sheet.antecedent) t (counted-all 0 (points sheet.antecedent) R.numbers))

  -- rows rs of section i after ks, which introduced its first c points
  module _ (i : ℕ) (l : 1 ≤ i) (h : i ≤ 6) where
    plain : (p : ℕ) → 10 * i < p → p ≤ 10 * i + 9 → Ordinary p
    plain p x y = record { not_start = λ q. omega arith; not_close = λ q. omega arith }

    home : (p : ℕ) → 10 * i < p → p ≤ 10 * i + 9 → Home i p
    home p x y = record { low = x; high = y; plain = plain p x y }

    fits : (c : ℕ) (ks : List Row) (x : Row) → RowRead a i c x
        → ((m : ℕ) → 10 * i < m → m ≤ 10 * i + c → T (elem m (points ks))) → All (λ (p : ℕ). (10 * i < p) × (p ≤ 10 * i + c)) (points ks)
        → Fits (Base sheet) (10 * i + 9) ks x
    fits c ks x r f g = record {
      valid = r.valid;
      known = all_map (λ m s. ⊎_elim (λ b. inl b) (λ q. inr (f m q.0 q.1)) (base_of i c m s)) (needs x) r.known;
      new = all_map (λ p d. (
        λ k. ⊎_elim (base_out i p l h (omega (arith, d.0)) (omega (arith, d.0, d.1)))
            (λ t. omega (arith, d.0, elem_at (λ (p : ℕ). (10 * i < p) × (p ≤ 10 * i + c)) p (points ks) t g)) k,
        λ q. omega (arith, d.0, d.1),
      )) (introduced x) r.due;
    }

    ready : (c : ℕ) (ks rs : List Row) → RowsRead a i c rs
        → ((m : ℕ) → 10 * i < m → m ≤ 10 * i + c → T (elem m (points ks))) → All (λ (p : ℕ). (10 * i < p) × (p ≤ 10 * i + c)) (points ks)
        → Ready (Base sheet) (10 * i + 9) ks rs
    unfolding points
    ready c ks [] r f g = tt
    ready c ks (x ∷ rs) r f g = (
      fits c ks x r.0 f g,
      ready (length (introduced x) + c) (x ∷ ks) rs r.1 (more_in (10 * i) c (points ks) (introduced x) (short x) r.0.due f)
          (more-all (10 * i) c (points ks) (introduced x) (short x) r.0.due g),
    )

    homes : (c : ℕ) (rs : List Row) → RowsRead a i c rs → All (Home i) (points rs)
    unfolding points
    homes c [] r = tt
    homes c (x ∷ rs) r =
        all_append (Home i) (introduced x) (points rs)
        (all_map (λ p d. home p (omega (arith, d.0)) (omega (arith, d.0, d.1))) (introduced x) r.0.due) (homes (length (introduced x) + c) rs r.1)

    section : (c : List Row) → RowsRead a i 0 c → Section (Base sheet) i c
    unfolding points
    section c r = record {
      ready = ready 0 [] c r (λ m x y. absurd (omega arith)) tt;
      home = homes 0 c r;
      room = home (10 * i + 9) (omega arith) (omega arith);
      spare = base_out i (10 * i + 9) l h (omega arith) (omega arith);
    }

  sections : (i : ℕ) (cs : List (List Row)) → 1 ≤ i → i + length cs ≤ 7 → SectionsRead a i cs → Sections (Base sheet) i cs
  sections i [] l h r = tt
  sections i (c ∷ cs) l h r = (section i l (omega arith) c r.0, sections (suc i) cs (omega arith) (omega arith) r.1)

  -- A sheet that is read is sound.
  pub sound : Sound sheet
  unfolding a
  sound = record {
    uses = all_map (λ k v. all_map (λ m s. ⊎_elim (λ b. b) (λ q. absurd (omega arith)) (base_of 0 0 m s)) (needs k) v) sheet.antecedent R.uses;
    plain = all_map (λ p q. record { not_start = λ z. omega arith; not_close = λ z. omega (arith, R.few) }) (points sheet.antecedent)
        (counted-all 0 (points sheet.antecedent) R.numbers);
    distinct = counted_distinct 0 (points sheet.antecedent) R.numbers;
    sections = sections 1 sheet.consequents (omega arith) (omega (arith, R.count)) R.consequents;
  }
