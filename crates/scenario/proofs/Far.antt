-- The far end of a missing point: it is a base's point, beyond which no line is on the point's side, and the point is short of it.
-- Assumes nothing.
use mathlib.Core.Path.{◌≡◌, refl, ◌∙◌, ap}
use mathlib.Core.Logic.{◌⊎◌, inl, inr, ⊎_elim}
use mathlib.Core.Bool.{Bool, not, ◌&&◌, ◌||◌}
use mathlib.Core.List.{List, [], ◌∷◌}
use Prim.Native.Nat.{ℕ, ◌<◌}
use native.Mathlib.Omega.{arith}
use lib.Dec.{T, eqb, ltb→lt, eqb→eq}
use Rattle.scenario.specs.Links.{Link, leads}
use Rattle.scenario.specs.Rows.{Row, point, next, last, earlier, later, before, apart, same, free, within, outside, event, Run, Env, meets, points, elem, gather, before_link, ascends, may_end, ends_next, ends_last, first_or, far_end}
use Rattle.scenario.specs.Long.{long_end}
use Rattle.scenario.specs.Reading.{All}
use Rattle.scenario.proofs.Base.{both, either, left, right, tell, is_true, is_false, eq→eqb, neqb→neq, all_map, elem_at}
use Rattle.scenario.proofs.Points.{all-points}
use Rattle.scenario.proofs.Links.{all-gather, leads_in_lem}
use Rattle.scenario.proofs.Rules.{IsLine, Fixed, Met, Between, up, down, OnItsSide, ShortOf}

-- What demand 3 asks of far ends, over an antecedent: each is a base's point; where the antecedent is met, only lines on the point's side are between q and it; and
-- where the consequent is met, of which k is a row, the point is short of it.
pub record FarEnds (base : ℕ → Type 0) (antecedent : List Row) (far : (consequent : List Row) → Row → ℕ) : Type 0 where
  pub in_base : (c : List Row) (k : Row) → base (far c k)
  pub on_its_side : (run : Run) (e : Env) → Fixed run e → All (Met run e) antecedent → (c : List Row) (k : Row) → OnItsSide run e (far c k) k
  pub short_of : (run : Run) (e : Env) → Fixed run e → (c : List Row) → All (Met run e) c → (k : Row) → Met run e k → ShortOf e (far c k) k

-- where rows are met, BEFORE rows lead from lower to higher positions
module _ (run : Run) (e : Env) where
  abbrev Rising : ℕ → ℕ → Type 0
  Rising x y = (x ≡ y) ⊎ (e x < e y)

  rising-chain : (x y z : ℕ) → Rising x y → Rising y z → Rising x z
  rising-chain x y z (inl p) (inl q) = inl (p ∙ q)
  rising-chain x y z (inl p) (inr q) = inr (omega (arith, ap e p))
  rising-chain x y z (inr p) (inl q) = inr (omega (arith, ap e q))
  rising-chain x y z (inr p) (inr q) = inr (omega arith)

  before-rising : (row : Row) → Met run e row → All (λ (l : Link). Rising l.from l.to) (before_link row)
  unfolding meets
  before-rising (point p s) o = tt
  before-rising (next p q s) o = tt
  before-rising (last p q s) o = tt
  before-rising (earlier p q a) o = tt
  before-rising (later p q a) o = tt
  before-rising (before p q) o = (inr (ltb→lt (e p) (e q) o.0), tt)
  before-rising (apart p q) o = tt
  before-rising (same p q) o = tt
  before-rising (free p q s) o = tt
  before-rising (within p q lo hi) o = tt
  before-rising (outside p q lo hi) o = tt
  before-rising (event p s) o = tt

  ascends_lower : (rows : List Row) → All (Met run e) rows → (x y : ℕ) → T (ascends rows x y) → e x < e y
  unfolding ascends
  ascends_lower rows o x y t =
      let b = both (not (eqb x y)) (leads (gather before_link rows) x y) t in
      ⊎_elim (λ q. absurd (neqb→neq x y b.0 q)) (λ l. l)
      (leads_in_lem Rising (λ x. inl refl) rising-chain (gather before_link rows)
      (all-gather (λ (l : Link). Rising l.from l.to) before_link rows (all_map before-rising rows o)) x y b.1)

-- what the tests of a far end say
pub end_tests : (beyond ordered : ℕ → Bool) (q edge z : ℕ) → T (may_end beyond ordered q edge z) → T (beyond z) × T (not (eqb z q)) × (T (eqb q edge) ⊎ T (ordered z))
unfolding may_end
end_tests beyond ordered q edge z t =
    let b = both (beyond z && not (eqb z q)) (eqb q edge || ordered z) t in
    let d = both (beyond z) (not (eqb z q)) b.0 in (d.0, d.1, either (eqb q edge) (ordered z) b.1)

-- the first that passes, or d, has a property that both have
pub first_or-has : (P : ℕ → Type 0) (d : ℕ) (f : ℕ → Bool) → P d → (zs : List ℕ) → ((z : ℕ) → T (elem z zs) → T (f z) → P z) → P (first_or d f zs)
unfolding first_or elem
first_or-has P d f h [] k = h
first_or-has P d f h (z ∷ zs) k =
    ⊎_elim (λ t. rw (is_true (f z) t) (k z (left (eqb z z) (elem z zs) (eq→eqb z z refl)) t))
    (λ n. rw (is_false (f z) n) (first_or-has P d f h zs (λ y t s. k y (right (eqb y z) (elem y zs) t) s)))
    (tell (f z))

-- The antecedent's points are the base's, and so are 0 and 99.
pub far_end_base : (base : ℕ → Type 0) → base 0 → base 99 → (antecedent c : List Row) → ((m : ℕ) → T (elem m (points antecedent)) → base m) → (k : Row) → base (far_end antecedent c k)
unfolding far_end
far_end_base base b0 b99 antecedent c h (point p s) = b0
far_end_base base b0 b99 antecedent c h (next p q s) = first_or-has base 99 (ends_next antecedent c p q) b99 (points antecedent) (λ z i t. h z i)
far_end_base base b0 b99 antecedent c h (last p q s) = first_or-has base 0 (ends_last antecedent c p q) b0 (points antecedent) (λ z i t. h z i)
far_end_base base b0 b99 antecedent c h (earlier p q a) = b0
far_end_base base b0 b99 antecedent c h (later p q a) = b0
far_end_base base b0 b99 antecedent c h (before p q) = b0
far_end_base base b0 b99 antecedent c h (apart p q) = b0
far_end_base base b0 b99 antecedent c h (same p q) = b0
far_end_base base b0 b99 antecedent c h (free p q s) = b0
far_end_base base b0 b99 antecedent c h (within p q lo hi) = b0
far_end_base base b0 b99 antecedent c h (outside p q lo hi) = b0
far_end_base base b0 b99 antecedent c h (event p s) = b0

-- lines between a lower position and a higher one are above the one and below the other
above : (w x y : ℕ) → w < y → Between w y x → w < x
above w x y h (up a b) = a
above w x y h (down a b) = absurd (omega arith)

under : (w x y : ℕ) → w < y → Between w y x → x < y
under w x y h (up a b) = b
under w x y h (down a b) = absurd (omega arith)

-- Over an antecedent that is met.
module _ (run : Run) (e : Env) (F : Fixed run e) (antecedent : List Row) (o : All (Met run e) antecedent) where
  -- its points are on lines
  pub antecedent-on : (m : ℕ) → T (elem m (points antecedent)) → IsLine run (e m)
  antecedent-on m t =
      elem_at (λ (p : ℕ). IsLine run (e p)) m (points antecedent) t (all-points (λ (p : ℕ). IsLine run (e p)) antecedent (all_map (λ k v. v.1) antecedent o))

  -- its order has z after q, or before it
  pub after-q : (c : List Row) (p q z : ℕ) → T (elem z (points antecedent)) → T (ends_next antecedent c p q z) → e q < e z
  after-q c p q z i t =
      ⊎_elim (λ s. omega (arith, ap e (eqb→eq q 0 s), F.start, antecedent-on z i)) (λ s. ascends_lower run e antecedent o q z s)
      (end_tests (ascends c p) (ascends antecedent q) q 0 z t).2

  pub before-q : (c : List Row) (p q z : ℕ) → T (elem z (points antecedent)) → T (ends_last antecedent c p q z) → e z < e q
  before-q c p q z i t =
      ⊎_elim (λ s. omega (arith, ap e (eqb→eq q 99 s), F.close, antecedent-on z i)) (λ s. ascends_lower run e antecedent o z q s)
      (end_tests (λ z. ascends c z p) (λ z. ascends antecedent z q) q 99 z t).2

  pub far_end_on_its_side : (c : List Row) (k : Row) → OnItsSide run e (far_end antecedent c k) k
  unfolding far_end
  far_end_on_its_side c (point p s) = tt
  far_end_on_its_side c (next p q s) =
      first_or-has (λ z. (x : ℕ) → IsLine run x → Between (e q) (e z) x → e q < x) 99 (ends_next antecedent c p q) to-close (points antecedent)
      (λ z i t x l. above (e q) x (e z) (after-q c p q z i t))
    where
      to-close : (x : ℕ) → IsLine run x → Between (e q) (e 99) x → e q < x
      to-close x l (up a b) = a
      to-close x l (down a b) = absurd (omega (arith, F.close))
  far_end_on_its_side c (last p q s) =
      first_or-has (λ z. (x : ℕ) → IsLine run x → Between (e z) (e q) x → x < e q) 0 (ends_last antecedent c p q) from_start (points antecedent)
      (λ z i t x l. under (e z) x (e q) (before-q c p q z i t))
    where
      from_start : (x : ℕ) → IsLine run x → Between (e 0) (e q) x → x < e q
      from_start x l (up a b) = b
      from_start x l (down a b) = absurd (omega (arith, F.start))
  far_end_on_its_side c (earlier p q a) = tt
  far_end_on_its_side c (later p q a) = tt
  far_end_on_its_side c (before p q) = tt
  far_end_on_its_side c (apart p q) = tt
  far_end_on_its_side c (same p q) = tt
  far_end_on_its_side c (free p q s) = tt
  far_end_on_its_side c (within p q lo hi) = tt
  far_end_on_its_side c (outside p q lo hi) = tt
  far_end_on_its_side c (event p s) = tt

-- Over a consequent that is met, of which k is a row: its order has z beyond p.
module _ (run : Run) (e : Env) (F : Fixed run e) (antecedent c : List Row) (h : All (Met run e) c) where
  pub far_end_short_of : (k : Row) → Met run e k → ShortOf e (far_end antecedent c k) k
  unfolding far_end
  far_end_short_of (point p s) o = tt
  far_end_short_of (next p q s) o =
      first_or-has (λ z. e p < e z) 99 (ends_next antecedent c p q) (omega (arith, F.close, o.1.0)) (points antecedent)
      (λ z i t. ascends_lower run e c h p z (end_tests (ascends c p) (ascends antecedent q) q 0 z t).0)
  far_end_short_of (last p q s) o =
      first_or-has (λ z. e z < e p) 0 (ends_last antecedent c p q) (omega (arith, F.start, o.1.0)) (points antecedent)
      (λ z i t. ascends_lower run e c h z p (end_tests (λ z. ascends c z p) (λ z. ascends antecedent z q) q 99 z t).0)
  far_end_short_of (earlier p q a) o = tt
  far_end_short_of (later p q a) o = tt
  far_end_short_of (before p q) o = tt
  far_end_short_of (apart p q) o = tt
  far_end_short_of (same p q) o = tt
  far_end_short_of (free p q s) o = tt
  far_end_short_of (within p q lo hi) o = tt
  far_end_short_of (outside p q lo hi) o = tt
  far_end_short_of (event p s) o = tt

-- The far ends of document 02, and the long ones, for which there are no rows to lead anywhere.
module _ (base : ℕ → Type 0) (b0 : base 0) (b99 : base 99) (antecedent : List Row) where
  pub short-ends : ((m : ℕ) → T (elem m (points antecedent)) → base m) → FarEnds base antecedent (far_end antecedent)
  short-ends ba = record {
    in_base = λ c k. far_end_base base b0 b99 antecedent c ba k;
    on_its_side = λ run e F o c k. far_end_on_its_side run e F antecedent o c k;
    short_of = λ run e F c h k v. far_end_short_of run e F antecedent c h k v;
  }

  pub long-ends : FarEnds base antecedent long_end
  unfolding long_end points elem
  long-ends = record {
    in_base = λ c k. far_end_base base b0 b99 [] [] (λ m t. absurd t) k;
    on_its_side = λ run e F o c k. far_end_on_its_side run e F [] tt [] k;
    short_of = λ run e F c h k v. far_end_short_of run e F [] [] tt k v;
  }
