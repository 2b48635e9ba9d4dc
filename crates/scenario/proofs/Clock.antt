-- WITHIN and what the clock drops (A9): a limit is met exactly when the times keep it whatever fractions were dropped; how code says it, and where document 01's reading differs.
-- Assumes nothing.
use mathlib.Core.Path.{◌≡◌, refl, sym, ◌∙◌, ap, ap₂, subst}
use mathlib.Core.Logic.{◌↔◌, ◌⊎◌, inl, inr, ⊎_elim}
use mathlib.Core.Bool.{Bool, true, false, not, ◌&&◌, ◌||◌, cond}
use Prim.Native.Nat.{ℕ, ◌+◌, ◌-◌, ◌*◌, ◌≤◌, ◌<◌}
use native.Mathlib.Omega.{arith}
use native.Mathlib.Nat.{mul-add, mul-one, mul-zero, mul-le-mul_left}
use lib.Dec.{ltb, leb, eqb, T, ltb→lt, lt→ltb, leb→le, le→leb, eqb→eq, T_not, not_T}
use borrow.Author.Tests.{eq-eqb, ne_eqb, le-leb, lt-leb}
use Rattle.scenario.specs.Log.{Log, tick, gap, sure, near_at}
use Rattle.scenario.specs.Clock.{time, Ascending, Fractions, InLimits, Surely, plain_at, AtLimit}
use Rattle.scenario.proofs.Base.{both, pair, either, left, right, tell, T_eq, eq→eqb, neqb→neq, Order, lower, level, upper, order}

-- two tests that follow from each other are equal
pub same_test : (a b : Bool) → (T a → T b) → (T b → T a) → a ≡ b
same_test true true f g = refl
same_test true false f g = absurd (f tt)
same_test false true f g = absurd (g tt)
same_test false false f g = refl

sure-put : (lo hi d : ℕ) → d + 1 ≤ hi → lo ≤ d - 1 → T (sure lo hi d)
unfolding sure
sure-put lo hi d h l = pair (leb (d + 1) hi) (leb lo (d - 1)) (le→leb (d + 1) hi h) (le→leb lo (d - 1) l)

sure_get : (lo hi d : ℕ) → T (sure lo hi d) → (d + 1 ≤ hi) × (lo ≤ d - 1)
unfolding sure
sure_get lo hi d t = let b = both (leb (d + 1) hi) (leb lo (d - 1)) t in (leb→le (d + 1) hi b.0, leb→le lo (d - 1) b.1)

gap_swap : (s t : ℕ) → gap s t ≡ gap t s
gap_swap s t = omega arith

-- What is met on one position, and on two
module _ (log : Log) (x y lo hi : ℕ) where
  near_level : x ≡ y → near_at log x y lo hi ≡ (leb lo 0 && leb 0 hi)
  unfolding near_at
  near_level e = rw (eq-eqb x y e)

  level_get : x ≡ y → T (near_at log x y lo hi) → lo ≤ 0
  level_get e t = leb→le lo 0 (both (leb lo 0) (leb 0 hi) (T_eq (near_level e) t)).0

  level_put : x ≡ y → lo ≤ 0 → T (near_at log x y lo hi)
  level_put e h = T_eq (sym (near_level e)) (pair (leb lo 0) (leb 0 hi) (le→leb lo 0 h) (le→leb 0 hi (omega arith)))

  pub near_apart : (x ≡ y → ⊥) → near_at log x y lo hi ≡ sure lo hi (gap (tick log x) (tick log y))
  unfolding near_at
  near_apart n = rw (ne_eqb x y n)

  apart_get : (x ≡ y → ⊥) → T (near_at log x y lo hi) → (gap (tick log x) (tick log y) + 1 ≤ hi) × (lo ≤ gap (tick log x) (tick log y) - 1)
  apart_get n t = sure_get lo hi (gap (tick log x) (tick log y)) (T_eq (near_apart n) t)

  apart_put : (x ≡ y → ⊥) → gap (tick log x) (tick log y) + 1 ≤ hi → lo ≤ gap (tick log x) (tick log y) - 1 → T (near_at log x y lo hi)
  apart_put n h l = T_eq (sym (near_apart n)) (sure-put lo hi (gap (tick log x) (tick log y)) h l)

-- How code says it: without d + 1, which the bits of a tick need not hold.

-- "Points on one position have distance exactly 0": the limits are kept when the lower is 0.
pub near-one : (log : Log) (x lo hi : ℕ) → near_at log x x lo hi ≡ eqb lo 0
near-one log x lo hi =
    same_test (near_at log x x lo hi) (eqb lo 0)
    (λ t. eq→eqb lo 0 (omega (arith, level_get log x x lo hi refl t)))
    (λ t. level_put log x x lo hi refl (omega (arith, eqb→eq lo 0 t)))

-- d < b and (a = 0 or a < d)
pub without_overflow : (lo hi d : ℕ) → sure lo hi d ≡ (ltb d hi && (eqb lo 0 || ltb lo d))
without_overflow lo hi d = same_test (sure lo hi d) (ltb d hi && (eqb lo 0 || ltb lo d)) there back
  where
    above : (lo ≡ 0 → ⊥) → lo ≤ d - 1 → lo < d
    above n h = omega arith

    there : T (sure lo hi d) → T (ltb d hi && (eqb lo 0 || ltb lo d))
    there t =
        let s = sure_get lo hi d t in
        pair (ltb d hi) (eqb lo 0 || ltb lo d) (lt→ltb d hi (omega (arith, s.0)))
        (⊎_elim (left (eqb lo 0) (ltb lo d)) (λ n. right (eqb lo 0) (ltb lo d) (lt→ltb lo d (above (neqb→neq lo 0 n) s.1))) (tell (eqb lo 0)))

    back : T (ltb d hi && (eqb lo 0 || ltb lo d)) → T (sure lo hi d)
    back t =
        let b = both (ltb d hi) (eqb lo 0 || ltb lo d) t in
        sure-put lo hi d (omega (arith, ltb→lt d hi b.0))
        (⊎_elim (λ e. omega (arith, eqb→eq lo 0 e)) (λ l. omega (arith, ltb→lt lo d l)) (either (eqb lo 0) (ltb lo d) b.1))

-- Multiples

module _ (u : ℕ) where
  times_level : (m n : ℕ) → m ≤ n → u * m ≤ u * n
  times_level m n h = mul-le-mul_left u h

  times_more : (m n : ℕ) → m + 1 ≤ n → u * m + u ≤ u * n
  times_more m n h = omega (arith, mul-le-mul_left u h, mul-add u m 1, mul-one u)

  times_none : (m : ℕ) → m ≤ 0 → u * m ≡ 0
  times_none m h = ap (λ (k : ℕ). u * k) none ∙ mul-zero u
    where
      none : m ≡ 0
      none = omega arith

-- Sure is kept, whatever was dropped

-- of the ticks s and s + d, with the fractions f and g
kept_up : (u s d f g lo hi : ℕ) → f < u → g < u → d + 1 ≤ hi → lo ≤ d - 1 → InLimits u lo hi (gap (u * s + f) (u * (s + d) + g))
kept_up u s d f g lo hi hf hg h l = record { least = low (order d 0); most = omega (arith, times_more u d hi h, mul-add u s d) }
  where
    low : Order d 0 → u * lo ≤ gap (u * s + f) (u * (s + d) + g)
    low (lower i) = absurd (omega arith)
    low (level e) = omega (arith, times_none u lo (omega arith))
    low (upper i) = omega (arith, times_more u lo d (omega arith), mul-add u s d)

kept_either : (u s t f g lo hi : ℕ) → f < u → g < u → gap s t + 1 ≤ hi → lo ≤ gap s t - 1 → InLimits u lo hi (gap (u * s + f) (u * t + g))
kept_either u s t f g lo hi hf hg h l = go (order s t)
  where
    rising : (s t f g : ℕ) → f < u → g < u → gap s t + 1 ≤ hi → lo ≤ gap s t - 1 → s ≤ t → InLimits u lo hi (gap (u * s + f) (u * t + g))
    rising s t f g hf hg h l o = subst (λ (k : ℕ). InLimits u lo hi (gap (u * s + f) (u * k + g))) up (kept_up u s (t - s) f g lo hi hf hg (omega arith) (omega arith))
      where
        up : s + (t - s) ≡ t
        up = omega arith

    falling : t ≤ s → InLimits u lo hi (gap (u * s + f) (u * t + g))
    falling o = subst (InLimits u lo hi) (gap_swap (u * t + g) (u * s + f)) (rising t s g f hg hf (omega (arith, gap_swap s t)) (omega (arith, gap_swap s t)) o)

    go : Order s t → InLimits u lo hi (gap (u * s + f) (u * t + g))
    go (lower o) = rising s t f g hf hg h l (omega arith)
    go (level e) = rising s t f g hf hg h l (omega arith)
    go (upper o) = falling (omega arith)

-- The fractions that undo what is not sure

-- everything up to x has lost nothing, and what comes after it nearly a millisecond
late-after : (u x : ℕ) → ℕ → ℕ
late-after u x z = cond (leb z x) 0 (u - 1)

-- everything that shows up to the tick s has lost nearly a millisecond, and what shows more nothing
late_until : (u s : ℕ) → Log → ℕ → ℕ
late_until u s log z = cond (leb (tick log z) s) (u - 1) 0

module _ (u : ℕ) (two : 2 ≤ u) (log : Log) (rises : Ascending (tick log)) where
  module _ (x : ℕ) where
    after-low : (z : ℕ) → z ≤ x → late-after u x z ≡ 0
    unfolding late-after
    after-low z h = rw (le-leb z x h)

    after-high : (z : ℕ) → x < z → late-after u x z ≡ u - 1
    unfolding late-after
    after-high z h = rw (lt-leb z x h)

    after-fits : Fractions u log (late-after u x)
    after-fits = record { below = λ z. small z (order x z); ascending = λ a b h. on a b h (order x a) (order x b) }
      where
        small : (z : ℕ) → Order x z → late-after u x z < u
        small z (lower l) = omega (arith, after-high z l)
        small z (level e) = omega (arith, after-low z (omega arith))
        small z (upper l) = omega (arith, after-low z (omega arith))

        later : (a b : ℕ) → a ≤ b → late-after u x a ≤ late-after u x b → time u log (late-after u x) a ≤ time u log (late-after u x) b
        later a b h l = omega (arith, l, mul-le-mul_left u (rises a b h))

        on : (a b : ℕ) → a ≤ b → Order x a → Order x b → time u log (late-after u x) a ≤ time u log (late-after u x) b
        on a b h (lower l) (lower m) = later a b h (omega (arith, after-high a l, after-high b m))
        on a b h (lower l) (level e) = absurd (omega arith)
        on a b h (lower l) (upper m) = absurd (omega arith)
        on a b h (level e) o = later a b h (omega (arith, after-low a (omega arith)))
        on a b h (upper l) o = later a b h (omega (arith, after-low a (omega arith)))

  module _ (s : ℕ) where
    until_low : (z : ℕ) → tick log z ≤ s → late_until u s log z ≡ u - 1
    unfolding late_until
    until_low z h = rw (le-leb (tick log z) s h)

    until_high : (z : ℕ) → s < tick log z → late_until u s log z ≡ 0
    unfolding late_until
    until_high z h = rw (lt-leb (tick log z) s h)

    until_fits : Fractions u log (late_until u s log)
    until_fits = record { below = λ z. small z (order s (tick log z)); ascending = λ a b h. on a b (rises a b h) (order s (tick log a)) (order s (tick log b)) }
      where
        small : (z : ℕ) → Order s (tick log z) → late_until u s log z < u
        small z (lower l) = omega (arith, until_high z l)
        small z (level e) = omega (arith, until_low z (omega arith))
        small z (upper l) = omega (arith, until_low z (omega arith))

        late : (a b : ℕ) → tick log a ≤ tick log b → tick log a ≤ s → tick log b ≤ s → time u log (late_until u s log) a ≤ time u log (late_until u s log) b
        late a b h i j = omega (arith, until_low a i, until_low b j, mul-le-mul_left u h)

        over : (a b : ℕ) → tick log a ≤ s → s < tick log b → time u log (late_until u s log) a ≤ time u log (late_until u s log) b
        over a b i j = omega (arith, until_low a i, until_high b j, times_more u (tick log a) (tick log b) (omega arith))

        on : (a b : ℕ) → tick log a ≤ tick log b → Order s (tick log a) → Order s (tick log b) → time u log (late_until u s log) a ≤ time u log (late_until u s log) b
        on a b h (lower l) o = omega (arith, until_high a l, mul-le-mul_left u h)
        on a b h (level e) (lower m) = over a b (omega arith) m
        on a b h (level e) (level f) = late a b h (omega arith) (omega arith)
        on a b h (level e) (upper m) = late a b h (omega arith) (omega arith)
        on a b h (upper l) (lower m) = over a b (omega arith) m
        on a b h (upper l) (level e) = late a b h (omega arith) (omega arith)
        on a b h (upper l) (upper m) = late a b h (omega arith) (omega arith)

  -- InLimits whatever was dropped is sure

  module _ (lo hi : ℕ) where
    most-sure : (s t : ℕ) → s ≤ t → gap (u * s + 0) (u * t + (u - 1)) ≤ u * hi → gap s t + 1 ≤ hi
    most-sure s t o k = go (order hi (gap s t))
      where
        no : hi ≤ gap s t → gap s t + 1 ≤ hi
        no h = absurd (omega (arith, mul-add u s hi, times_level u (s + hi) t (omega arith)))

        go : Order hi (gap s t) → gap s t + 1 ≤ hi
        go (lower l) = no (omega arith)
        go (level e) = no (omega arith)
        go (upper l) = omega arith

    least_level : (a : ℕ) → u * lo ≤ gap a a → lo ≤ 0
    least_level a k = go (order lo 0)
      where
        go : Order lo 0 → lo ≤ 0
        go (lower l) = omega arith
        go (level e) = omega arith
        go (upper l) = absurd (omega (arith, times_more u 0 lo (omega arith)))

    least-sure : (s t : ℕ) → s < t → u * lo ≤ gap (u * s + (u - 1)) (u * t + 0) → lo ≤ gap s t - 1
    least-sure s t o k = go (order lo (gap s t))
      where
        no : gap s t ≤ lo → lo ≤ gap s t - 1
        no h = absurd (omega (arith, mul-add u s lo, times_level u t (s + lo) (omega arith), times_more u s t (omega arith)))

        go : Order lo (gap s t) → lo ≤ gap s t - 1
        go (lower l) = omega arith
        go (level e) = no (omega arith)
        go (upper l) = no (omega arith)

  module _ (lo hi x y : ℕ) where
    surely_up : x < y → Surely u log x y lo hi → T (sure lo hi (gap (tick log x) (tick log y)))
    surely_up h S =
        let s = tick log x in
        let t = tick log y in
        let o = rises x y (omega arith) in
        sure-put lo hi (gap s t) (most-sure lo hi s t o most) (least (order s t))
      where
        most : gap (u * tick log x + 0) (u * tick log y + (u - 1)) ≤ u * hi
        most = subst (λ (k : ℕ). k ≤ u * hi) (ap₂ (λ (f g : ℕ). gap (u * tick log x + f) (u * tick log y + g)) (after-low x x (omega arith)) (after-high x y h)) (S (late-after u x) (after-fits x)).most

        lost : (g : ℕ) → late_until u (tick log x) log y ≡ g → u * lo ≤ gap (u * tick log x + (u - 1)) (u * tick log y + g)
        lost g e = subst (λ (k : ℕ). u * lo ≤ k) (ap₂ (λ (f g : ℕ). gap (u * tick log x + f) (u * tick log y + g)) (until_low (tick log x) x (omega arith)) e) (S (late_until u (tick log x) log) (until_fits (tick log x))).least

        least : Order (tick log x) (tick log y) → lo ≤ gap (tick log x) (tick log y) - 1
        least (lower l) = least-sure lo hi (tick log x) (tick log y) l (lost 0 (until_high (tick log x) y l))
        least (level e) = omega (arith, least_level lo hi (u * tick log x + (u - 1)) (subst (λ (k : ℕ). u * lo ≤ gap (u * tick log x + (u - 1)) (u * k + (u - 1))) (sym e) (lost (u - 1) (until_low (tick log x) y (omega arith)))))
        least (upper l) = absurd (omega (arith, rises x y (omega arith)))

    surely_swap : Surely u log x y lo hi → Surely u log y x lo hi
    surely_swap S f F = subst (InLimits u lo hi) (gap_swap (time u log f x) (time u log f y)) (S f F)

  -- THE THEOREM. "A WITHIN limit shall count as kept only if the fraction cannot undo it", and if it cannot: in every unit of which a millisecond has two or more.
  pub within_surely : (x y lo hi : ℕ) → T (near_at log x y lo hi) ↔ Surely u log x y lo hi
  within_surely x y lo hi = (there (order x y), back (order x y))
    where
      apart : (x ≡ y → ⊥) → T (near_at log x y lo hi) → Surely u log x y lo hi
      apart n t f F =
          let s = apart_get log x y lo hi n t in
          kept_either u (tick log x) (tick log y) (f x) (f y) lo hi (F.below x) (F.below y) s.0 s.1

      there : Order x y → T (near_at log x y lo hi) → Surely u log x y lo hi
      there (lower l) t = apart (λ e. omega arith) t
      there (level e) t = λ f F. subst (λ (z : ℕ). InLimits u lo hi (gap (time u log f x) (time u log f z))) e
          (record { least = omega (arith, times_none u lo (level_get log x y lo hi e t)); most = omega arith })
      there (upper l) t = apart (λ e. omega arith) t

      back : Order x y → Surely u log x y lo hi → T (near_at log x y lo hi)
      back (lower l) S = T_eq (sym (near_apart log x y lo hi (λ e. omega arith))) (surely_up lo hi x y l S)
      back (level e) S =
          let kept = (S (late-after u x) (after-fits x)).least in
          let none = least_level lo hi (time u log (late-after u x) x) (subst (λ (z : ℕ). u * lo ≤ gap (time u log (late-after u x) x) (time u log (late-after u x) z)) (sym e) kept) in
          level_put log x y lo hi e none
      back (upper l) S =
          T_eq (ap (sure lo hi) (gap_swap (tick log y) (tick log x)) ∙ sym (near_apart log x y lo hi (λ e. omega arith)))
          (surely_up lo hi y x l (surely_swap lo hi x y S))

-- What A9 changed

module _ (log : Log) (x y lo hi : ℕ) where
  plain_get : T (plain_at log x y lo hi) → (lo ≤ gap (tick log x) (tick log y)) × (gap (tick log x) (tick log y) ≤ hi)
  unfolding plain_at
  plain_get t =
      let d = gap (tick log x) (tick log y) in
      let b = both (leb lo d) (leb d hi) t in
      (leb→le lo d b.0, leb→le d hi b.1)

  plain-put : lo ≤ gap (tick log x) (tick log y) → gap (tick log x) (tick log y) ≤ hi → T (plain_at log x y lo hi)
  unfolding plain_at
  plain-put l h = let d = gap (tick log x) (tick log y) in pair (leb lo d) (leb d hi) (le→leb lo d l) (le→leb d hi h)

  -- what is met was met
  pub near-was-plain : T (near_at log x y lo hi) → T (plain_at log x y lo hi)
  near-was-plain t = go (order x y)
    where
      two : (x ≡ y → ⊥) → T (plain_at log x y lo hi)
      two n = let s = apart_get log x y lo hi n t in plain-put (omega (arith, s.1)) (omega (arith, s.0))

      go : Order x y → T (plain_at log x y lo hi)
      go (lower l) = two (λ e. omega arith)
      go (level e) = plain-put (omega (arith, level_get log x y lo hi e t)) (omega (arith, ap (tick log) e))
      go (upper l) = two (λ e. omega arith)

  -- what is met no longer stands on two positions, at a limit itself
  pub at-limit : T (plain_at log x y lo hi) → T (not (near_at log x y lo hi)) → AtLimit log x y lo hi
  at-limit p n = go (order x y)
    where
      d : ℕ
      d = gap (tick log x) (tick log y)

      two : (x ≡ y → ⊥) → AtLimit log x y lo hi
      two apart = record { two = apart; at = by (order d hi) (order lo d) (order lo 0) }
        where
          between : d + 1 ≤ hi → lo ≤ d - 1 → ⊥
          between i j = T_not (near_at log x y lo hi) n (apart_put log x y lo hi apart i j)

          by : Order d hi → Order lo d → Order lo 0 → (d ≡ hi) ⊎ ((d ≡ lo) × (0 < lo))
          by (level e) o z = inl e
          by (upper l) o z = absurd (omega (arith, (plain_get p).1))
          by (lower l) (lower m) z = absurd (between (omega arith) (omega arith))
          by (lower l) (level e) (lower i) = absurd (omega arith)
          by (lower l) (level e) (level i) = absurd (between (omega arith) (omega arith))
          by (lower l) (level e) (upper i) = inr (sym e, i)
          by (lower l) (upper m) z = absurd (omega (arith, (plain_get p).0))

      go : Order x y → AtLimit log x y lo hi
      go (lower l) = two (λ e. omega arith)
      go (level e) = absurd (T_not (near_at log x y lo hi) n (level_put log x y lo hi e (omega (arith, (plain_get p).0, ap (tick log) e))))
      go (upper l) = two (λ e. omega arith)

  -- and there it was met, and is no longer
  pub no_longer : lo ≤ hi → AtLimit log x y lo hi → T (plain_at log x y lo hi) × T (not (near_at log x y lo hi))
  no_longer h A = (⊎_elim (λ e. plain-put (omega (arith, e)) (omega (arith, e))) (λ e. plain-put (omega (arith, e.0)) (omega (arith, e.0))) A.at, not_T (near_at log x y lo hi) undone)
    where
      undone : T (near_at log x y lo hi) → ⊥
      undone t =
          let s = apart_get log x y lo hi A.two t in
          ⊎_elim (λ e. omega (arith, e, s.0)) (λ e. omega (arith, e.0, e.1, s.1)) A.at
