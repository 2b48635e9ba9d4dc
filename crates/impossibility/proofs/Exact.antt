-- The tests are the three rules, and no others.
-- Assumes nothing.
use mathlib.Core.Path.{refl}
use mathlib.Core.Logic.{◌⊎◌, inl, inr, ⊎_elim, ◌↔◌}
use mathlib.Core.Bool.{Bool, true, false, not, ◌||◌}
use mathlib.Core.List.Memᴰ
use mathlib.Core.List.{List, ◌++◌, Memᴰ}
use Prim.Native.Nat.{ℕ, ◌<◌}
use lib.Dec.{T, T_not, not_T}
use Rattle.scenario.specs.Links.{Link, link, leads}
use Rattle.scenario.specs.Rows.{Row, point, next, last, earlier, later, before, apart, same, free, within, outside, event, event_count, below}
use Rattle.scenario.specs.Log.{in_set}
use Rattle.scenario.specs.Reading.{All}
use Rattle.scenario.proofs.Base.{either, left, right, all-at, below_at, below_get}
use Rattle.scenario.proofs.Place.{all_get}
use Rattle.scenario.proofs.Links.{mem_all, gather-put, gather_get, leads-link, leads_in_lem, leads-self, leads-chain}
use Rattle.impossibility.specs.Impossible.{Joined, self, row, back, chain, Lower, by_before, by_next, by_last, from_joined, to_joined, on, Asks, a_point, a_next, a_last, an_event, Lacks, Impossible, no_event, parted, circle, SetFor, set_for, part, joins, lowers, aparts, sets, joined, shared, no_common_event, apart_inside, circular, impossible}
use Rattle.impossibility.proofs.Tests.{any_get, any-put, all-not}

-- What a row of the list says is so

abbrev IsSame : List Row → Link → Type 0
IsSame rows l = Memᴰ (same l.from l.to) rows ⊎ Memᴰ (same l.to l.from) rows

record Heard (rows : List Row) (k : Row) : Type 0 where
  joins : All (IsSame rows) (part k).joins
  lowers : All (λ (l : Link). Lower rows l.from l.to) (part k).lowers
  aparts : All (λ (l : Link). Memᴰ (apart l.from l.to) rows) (part k).aparts
  sets : All (λ (h : SetFor). Asks rows h.at h.set) (part k).sets

heard : (rows : List Row) (k : Row) → Memᴰ k rows → Heard rows k
heard rows (point p s) m = record { joins = tt; lowers = tt; aparts = tt; sets = (a_point m, tt) }
heard rows (next p q s) m = record { joins = tt; lowers = (by_next m, tt); aparts = tt; sets = (a_next m, tt) }
heard rows (last p q s) m = record { joins = tt; lowers = (by_last m, tt); aparts = tt; sets = (a_last m, tt) }
heard rows (earlier p q a) m = record { joins = tt; lowers = tt; aparts = tt; sets = tt }
heard rows (later p q a) m = record { joins = tt; lowers = tt; aparts = tt; sets = tt }
heard rows (before p q) m = record { joins = tt; lowers = (by_before m, tt); aparts = tt; sets = tt }
heard rows (apart p q) m = record { joins = tt; lowers = tt; aparts = (m, tt); sets = tt }
heard rows (same p q) m = record { joins = (inl m, (inr m, tt)); lowers = tt; aparts = tt; sets = tt }
heard rows (free p q s) m = record { joins = tt; lowers = tt; aparts = tt; sets = tt }
heard rows (within p q lo hi) m = record { joins = tt; lowers = tt; aparts = tt; sets = tt }
heard rows (outside p q lo hi) m = record { joins = tt; lowers = tt; aparts = tt; sets = tt }
heard rows (event p s) m = record { joins = tt; lowers = tt; aparts = tt; sets = (an_event m, tt) }

module _ (rows : List Row) where
  join_get : {l : Link} → Memᴰ l (joins rows) → IsSame rows l
  join_get m = let g = gather_get (λ (k : Row). (part k).joins) rows m in all-at (IsSame rows) g.2 (heard rows g.0 g.1).joins

  lower_get : {l : Link} → Memᴰ l (lowers rows) → Lower rows l.from l.to
  lower_get m = let g = gather_get (λ (k : Row). (part k).lowers) rows m in all-at (λ (l : Link). Lower rows l.from l.to) g.2 (heard rows g.0 g.1).lowers

  apart_get : {l : Link} → Memᴰ l (aparts rows) → Memᴰ (apart l.from l.to) rows
  apart_get m =
      let g = gather_get (λ (k : Row). (part k).aparts) rows m in
      all-at (λ (l : Link). Memᴰ (apart l.from l.to) rows) g.2 (heard rows g.0 g.1).aparts

  set_get : {h : SetFor} → Memᴰ h (sets rows) → Asks rows h.at h.set
  set_get m = let g = gather_get (λ (k : Row). (part k).sets) rows m in all-at (λ (h : SetFor). Asks rows h.at h.set) g.2 (heard rows g.0 g.1).sets

  -- and is said
  join_put : {k : Row} {l : Link} → Memᴰ k rows → Memᴰ l (part k).joins → Memᴰ l (joins rows)
  join_put = gather-put (λ (k : Row). (part k).joins) rows

  lower_put : {k : Row} {l : Link} → Memᴰ k rows → Memᴰ l (part k).lowers → Memᴰ l (lowers rows)
  lower_put = gather-put (λ (k : Row). (part k).lowers) rows

  set-put : (p s : ℕ) → Asks rows p s → Memᴰ (set_for p s) (sets rows)
  set-put p s (a_point m) = gather-put (λ (k : Row). (part k).sets) rows m (Memᴰ.head refl)
  set-put p s (a_next m) = gather-put (λ (k : Row). (part k).sets) rows m (Memᴰ.head refl)
  set-put p s (a_last m) = gather-put (λ (k : Row). (part k).sets) rows m (Memᴰ.head refl)
  set-put p s (an_event m) = gather-put (λ (k : Row). (part k).sets) rows m (Memᴰ.head refl)

  -- Joined

  of_same : (p q : ℕ) → IsSame rows (link p q) → Joined rows p q
  of_same p q (inl m) = row m
  of_same p q (inr m) = back (row m)

  joined_get : (p q : ℕ) → T (joined rows p q) → Joined rows p q
  unfolding joined
  joined_get = leads_in_lem (Joined rows) (λ p. self p) (λ p q z x y. chain x y) (joins rows)
      (mem_all (λ (l : Link). Joined rows l.from l.to) (joins rows) (λ l m. of_same l.from l.to (join_get m)))

  -- the links of SAME rows go both ways
  turned : (p q : ℕ) → T (leads (joins rows) p q) → T (leads (joins rows) q p)
  turned = leads_in_lem (λ p q. T (leads (joins rows) q p)) (leads-self (joins rows)) (λ p q z x y. leads-chain (joins rows) z q p y x) (joins rows)
      (mem_all (λ (l : Link). T (leads (joins rows) l.to l.from)) (joins rows) (λ l m. go l (join_get m)))
    where
      go : (l : Link) → IsSame rows l → T (leads (joins rows) l.to l.from)
      go l (inl m) = leads-link (joins rows) (join_put m (Memᴰ.tail (Memᴰ.head refl)))
      go l (inr m) = leads-link (joins rows) (join_put m (Memᴰ.head refl))

  joined-put : (p q : ℕ) → Joined rows p q → T (joined rows p q)
  unfolding joined
  joined-put p q (self z) = leads-self (joins rows) z
  joined-put p q (row m) = leads-link (joins rows) (join_put m (Memᴰ.head refl))
  joined-put p q (back x) = turned q p (joined-put q p x)
  joined-put p q (chain {q = z} x y) = leads-chain (joins rows) p z q (joined-put p z x) (joined-put z q y)

  -- "lower than" leads back

  abbrev ways : List Link
  ways = lowers rows ++ joins rows

  abbrev Way : ℕ → ℕ → Type 0
  Way p q = Joined rows p q ⊎ Lower rows p q

  way-chain : (p q z : ℕ) → Way p q → Way q z → Way p z
  way-chain p q z (inl x) (inl y) = inl (chain x y)
  way-chain p q z (inl x) (inr y) = inr (from_joined x y)
  way-chain p q z (inr x) (inl y) = inr (to_joined x y)
  way-chain p q z (inr x) (inr y) = inr (on x y)

  way_get : (p q : ℕ) → T (leads ways p q) → Way p q
  way_get = leads_in_lem Way (λ p. inl (self p)) way-chain ways
      (mem_all (λ (l : Link). Way l.from l.to) ways
      (λ l m. ⊎_elim (λ n. inr (lower_get n)) (λ n. inl (of_same l.from l.to (join_get n))) (Memᴰ.append_cases (lowers rows) m)))

  way-joined : (p q : ℕ) → Joined rows p q → T (leads ways p q)
  unfolding joined
  way-joined p q j = leads_in_lem (λ x y. T (leads ways x y)) (leads-self ways) (leads-chain ways) (joins rows)
      (mem_all (λ (l : Link). T (leads ways l.from l.to)) (joins rows) (λ l m. leads-link ways (Memᴰ.append_right (lowers rows) m)))
      p q (joined-put p q j)

  -- a way that is lower has a step that is
  record Step (p q : ℕ) : Type 0 where
    by : Link
    mem : Memᴰ by (lowers rows)
    there : T (leads ways p by.from)
    thence : T (leads ways by.to q)

  one-step : (l : Link) → Memᴰ l (lowers rows) → Step l.from l.to
  one-step l m = record { by = l; mem = m; there = leads-self ways l.from; thence = leads-self ways l.to }

  step_of : (p q : ℕ) → Lower rows p q → Step p q
  step_of p q (by_before m) = one-step (link p q) (lower_put m (Memᴰ.head refl))
  step_of p q (by_next m) = one-step (link p q) (lower_put m (Memᴰ.head refl))
  step_of p q (by_last m) = one-step (link p q) (lower_put m (Memᴰ.head refl))
  step_of p q (from_joined {q = z} x y) =
      let s = step_of z q y in
      record { by = s.by; mem = s.mem; there = leads-chain ways p z s.by.from (way-joined p z x) s.there; thence = s.thence }
  step_of p q (to_joined {q = z} x y) =
      let s = step_of p z x in
      record { by = s.by; mem = s.mem; there = s.there; thence = leads-chain ways s.by.to z q s.thence (way-joined z q y) }
  step_of p q (on {q = z} x y) =
      let s = step_of p z x in
      let t = step_of z q y in
      record {
        by = s.by;
        mem = s.mem;
        there = s.there;
        thence = leads-chain ways s.by.to z q s.thence (leads-chain ways z t.by.from q t.there
            (leads-chain ways t.by.from t.by.to q (leads-link ways (Memᴰ.append_left (joins rows) t.mem)) t.thence));
      }

  circular_get : T (circular rows) → Impossible rows
  unfolding circular
  circular_get t =
      let g = any_get (λ (l : Link). leads ways l.to l.from) (lowers rows) t in
      go g.0 g.1 (way_get g.0.to g.0.from g.2)
    where
      go : (l : Link) → Memᴰ l (lowers rows) → Way l.to l.from → Impossible rows
      go l m (inl j) = circle (to_joined (lower_get m) j)
      go l m (inr k) = circle (on (lower_get m) k)

  circular-put : (p : ℕ) → Lower rows p p → T (circular rows)
  unfolding circular
  circular-put p k =
      let s = step_of p p k in
      any-put (λ (l : Link). leads ways l.to l.from) (lowers rows) s.mem (leads-chain ways s.by.to p s.by.from s.thence s.there)

  -- An APART row inside one point

  apart_inside_get : T (apart_inside rows) → Impossible rows
  unfolding apart_inside
  apart_inside_get t =
      let g = any_get (λ (l : Link). joined rows l.from l.to) (aparts rows) t in
      parted (apart_get g.1) (joined_get g.0.from g.0.to g.2)

  apart_inside-put : (p q : ℕ) → Memᴰ (apart p q) rows → Joined rows p q → T (apart_inside rows)
  unfolding apart_inside
  apart_inside-put p q m j =
      any-put (λ (l : Link). joined rows l.from l.to) (aparts rows) (gather-put (λ (k : Row). (part k).aparts) rows m (Memᴰ.head refl)) (joined-put p q j)

  -- No event in common

  abbrev passes : (p x : ℕ) → SetFor → Bool
  passes p x h = not (joined rows p h.at) || in_set h.set x

  lacks_get : (p x : ℕ) → T (not (shared rows p x)) → Lacks rows p x
  unfolding shared
  lacks_get p x t =
      let g = all-not (passes p x) (sets rows) t in
      let h = neither (joined rows p g.0.at) (in_set g.0.set x) g.2 in
      record { at = g.0.at; set = g.0.set; asks = set_get g.1; joined = joined_get p g.0.at h.0; out = h.1 }
    where
      neither : (a b : Bool) → T (not (not a || b)) → T a × T (not b)
      neither true b t = (tt, t)
      neither false b t = absurd t

  lacks_put : (p x : ℕ) → Lacks rows p x → T (shared rows p x) → ⊥
  unfolding shared
  lacks_put p x k t =
      fails (joined rows p k.at) (in_set k.set x) (joined-put p k.at k.joined) k.out
      (all-at (λ (h : SetFor). T (passes p x h)) (set-put k.at k.set k.asks) (all_get (passes p x) (sets rows) t))
    where
      fails : (a b : Bool) → T a → T (not b) → T (not a || b) → ⊥
      fails true b s n t = T_not b n t
      fails false b s n t = absurd s

  no_common_event_get : T (no_common_event rows) → Impossible rows
  unfolding no_common_event
  no_common_event_get t =
      let g = any_get (λ (h : SetFor). not (below (shared rows h.at) event_count)) (sets rows) t in
      no_event (set_get g.1) (λ x b. lacks_get g.0.at x
      (not_T (shared rows g.0.at x) (λ s. T_not (below (shared rows g.0.at) event_count) g.2 (below_at (shared rows g.0.at) event_count x b s))))

  no_common_event-put : (p s : ℕ) → Asks rows p s → ((x : ℕ) → x < event_count → Lacks rows p x) → T (no_common_event rows)
  unfolding no_common_event
  no_common_event-put p s h k =
      any-put (λ (h : SetFor). not (below (shared rows h.at) event_count)) (sets rows) (set-put p s h)
      (not_T (below (shared rows p) event_count) (λ t. let g = below_get (shared rows p) event_count t in lacks_put p g.0 (k g.0 g.1) g.2))

  impossible_get : T (impossible rows) → Impossible rows
  unfolding impossible
  impossible_get t =
      ⊎_elim no_common_event_get (λ s. ⊎_elim apart_inside_get circular_get (either (apart_inside rows) (circular rows) s))
      (either (no_common_event rows) (apart_inside rows || circular rows) t)

  impossible-put : Impossible rows → T (impossible rows)
  unfolding impossible
  impossible-put (no_event {p} {s} h k) = left (no_common_event rows) (apart_inside rows || circular rows) (no_common_event-put p s h k)
  impossible-put (parted {p} {q} m j) =
      right (no_common_event rows) (apart_inside rows || circular rows) (left (apart_inside rows) (circular rows) (apart_inside-put p q m j))
  impossible-put (circle {p} k) =
      right (no_common_event rows) (apart_inside rows || circular rows) (right (apart_inside rows) (circular rows) (circular-put p k))

  pub impossible-is : T (impossible rows) ↔ Impossible rows
  impossible-is = (impossible_get, impossible-put)
