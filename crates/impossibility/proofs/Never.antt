-- Rows that contradict each other have no matching on any log that is read.
-- Assumes nothing.
use mathlib.Core.Path.{◌≡◌, refl, sym, ◌∙◌, subst}
use mathlib.Core.Bool.{Bool, ◌&&◌}
use mathlib.Core.List.{List, Memᴰ}
use Prim.Native.Nat.{ℕ, ◌-◌, ◌<◌}
use native.Mathlib.Omega.{arith}
use lib.ListN.{length, get_or}
use lib.Dec.{T, leb, leb→le, eqb→eq, ltb, ltb→lt, T_not}
use Rattle.scenario.specs.Rows.{Row, point, next, last, before, apart, same, event, event_count, Run, Env, clear, meets, points}
use Rattle.scenario.specs.Log.{Log, in_set, has_at, run_of}
use Rattle.scenario.specs.Sheet.{env, matching}
use Rattle.scenario.specs.Reading.{All, LogRead}
use Rattle.scenario.proofs.Base.{both, neqb→neq, all-at, all_get_d}
use Rattle.scenario.proofs.Place.{match_get}
use Rattle.impossibility.specs.Impossible.{Joined, self, row, back, chain, Lower, by_before, by_next, by_last, from_joined, to_joined, on, Asks, a_point, a_next, a_last, an_event, Impossible, no_event, parted, circle, impossible}
use Rattle.impossibility.proofs.Exact.{impossible-is}

-- Each line has one event, and is in the sets that have it.
record OneEvent (run : Run) : Type 0 where
  event : ℕ → ℕ
  known : (s x : ℕ) → T (run.has s x) → event x < event_count
  seen : (s x : ℕ) → T (run.has s x) → T (in_set s (event x))

-- where an environment meets all rows
module _ (run : Run) (L : OneEvent run) (e : Env) (rows : List Row) (o : All (λ (k : Row). T (meets run e k)) rows) where
  met : (k : Row) → Memᴰ k rows → T (meets run e k)
  met k m = all-at (λ (k : Row). T (meets run e k)) m o

  first : (a b c : Bool) → T (a && b && c) → T a
  first a b c t = (both a b (both (a && b) c t).0).0

  second : (a b c : Bool) → T (a && b && c) → T b
  second a b c t = (both a b (both (a && b) c t).0).1

  -- joined points have one position,
  joined_equal : (p q : ℕ) → Joined rows p q → e p ≡ e q
  unfolding meets
  joined_equal p q (self z) = refl
  joined_equal p q (row m) = eqb→eq (e p) (e q) (met (same p q) m)
  joined_equal p q (back x) = sym (joined_equal q p x)
  joined_equal p q (chain {q = z} x y) = joined_equal p z x ∙ joined_equal z q y

  -- a lower point a lower one,
  lower_less : (p q : ℕ) → Lower rows p q → e p < e q
  unfolding meets
  lower_less p q (by_before m) = ltb→lt (e p) (e q) (met (before p q) m)
  lower_less p q (by_next {s = s} m) = ltb→lt (e p) (e q) (first (ltb (e p) (e q)) (run.has s (e q)) (clear run s (e p) (e q)) (met (next q p s) m))
  lower_less p q (by_last {s = s} m) = ltb→lt (e p) (e q) (first (ltb (e p) (e q)) (run.has s (e p)) (clear run s (e p) (e q)) (met (last p q s) m))
  lower_less p q (from_joined {q = z} x y) = omega (arith, joined_equal p z x, lower_less z q y)
  lower_less p q (to_joined {q = z} x y) = omega (arith, lower_less p z x, joined_equal z q y)
  lower_less p q (on {q = z} x y) = omega (arith, lower_less p z x, lower_less z q y)

  -- and a point's event is in each of its sets
  asked : (p s : ℕ) → Asks rows p s → T (run.has s (e p))
  unfolding meets
  asked p s (a_point m) = met (point p s) m
  asked p s (a_next {q = q} m) = second (ltb (e q) (e p)) (run.has s (e p)) (clear run s (e q) (e p)) (met (next p q s) m)
  asked p s (a_last {q = q} m) = second (ltb (e p) (e q)) (run.has s (e p)) (clear run s (e p) (e q)) (met (last p q s) m)
  asked p s (an_event m) = met (event p s) m

  unmeetable : Impossible rows → ⊥
  unfolding meets
  unmeetable (no_event {p} {s} h k) =
      let x = L.event (e p) in
      let l = k x (L.known s (e p) (asked p s h)) in
      T_not (in_set l.set x) l.out
      (subst (λ (y : ℕ). T (in_set l.set (L.event y))) (sym (joined_equal p l.at l.joined)) (L.seen l.set (e l.at) (asked l.at l.set l.asks)))
  unmeetable (parted {p} {q} m j) = neqb→neq (e p) (e q) (met (apart p q) m) (joined_equal p q j)
  unmeetable (circle {p} k) = omega (arith, lower_less p p k)

-- a log's lines have one event each
one-event : (g : Log) → LogRead g → OneEvent (run_of g)
unfolding has_at
one-event g h = record { event = λ x. get_or g.events (x - 1) 0; known = known; seen = seen }
  where
    known : (s x : ℕ) → T (leb 1 x && leb x (length g.events) && in_set s (get_or g.events (x - 1) 0)) → get_or g.events (x - 1) 0 < event_count
    known s x t =
        let a = both (leb 1 x && leb x (length g.events)) (in_set s (get_or g.events (x - 1) 0)) t in
        let b = both (leb 1 x) (leb x (length g.events)) a.0 in
        all_get_d (λ (e : ℕ). e < event_count) 0 g.events h (x - 1) (omega (arith, leb→le 1 x b.0, leb→le x (length g.events) b.1))

    seen : (s x : ℕ) → T (leb 1 x && leb x (length g.events) && in_set s (get_or g.events (x - 1) 0)) → T (in_set s (get_or g.events (x - 1) 0))
    seen s x t = (both (leb 1 x && leb x (length g.events)) (in_set s (get_or g.events (x - 1) 0)) t).1

-- "An impossible pattern must match no accepted log at all."
pub never : (g : Log) → LogRead g → (rows : List Row) → T (impossible rows) → (zs : List ℕ) → T (matching (run_of g) rows zs) → ⊥
never g h rows t zs m = unmeetable (run_of g) (one-event g h) (env (run_of g) (points rows) zs) rows (match_get (run_of g) rows zs m).rows ((impossible-is rows).0 t)
