-- The log in memory: what its words say of positions, and that its run has the laws that the theorems on rows ask.
-- Assumes nothing.
use mathlib.Core.Path.{◌≡◌, refl, sym, ◌∙◌, ap, subst}
use mathlib.Core.Bool.{Bool, true, false, cond, and-false}
use mathlib.Core.List.{List, [], ◌∷◌}
use Prim.Native.Nat.{ℕ, zero, suc, ◌+◌, ◌-◌, ◌≤◌, ◌<◌, min, max}
use native.Mathlib.Omega.{arith}
use lib.ListN.{length, get_or, drop, length-take, length-drop, get_or-eq_default}
use lib.Seq.{get_or-take, get_or-drop}
use lib.Dec.{T, ltb, eqb, not_T}
use borrow.Author.Tests.{lt-ltb, le-ltb, le-leb, lt-leb, eq-eqb, ne_eqb, not-true, not-false}
use Rattle.scenario.specs.Rows.{between, clear, full_set, event_count}
use Rattle.scenario.specs.Log.{Log, in_set, has_at, tick, gap, sure, near_at, run_of}
use Rattle.scenario.proofs.Base.{is_true, is_false, get_or-all, Order, lower, level, upper, order}
use Rattle.scenario.proofs.Rules.{Laws, between_up, between_down, Between, up, down, between-way, clear-put, clear_get}
use Rattle.scenario.proofs.Logs.{laws, in_set-full}
use Rattle.scenario.proofs.Clock.{near-one, near_apart, without_overflow}
use Rattle.scenario.specs.Walk.{lowest_above}
use Rattle.run.specs.Words.{run_room, ticks_in, events_in, present, line_count}
use Rattle.std.specs.Prelude.{Option as Answer, is_some, not}
use Rattle.run.specs.Held.{Events, Held, part, log_at, bare, tick_of, near_of, log_held, run_held, position_of}
use Rattle.scenario.specs.Clock.{Ascending}
use Rattle.run.proofs.Words.{ticks-length, events-length}
use Rattle.run.proofs.Scans.{Next, nowhere, here, next_of}

-- the default does not matter in a list
pub default : (l : List ℕ) (i d d' : ℕ) → i < length l → get_or l i d ≡ get_or l i d'
default [] i d d' h = absurd (omega arith)
default (x ∷ xs) zero d d' h = refl
default (x ∷ xs) (suc i) d d' h = default xs i d d' (omega arith)

module _ (l : List ℕ) (n : ℕ) (room : n < length l) where
  pub part_length : length (part l n) ≡ n
  unfolding part
  part_length = simp (length-take, length-drop) (omega arith)

  pub part_at : (x d : ℕ) → 1 ≤ x → x ≤ n → get_or (part l n) (x - 1) d ≡ get_or l x 0
  unfolding part
  part_at x d lo hi =
      get_or-take n (drop 1 l) (x - 1) d (omega arith) ∙ get_or-drop 1 l (x - 1) d ∙ ap (λ (k : ℕ). get_or l k d) (back x lo) ∙ default l x d 0 (omega arith)
    where
      back : (x : ℕ) → 1 ≤ x → 1 + (x - 1) ≡ x
      back x h = omega arith

  pub part_past : (x d : ℕ) → n < x → get_or (part l n) (x - 1) d ≡ d
  part_past x d h = get_or-eq_default (part l n) d {n = x - 1} (omega (arith, part_length))

module _ (events : List ℕ) (n : ℕ) (E : Events events n) (s x : ℕ) where
  pub has-low : x < 1 → has_at (part events n) s x ≡ false
  unfolding has_at
  has-low h = simp (lt-leb 1 x h)

  pub has-high : n < x → has_at (part events n) s x ≡ false
  unfolding has_at
  has-high h = rw (part_length events n E.room) (simp (lt-leb x n h, and-false))

  pub has_in : 1 ≤ x → x ≤ n → has_at (part events n) s x ≡ in_set s (get_or events x 0)
  unfolding has_at
  has_in lo hi = rw (part_length events n E.room, part_at events n E.room x 0 lo hi) (simp (le-leb 1 x lo, le-leb x n hi))

  pub has-full : 1 ≤ x → x ≤ n → s ≡ full_set → T (has_at (part events n) s x)
  has-full lo hi e = subst T (sym (has_in lo hi ∙ ap (λ (z : ℕ). in_set z (get_or events x 0)) e ∙ in_set-full (get_or events x 0) (E.small x lo hi))) tt

-- the laws of its run
pub bare_laws : (events : List ℕ) (n : ℕ) → Events events n → Laws (run_of (log_at [] events n))
bare_laws events n E = laws (log_at [] events n)
    (get_or-all (λ (e : ℕ). e < event_count) 0 (part events n) (λ i h. let run = part_length events n E.room in
    subst (λ (e : ℕ). e < event_count) (sym (ap (λ (k : ℕ). get_or (part events n) k 0) (shift i) ∙ part_at events n E.room (suc i) 0 (omega arith) (omega arith))) (E.small (suc i) (omega arith) (omega arith))))
  where
    shift : (i : ℕ) → i ≡ suc i - 1
    shift i = omega arith

pub seen_laws : (run : List ℕ) → Held run → Laws (run_held run)
seen_laws run H = let L = bare_laws (events_in run) (line_count run) H.lines in record { line = L.line; other = L.other }

pub line_laws : (events : List ℕ) (n : ℕ) → Events events n → Laws (bare events n)
line_laws events n E = let L = bare_laws events n E in record { line = L.line; other = L.other }

-- Ticks

pub tick_is : (ticks events : List ℕ) (n : ℕ) → n + 1 < length ticks → (x : ℕ) → tick (log_at ticks events n) x ≡ tick_of ticks n x
unfolding tick tick_of
tick_is ticks events n h x = go (order x 0) (order n x)
  where
    room : n < length ticks
    room = omega arith

    go : Order x 0 → Order n x → cond (eqb x 0) (get_or ticks 0 0) (get_or (part ticks n) (x - 1) (get_or ticks (n + 1) 0)) ≡ cond (ltb n x) (get_or ticks (n + 1) 0) (get_or ticks x 0)
    go (lower l) o = absurd (omega arith)
    go (level e) (lower l) = absurd (omega arith)
    go (level e) (level f) = rw (eq-eqb x 0 e, le-ltb n x (omega arith), e)
    go (level e) (upper l) = rw (eq-eqb x 0 e, le-ltb n x (omega arith), e)
    go (upper u) (lower l) = rw (ne_eqb x 0 (λ q. omega arith), lt-ltb n x l, part_past ticks n room x (get_or ticks (n + 1) 0) l)
    go (upper u) (level e) = rw (ne_eqb x 0 (λ q. omega arith), le-ltb n x (omega arith), part_at ticks n room x (get_or ticks (n + 1) 0) (omega arith) (omega arith))
    go (upper u) (upper l) = rw (ne_eqb x 0 (λ q. omega arith), le-ltb n x (omega arith), part_at ticks n room x (get_or ticks (n + 1) 0) (omega arith) (omega arith))

pub near-is : (ticks events : List ℕ) (n : ℕ) → n + 1 < length ticks → (x y lo hi : ℕ) → near_at (log_at ticks events n) x y lo hi ≡ near_of ticks n x y lo hi
unfolding near_of
near-is ticks events n h x y lo hi = go (order x y)
  where
    log : Log
    log = log_at ticks events n

    two : (x ≡ y → ⊥) → near_at log x y lo hi ≡ near_of ticks n x y lo hi
    two e = near_apart log x y lo hi e ∙ rw (tick_is ticks events n h x, tick_is ticks events n h y, ne_eqb x y e)

    go : Order x y → near_at log x y lo hi ≡ near_of ticks n x y lo hi
    go (lower l) = two (λ e. omega arith)
    go (level e) = ap (λ (z : ℕ). near_at log x z lo hi) (sym e) ∙ near-one log x lo hi ∙ rw (eq-eqb x y e)
    go (upper l) = two (λ e. omega arith)

pub near-held : (run : List ℕ) → Held run → (x y lo hi : ℕ) → near_at (log_held run) x y lo hi ≡ near_of (ticks_in run) (line_count run) x y lo hi
near-held run H = near-is (ticks_in run) (events_in run) (line_count run) (omega (arith, ticks-length run (omega (arith, H.size)), H.lines.few))

pub tick_past : (ticks : List ℕ) (n x : ℕ) → n < x → tick_of ticks n x ≡ get_or ticks (n + 1) 0
unfolding tick_of
tick_past ticks n x h = simp (lt-ltb n x h)

pub tick_in : (ticks : List ℕ) (n x : ℕ) → x ≤ n → tick_of ticks n x ≡ get_or ticks x 0
unfolding tick_of
tick_in ticks n x h = simp (le-ltb n x h)

-- so it is that of a position, of those behind the lines the first
pub tick_least : (ticks : List ℕ) (n x : ℕ) → tick_of ticks n x ≡ get_or ticks (min x (n + 1)) 0
tick_least ticks n x = go (order n x)
  where
    go : Order n x → tick_of ticks n x ≡ get_or ticks (min x (n + 1)) 0
    go (lower l) = let e : n + 1 ≡ min x (n + 1) = omega arith in tick_past ticks n x l ∙ ap (λ (k : ℕ). get_or ticks k 0) e
    go (level q) = let e : x ≡ min x (n + 1) = omega arith in tick_in ticks n x (omega arith) ∙ ap (λ (k : ℕ). get_or ticks k 0) e
    go (upper u) = let e : x ≡ min x (n + 1) = omega arith in tick_in ticks n x (omega arith) ∙ ap (λ (k : ℕ). get_or ticks k 0) e

-- Between: lo and hi are the lower and the higher of the two

module _ (events : List ℕ) (n : ℕ) (E : Events events n) (s x y : ℕ) where
  within-between : (z : ℕ) → min x y < z → z < max x y → T (between x y z)
  within-between z l h = go (order x y)
    where
      go : Order x y → T (between x y z)
      go (lower o) = between_up {x = x} {y = y} {z = z} (omega arith) (omega arith)
      go (level e) = absurd (omega arith)
      go (upper o) = between_down {x = x} {y = y} {z = z} (omega arith) (omega arith)

  between-within : (z : ℕ) → T (between x y z) → (min x y < z) × (z < max x y)
  between-within z t = go (between-way x y z t)
    where
      go : Between x y z → (min x y < z) × (z < max x y)
      go (up a b) = (omega arith, omega arith)
      go (down a b) = (omega arith, omega arith)

  -- one in between is enough
  pub clear_no : (z : ℕ) → min x y < z → z < max x y → has_at (part events n) s z ≡ true → clear (bare events n) s x y ≡ false
  clear_no z l h t = is_false (clear (bare events n) s x y)
      (not_T (clear (bare events n) s x y) (λ c. clear_get (bare events n) s x y (line_laws events n E) c z (within-between z l h) (subst T (sym t) tt)))

  -- none is the whole
  pub clear_yes : ((z : ℕ) → min x y < z → z < max x y → has_at (part events n) s z ≡ false) → clear (bare events n) s x y ≡ true
  clear_yes f = is_true (clear (bare events n) s x y) (clear-put (bare events n) s x y (λ z a t. let b = between-within z a in subst T (f z b.0 b.1) t))

  -- by the first after the lower one, up to the last line that is between
  pub clear-by : (r : Answer ℕ) (top : ℕ) → top ≡ min (max x y - 1) n → r ≡ position_of (lowest_above (has_at (part events n) s) (min x y) (top - min x y)) → (b : Bool) → is_some r ≡ not b → b ≡ clear (bare events n) s x y
  clear-by r top q e b f = go (next_of (has_at (part events n) s) (min x y) (top - min x y) r e)
    where
      go : Next (has_at (part events n) s) (min x y) (top - min x y) r → b ≡ clear (bare events n) s x y
      go (nowhere z low) = not-false b (sym f ∙ ap is_some z) ∙ sym (clear_yes (λ v l h. side v l h (order n v)))
        where
          side : (v : ℕ) → min x y < v → v < max x y → Order n v → has_at (part events n) s v ≡ false
          side v l h (lower o) = has-high events n E s v o
          side v l h (level o) = low v l (omega arith)
          side v l h (upper o) = low v l (omega arith)
      go (here v z l h t low) = not-true b (sym f ∙ ap is_some z) ∙ sym (clear_no v l (omega arith) t)

-- Distances

module _ (ticks : List ℕ) (n x y lo hi : ℕ) where
  pub near_level : x ≡ y → near_of ticks n x y lo hi ≡ eqb lo 0
  unfolding near_of
  near_level e = rw (eq-eqb x y e)

  pub near-two : (d s t : ℕ) → s ≡ tick_of ticks n x → t ≡ tick_of ticks n y → d ≡ gap s t → (x ≡ y → ⊥) → near_of ticks n x y lo hi ≡ sure lo hi d
  unfolding near_of
  near-two d s t es et ed two = rw (ne_eqb x y two, ← es, ← et, ← ed)

module _ (lo hi d : ℕ) where
  pub sure_far : hi ≤ d → sure lo hi d ≡ false
  sure_far h = without_overflow lo hi d ∙ simp (le-ltb d hi h)

  pub sure-below : d < hi → lo ≡ 0 → sure lo hi d ≡ true
  sure-below h e = without_overflow lo hi d ∙ simp (lt-ltb d hi h, eq-eqb lo 0 e)

  pub sure-above : d < hi → (lo ≡ 0 → ⊥) → sure lo hi d ≡ ltb lo d
  sure-above h e = without_overflow lo hi d ∙ simp (lt-ltb d hi h, ne_eqb lo 0 e)

-- Positions that surely keep the limits are less than the higher one apart, or on one tick.
pub near_reach : (ticks : List ℕ) (n x y lo hi : ℕ) → T (near_of ticks n x y lo hi) → gap (tick_of ticks n x) (tick_of ticks n y) < max hi 1
near_reach ticks n x y lo hi t = go (order x y)
  where
    two : (x ≡ y → ⊥) → gap (tick_of ticks n x) (tick_of ticks n y) < max hi 1
    two e = by_order (order (gap (tick_of ticks n x) (tick_of ticks n y)) hi)
      where
        far : hi ≤ gap (tick_of ticks n x) (tick_of ticks n y) → ⊥
        far h = subst T (near-two ticks n x y lo hi (gap (tick_of ticks n x) (tick_of ticks n y)) (tick_of ticks n x) (tick_of ticks n y) refl refl refl e ∙ sure_far lo hi (gap (tick_of ticks n x) (tick_of ticks n y)) h) t

        by_order : Order (gap (tick_of ticks n x) (tick_of ticks n y)) hi → gap (tick_of ticks n x) (tick_of ticks n y) < max hi 1
        by_order (lower l) = omega arith
        by_order (level l) = absurd (far (omega arith))
        by_order (upper l) = absurd (far (omega arith))

    go : Order x y → gap (tick_of ticks n x) (tick_of ticks n y) < max hi 1
    go (lower l) = two (λ e. omega arith)
    go (level e) = let f = ap (tick_of ticks n) e in omega arith
    go (upper l) = two (λ e. omega arith)

-- The ticks of lines never fall.
pub ticks_rise : (run : List ℕ) → Held run → (x y : ℕ) → x ≤ y → y ≤ line_count run → get_or (ticks_in run) x 0 ≤ get_or (ticks_in run) y 0
ticks_rise run H x y l h = omega (arith, H.rising x y l, tick_in (ticks_in run) (line_count run) x (omega arith), tick_in (ticks_in run) (line_count run) y h)

-- Without lines there are two ticks, the start's and the close's.
ascending_two : (ticks : List ℕ) → get_or ticks 0 0 ≤ get_or ticks 1 0 → Ascending (tick_of ticks 0)
ascending_two ticks r x y l = go (order x 0) (order y 0)
  where
    start : (z : ℕ) → z ≡ 0 → tick_of ticks 0 z ≡ get_or ticks 0 0
    start z e = tick_in ticks 0 z (omega arith) ∙ ap (λ (k : ℕ). get_or ticks k 0) e

    go : Order x 0 → Order y 0 → tick_of ticks 0 x ≤ tick_of ticks 0 y
    go (lower h) o = absurd (omega arith)
    go (level e) (lower h) = absurd (omega arith)
    go (level e) (level f) = omega (arith, start x e, start y f)
    go (level e) (upper h) = omega (arith, start x e, tick_past ticks 0 y h, r)
    go (upper h) (lower k) = absurd (omega arith)
    go (upper h) (level e) = absurd (omega arith)
    go (upper h) (upper k) = omega (arith, tick_past ticks 0 x h, tick_past ticks 0 y k)

-- Words without lines and maps are a run, if the close is not before the start.
pub held_empty : (run : List ℕ) → length run ≡ run_room → line_count run ≡ 0 → present run ≡ 0 → get_or (ticks_in run) 0 0 ≤ get_or (ticks_in run) 1 0 → Held run
held_empty run size none blank rise = record {
  size = size;
  lines = record {
    room = omega (arith, events-length run (omega (arith, size)), none);
    few = omega (arith, none);
    small = λ x l h. absurd (omega (arith, none));
  };
  rising = subst (λ (n : ℕ). Ascending (tick_of (ticks_in run) n)) (sym none) (ascending_two (ticks_in run) rise);
  mapped = λ h. absurd (h blank);
}
