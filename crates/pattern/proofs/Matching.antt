-- A placement put into an array by point number: all rows are met there, and all its positions are lines', exactly when it is a matching.
-- Assumes nothing.
use mathlib.Core.Path.{◌≡◌, refl, sym, ap, ap₂, ◌∙◌}
use mathlib.Core.Bool.{Bool, true, false, ◌&&◌}
use mathlib.Core.List.{List, [], ◌∷◌}
use Rattle.std.specs.List.{list_all, range_with_len}
use Prim.Native.Nat.{ℕ, zero, suc, ◌+◌, ◌≤◌}
use native.Mathlib.Numerals.{add-one}
use native.Mathlib.Omega.{arith}
use lib.ListN.{length, get_or, set, take, replicate, length-take, length-set}
use lib.Seq.{length-take-le}
use lib.Dec.{T}
use borrow.Author.Tests.{eq-eqb}
use Rattle.scenario.specs.Rows.{Row, Run, meets, introduced, needs, points, elem}
use Rattle.scenario.specs.Sheet.{env, all, is_line, matching}
use Rattle.scenario.specs.Reading.{All, Ordinary, Pattern}
use Rattle.scenario.proofs.Base.{all_map, all-elem, elem_at, elem-front, elem_back}
use Rattle.scenario.proofs.Rules.{Fixed, meets-same}
use Rattle.scenario.proofs.Place.{env-map}
use Rattle.run.specs.Words.{events_in, line_count}
use Rattle.run.specs.Held.{Held, run_held}
use Rattle.run.proofs.Logs.{part_length}
use Rattle.row.specs.Memory.{listed}
use Rattle.pattern.specs.Placing.{puts, is_position, by}
use Rattle.pattern.proofs.Placing.{puts_keep, puts-read}

-- A row's or a position's test, as std counts it and as `all` does

pub all-listed : {A : Type 0} (f : A → Bool) (xs : List A) → list_all f xs ≡ all f xs
unfolding all
all-listed f [] = refl
all-listed f (x ∷ xs) = ap (λ (b : Bool). f x && b) (all-listed f xs)

pub all-numbered : {A : Type 0} (f : A → Bool) (g : ℕ → A) (j left : ℕ) → list_all (λ (i : ℕ). f (g i)) (range_with_len j left) ≡ all f (listed g j left)
unfolding all listed
all-numbered f g j zero = refl
all-numbered f g j (suc left) = rw (add-one j) (ap (λ (b : Bool). f (g j) && b) (all-numbered f g (suc j) left))

-- The whole

all_same : (f g : Row → Bool) (rs : List Row) → All (λ (k : Row). f k ≡ g k) rs → all f rs ≡ all g rs
unfolding all
all_same f g [] h = refl
all_same f g (k ∷ rs) h = ap₂ ◌&&◌ h.0 (all_same f g rs h.1)

module _ (run : Run) (rs : List Row) (R : Pattern rs) (E xs : List ℕ) (start : get_or E 0 0 ≡ 0) (close : get_or E 99 0 ≡ suc run.lines) (size : length E ≡ 100) (l : length xs ≡ length (points rs)) where
  not_in : (m : ℕ) → (Ordinary m → ⊥) → T (elem m (points rs)) → ⊥
  not_in m h t = h (elem_at Ordinary m (points rs) t (all_map (λ k q. q.0) (points rs) R.plain))

  fixed : Fixed run (by (puts E (points rs) xs))
  fixed = record {
    start = puts_keep E (points rs) xs 0 (not_in 0 (λ q. q.not_start refl)) ∙ start;
    close = puts_keep E (points rs) xs 99 (not_in 99 (λ q. q.not_close refl)) ∙ close;
  }

  -- the array agrees with the placement on every point that a row mentions
  agree : (m : ℕ) → (Ordinary m → T (elem m (points rs))) → by (puts E (points rs) xs) m ≡ env run (points rs) xs m
  agree m h =
      env-map run (points rs) (by (puts E (points rs) xs)) fixed m h
      ∙ ap (λ (z : List ℕ). env run (points rs) z m) (puts-read E (points rs) xs R.once l (all_map (λ m q. omega (arith, q.1, size)) (points rs) R.plain))

  met-same : all (meets run (by (puts E (points rs) xs))) rs ≡ all (meets run (env run (points rs) xs)) rs
  met-same =
      all_same _ _ rs (all_map (λ k f. meets-same run (by (puts E (points rs) xs)) (env run (points rs) xs) k
      (all-elem (λ (m : ℕ). by (puts E (points rs) xs) m ≡ env run (points rs) xs m) (needs k) (λ m t. agree m (λ o. f m (elem_back m (introduced k) (needs k) t) o.not_start o.not_close)))
      (all-elem (λ (m : ℕ). by (puts E (points rs) xs) m ≡ env run (points rs) xs m) (introduced k) (λ m t. agree m (λ o. f m (elem-front m (introduced k) (needs k) t) o.not_start o.not_close))))
      rs R.known)

  matching-met : all (is_line run) xs ≡ true → all (meets run (by (puts E (points rs) xs))) rs ≡ matching run rs xs
  unfolding matching
  matching-met a = met-same ∙ rw (eq-eqb (length xs) (length (points rs)) l, a)

matching_off : (run : Run) (rs : List Row) (xs : List ℕ) → length xs ≡ length (points rs) → all (is_line run) xs ≡ false → false ≡ matching run rs xs
unfolding matching
matching_off run rs xs l a = rw (eq-eqb (length xs) (length (points rs)) l, a)

pub points-room : (ps table : List ℕ) (count_of_points : ℕ) → count_of_points ≡ length ps → take count_of_points table ≡ ps → count_of_points ≤ length table
points-room ps table count_of_points en ep = omega (arith, length-take count_of_points table, ap length ep, en)

-- Over a log in memory, by how the test ends: the points stand at the front of a table, and as many positions at the front of xs
module _ (run : List ℕ) (H : Held run) (n : ℕ) (el : n ≡ line_count run) (rs : List Row) (table xs : List ℕ) (count_of_points : ℕ) (en : count_of_points ≡ length (points rs)) (ep : take count_of_points table ≡ points rs) (hx : count_of_points ≤ length xs) where
  line-is : (z : ℕ) → is_position n z ≡ is_line (run_held run) z
  unfolding is_position is_line
  line-is z = rw (el, part_length (events_in run) (line_count run) H.lines.room)

  lines_are : (zs : List ℕ) → all (is_position n) zs ≡ all (is_line (run_held run)) zs
  unfolding all
  lines_are [] = refl
  lines_are (z ∷ zs) = ap₂ ◌&&◌ (line-is z) (lines_are zs)

  size_is : length (take count_of_points xs) ≡ length (points rs)
  size_is = length-take-le count_of_points xs hx ∙ en

  pub placement_off : (b : Bool) → b ≡ all (is_position n) (take count_of_points xs) → b ≡ false → false ≡ matching (run_held run) rs (take count_of_points xs)
  placement_off b e f = matching_off (run_held run) rs (take count_of_points xs) size_is (sym (lines_are (take count_of_points xs)) ∙ sym e ∙ f)

  pub placement-met : Pattern rs → (b : Bool) → b ≡ all (is_position n) (take count_of_points xs) → b ≡ true → (E : List ℕ) → E ≡ puts (set (replicate 100 0) 99 (n + 1)) (take count_of_points table) (take count_of_points xs)
      → (r : Bool) → r ≡ all (meets (run_held run) (by E)) rs → r ≡ matching (run_held run) rs (take count_of_points xs)
  placement-met R b e f E g r h =
      h
      ∙ ap (λ (z : List ℕ). all (meets (run_held run) (by z)) rs) (g ∙ ap (λ (ps : List ℕ). puts (set (replicate 100 0) 99 (n + 1)) ps (take count_of_points xs)) ep)
      ∙ matching-met (run_held run) rs R (set (replicate 100 0) 99 (n + 1)) (take count_of_points xs) refl
      (rw (el, part_length (events_in run) (line_count run) H.lines.room, add-one (line_count run))) (length-set (replicate 100 0) 99 (n + 1)) size_is (sym (lines_are (take count_of_points xs)) ∙ sym e ∙ f)
