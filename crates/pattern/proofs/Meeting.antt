-- What a row of a kind asks, of positions.
-- Assumes nothing.
use mathlib.Core.Path.{◌≡◌, refl, sym, ap}
use mathlib.Core.Bool.{Bool, false, not}
use mathlib.Core.List.{List}
use Prim.Native.Nat.{ℕ, zero, suc, ◌≤◌, ◌<◌}
use native.Mathlib.Omega.{arith}
use lib.ListN.{get_or}
use Rattle.scenario.specs.Rows.{Row, clear, meets}
use Rattle.scenario.specs.Log.{has_at}
use Rattle.scenario.specs.Fields.{decode}
use Rattle.scenario.proofs.Numbers.{unknown_unmet}
use Rattle.run.specs.Words.{ticks_in, events_in, line_count}
use Rattle.run.specs.Held.{Held, part, bare, near_of, run_held}
use Rattle.pattern.specs.Meeting.{placed_by, ordered_by}
use Rattle.pattern.specs.Placing.{by}
use Rattle.run.proofs.Logs.{near-held}

four : (P : ℕ → Type 0) → P 2 → P 3 → P 4 → P 5 → (k : ℕ) → 2 ≤ k → k ≤ 5 → P k
four P a b c d zero l h = absurd (omega arith)
four P a b c d (suc zero) l h = absurd (omega arith)
four P a b c d (suc (suc zero)) l h = a
four P a b c d (suc (suc (suc zero))) l h = b
four P a b c d (suc (suc (suc (suc zero)))) l h = c
four P a b c d (suc (suc (suc (suc (suc zero))))) l h = d
four P a b c d (suc (suc (suc (suc (suc (suc k)))))) l h = absurd (omega arith)

three : (P : ℕ → Type 0) → P 6 → P 7 → P 8 → (k : ℕ) → 6 ≤ k → k ≤ 8 → P k
three P a b c zero l h = absurd (omega arith)
three P a b c (suc zero) l h = absurd (omega arith)
three P a b c (suc (suc zero)) l h = absurd (omega arith)
three P a b c (suc (suc (suc zero))) l h = absurd (omega arith)
three P a b c (suc (suc (suc (suc zero)))) l h = absurd (omega arith)
three P a b c (suc (suc (suc (suc (suc zero))))) l h = absurd (omega arith)
three P a b c (suc (suc (suc (suc (suc (suc zero)))))) l h = a
three P a b c (suc (suc (suc (suc (suc (suc (suc zero))))))) l h = b
three P a b c (suc (suc (suc (suc (suc (suc (suc (suc zero)))))))) l h = c
three P a b c (suc (suc (suc (suc (suc (suc (suc (suc (suc k))))))))) l h = absurd (omega arith)

pub past : (k n : ℕ) → n ≤ k → (k ≡ n → ⊥) → n < k
past k n le ne = omega arith

pub under : (k n : ℕ) → k < suc n → k ≤ n
under k n h = omega arith

module _ (run positions : List ℕ) (row : Row) (kind p q a b s x y : ℕ) (H : Held run) (er : decode kind p q a b s ≡ row) (ex : x ≡ get_or positions p 0) (ey : y ≡ get_or positions q 0) where
  abbrev pub Met : Bool → Type 0
  Met r = r ≡ meets (run_held run) (by positions) row

  pub met_1 : kind ≡ 1 → Met (has_at (part (events_in run) (line_count run)) s x)
  unfolding meets decode
  met_1 k = rw (← er, k, ex)

  pub met_12 : kind ≡ 12 → Met (has_at (part (events_in run) (line_count run)) s x)
  unfolding meets decode
  met_12 k = rw (← er, k, ex)

  pub met_9 : kind ≡ 9 → Met (clear (bare (events_in run) (line_count run)) s x y)
  unfolding meets decode clear
  met_9 k = rw (← er, k, ex, ey)

  pub met_10 : kind ≡ 10 → Met (near_of (ticks_in run) (line_count run) x y a b)
  unfolding meets decode
  met_10 k = rw (← er, k, ex, ey) (sym (near-held run H (get_or positions p 0) (get_or positions q 0) a b))

  pub met_11 : kind ≡ 11 → Met (not (near_of (ticks_in run) (line_count run) x y a b))
  unfolding meets decode
  met_11 k = rw (← er, k, ex, ey) (ap not (sym (near-held run H (get_or positions p 0) (get_or positions q 0) a b)))

  pub met-placed : (z : ℕ) → z ≡ get_or positions a 0 → 2 ≤ kind → kind ≤ 5 → Met (placed_by (bare (events_in run) (line_count run)) kind s x y z)
  unfolding meets decode placed_by clear
  met-placed z ez l h =
      rw (← er, ex, ey, ez)
      (four (λ (k : ℕ). placed_by (bare (events_in run) (line_count run)) k s (get_or positions p 0) (get_or positions q 0) (get_or positions a 0) ≡ meets (run_held run) (by positions) (decode k p q a b s))
      refl refl refl refl kind l h)

  pub met-ordered : 6 ≤ kind → kind ≤ 8 → Met (ordered_by kind x y)
  unfolding meets decode ordered_by
  met-ordered l h =
      rw (← er, ex, ey)
      (three (λ (k : ℕ). ordered_by k (get_or positions p 0) (get_or positions q 0) ≡ meets (run_held run) (by positions) (decode k p q a b s)) refl refl refl kind l h)

  pub met-low : kind < 1 → Met false
  met-low h = rw (← er) (sym (unknown_unmet (run_held run) (by positions) p q a b s kind (λ l m. omega arith)))

  pub met-high : 12 < kind → Met false
  met-high h = rw (← er) (sym (unknown_unmet (run_held run) (by positions) p q a b s kind (λ l m. omega arith)))
