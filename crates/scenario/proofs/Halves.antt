-- The halves of a set (document 02, A1): a set is that of its halves, and EVENT's denial is the full set without it.
-- Assumes nothing.
use mathlib.Core.Path.{◌≡◌}
use Prim.Native.Nat.{ℕ, ◌-◌, ◌≤◌}
use native.Mathlib.Omega.{arith}
use Rattle.scenario.specs.Rows.{full_set, full_half, set_of, lower_half, upper_half, complement}
use Rattle.scenario.specs.Reading.{IsEvents}

pub set_of_halves : (s : ℕ) → set_of (lower_half s) (upper_half s) ≡ s
unfolding set_of lower_half upper_half
set_of_halves s = omega arith

module _ (a b : ℕ) (h : a ≤ full_half) where
  pub lower_half_of : lower_half (set_of a b) ≡ a
  unfolding set_of lower_half
  lower_half_of = omega arith

  pub upper_half_of : upper_half (set_of a b) ≡ b
  unfolding set_of upper_half
  upper_half_of = omega arith

  -- two fields hold a set of events
  pub set_of-events : b ≤ full_half → IsEvents (set_of a b)
  unfolding set_of IsEvents
  set_of-events k = omega arith

-- without an upper half it is what the lower one holds
pub set_of_lower : (a b : ℕ) → a ≤ full_half → b ≡ 0 → set_of a b ≤ full_half
unfolding set_of
set_of_lower a b h z = omega arith

-- a set of events fits two fields
pub lower_half-fits : (s : ℕ) → lower_half s ≤ full_half
unfolding lower_half
lower_half-fits s = omega arith

pub upper_half-fits : (s : ℕ) → s ≤ full_set → upper_half s ≤ full_half
unfolding upper_half
upper_half-fits s h = omega arith

-- and what two fields hold is one
pub halves_fit : (s : ℕ) → upper_half s ≤ full_half → s ≤ full_set
unfolding upper_half
halves_fit s h = omega arith

-- "It is empty when both are 0."
pub empty_halves : (s : ℕ) → lower_half s ≡ 0 → upper_half s ≡ 0 → s ≡ 0
unfolding lower_half upper_half
empty_halves s l u = omega arith

-- taking both halves from 4,294,967,295 is taking the set from the full set
pub complement-whole : (s : ℕ) → IsEvents s → complement s ≡ full_set - s
unfolding complement set_of lower_half upper_half IsEvents
complement-whole s h = omega arith

pub complement-events : (s : ℕ) → IsEvents (complement s)
unfolding complement set_of lower_half upper_half IsEvents
complement-events s = omega arith
