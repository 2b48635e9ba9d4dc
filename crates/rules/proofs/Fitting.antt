-- The kinds that fit a section.
-- Assumes nothing.
use mathlib.Core.Path.{◌≡◌}
use mathlib.Core.Bool.{true}
use Prim.Native.Nat.{ℕ, ◌≤◌}
use borrow.Author.Rules.{rules}
use Rattle.rules.specs.Rules.{kind_fits}

-- a kind that fits is one of 1 to 12
module _ (k s : ℕ) (fits : kind_fits s k ≡ true) where
  pub kind-low : 1 ≤ k
  unfolding kind_fits
  kind-low = search rules

  pub kind-high : k ≤ 12
  unfolding kind_fits
  kind-high = search rules
