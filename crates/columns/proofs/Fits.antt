-- Whether a number has a spelling in so many columns.
-- Assumes nothing.
use mathlib.Core.Path.{◌≡◌}
use mathlib.Core.Bool.{true}
use Prim.Native.Nat.{ℕ, ◌^◌, ◌≤◌, ◌<◌}
use lib.Dec.{leb, ltb}
use borrow.Author.Tests.{lt-ltb, ltb-true, le-leb, leb-true}
use Rattle.columns.specs.Spell.{fits_in}
use Rattle.columns.proofs.Both.{both, pair}

-- what fits: one column at least, and below the power of ten
pub fits-parts : (w v : ℕ) → fits_in w v ≡ true → (1 ≤ w) × (v < 10 ^ w)
unfolding fits_in
fits-parts w v e = let t = both (leb 1 w) (ltb v (10 ^ w)) e in (leb-true 1 w t.0, ltb-true v (10 ^ w) t.1)

-- and what is so fits
pub parts-fit : (w v : ℕ) → 1 ≤ w → v < 10 ^ w → fits_in w v ≡ true
unfolding fits_in
parts-fit w v h l = pair (leb 1 w) (ltb v (10 ^ w)) (le-leb 1 w h) (lt-ltb v (10 ^ w) l)
