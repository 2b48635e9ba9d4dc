-- The widths of a sheet's columns.
-- Assumes nothing.
use mathlib.Core.Path.{◌≡◌}
use mathlib.Core.Bool.{true}
use Prim.Native.Nat.{ℕ, ◌≤◌, ◌<◌}
use native.Mathlib.Omega.{arith}
use Rattle.columns.specs.Number.{largest}
use Rattle.columns.specs.Spell.{fits_in}
use Rattle.columns.proofs.Fits.{parts-fit}

pub three : (v : ℕ) → v < 1000 → fits_in 3 v ≡ true
three v h = parts-fit 3 v (omega arith) (omega (arith, h))

pub eleven : (v : ℕ) → v ≤ largest → fits_in 11 v ≡ true
eleven v h = parts-fit 11 v (omega arith) (omega (arith, h))
