-- The sets of one place.
-- Assumes nothing.
use Prim.Native.Nat.{ℕ, ◌^◌, ◌<◌}
use native.Mathlib.Omega.{arith}
use lib.Pow.{pow-lt}

-- they are numbers of 64 bits
pub small : (x : ℕ) → x < 60 → 2 ^ x < 9223372036854775808
small x h = pow-lt {i = x} {j = 63} (omega arith)
