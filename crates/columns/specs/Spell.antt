-- The spelling of a number in a field of any width: its digits right-justified, with spaces before them. What must be believed.
-- Assumes nothing.
use Rattle.std.specs.Prelude.{ℕ, zero, suc, ◌+◌, ◌/◌, ◌%◌, ◌^◌, List, [], ◌∷◌, ◌++◌, Bool, cond, ◌&&◌, eqb, leb, ltb}

-- the last digit of v, and the byte left of what is written where v is left to write
unfoldable pub last_byte : ℕ → ℕ
last_byte v = 48 + v % 10

unfoldable pub left_byte : ℕ → ℕ
left_byte v = cond (eqb v 0) 32 (last_byte v)

-- w columns for v: spaces once nothing is left to write
unfoldable pub left : (w v : ℕ) → List ℕ
left zero v = []
left (suc w) v = left w (v / 10) ++ (left_byte v ∷ [])

-- the field of w columns, of which the last always has a digit
unfoldable pub spell : (w v : ℕ) → List ℕ
spell zero v = []
spell (suc w) v = left w (v / 10) ++ (last_byte v ∷ [])

-- v has a spelling in w columns: there is one at least, and v has no more digits
unfoldable pub fits_in : (w v : ℕ) → Bool
fits_in w v = leb 1 w && ltb v (10 ^ w)
