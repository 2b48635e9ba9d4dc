-- Writing a number into a field of a lent buffer: the answer, and what the buffer holds afterwards. What must be believed.
-- Assumes nothing.
use Rattle.std.specs.Prelude.{Bool, cond, ◌&&◌, List, ◌++◌, ℕ, ◌+◌, length, take, drop, leb, Result, Ok, Err}
use Rattle.columns.specs.Spell.{spell, fits_in}
use Rattle.columns.specs.declared.Misfit.{Misfit}

-- v fits w columns, and the columns from index at on are in the room
unfoldable pub has_field : (room at w v : ℕ) → Bool
has_field room at w v = fits_in w v && leb (at + w) room

unfoldable pub entry_of : (room at w v : ℕ) → Result (Unit {0}) Misfit
entry_of room at w v = cond (has_field room at w v) (Ok tt) (Err (record {}))

-- the spelling in its columns and every other byte as it was; all as it was where it is refused
unfoldable pub entered : (at w v : ℕ) → List ℕ → List ℕ
entered at w v m = cond (has_field (length m) at w v) (take at m ++ (spell w v ++ drop (at + w) m)) m
