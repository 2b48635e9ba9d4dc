-- A text in memory. What must be believed.
-- Assumes nothing.
use Rattle.std.specs.Prelude.{List, ◌++◌, ℕ, ◌+◌, length, take, drop}

-- the memory with a text from index at on
unfoldable pub inked : (at : ℕ) (text m : List ℕ) → List ℕ
inked at text m = take at m ++ (text ++ drop (at + length text) m)
