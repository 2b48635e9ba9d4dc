-- The answer of the code, with its refusal by number. Inner vocabulary.
-- Assumes nothing.
use Rattle.std.specs.Prelude.{ℕ, Result, Ok, Err}
use Rattle.refusal.specs.declared.SheetRefusal.{SheetRefusal}
use Rattle.refusal.specs.Refusal.{sheet_number}

-- the refusal of a row, or 0 where it is permitted
abbrev pub numbered : Result (Unit {0}) SheetRefusal → ℕ
numbered (Ok u) = 0
numbered (Err r) = sheet_number r
