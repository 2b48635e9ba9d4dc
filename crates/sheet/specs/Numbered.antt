-- The answers of the code, with each refusal by its number. What must be believed.
-- Assumes nothing.
use Rattle.std.specs.Prelude.{ℕ, Result, Ok, Err}
use Rattle.refusal.specs.declared.SheetRefusal.{SheetRefusal}
use Rattle.refusal.specs.declared.Refusal.{Refusal}
use Rattle.refusal.specs.Refusal.{sheet_number, number}
use Rattle.sheet.specs.declared.Head.{Head as HeadRead}
use Rattle.sheet.specs.declared.Extent.{Extent}
use Rattle.sheet.specs.declared.Refused.{Refused}
use Rattle.sheet.specs.Reading.{Head, headed, Answer, accepted, refused, SheetCount}

abbrev pub numbered_head : Result HeadRead SheetRefusal → Head
numbered_head (Ok h) = headed 0 h.k h.rows
numbered_head (Err r) = headed (sheet_number r) 0 0

abbrev pub numbered : Result Extent Refused → Answer
numbered (Ok e) = accepted e.k e.rows e.count
numbered (Err r) = refused (sheet_number r.refusal) r.row

abbrev pub numbered_count : Result ℕ Refusal → SheetCount
numbered_count (Ok n) = record { refusal = 0; count = n }
numbered_count (Err r) = record { refusal = number r; count = 0 }
