-- The number of each refusal, as hosts and people see it. What must be believed.
-- Assumes nothing.
use Rattle.std.specs.Prelude.{ℕ, Result, Ok, Err}
use Rattle.refusal.specs.declared.SheetRefusal.{SheetRefusal}
use Rattle.refusal.specs.declared.SheetRefusal.TheVariants.{HeadMalformed, OverLimits, WrongLength, RowMalformed, WrongSection, WrongKind, WrongP, WrongQ, WrongField, SectionTooLong}
use Rattle.refusal.specs.declared.LogRefusal.{LogRefusal}
use Rattle.refusal.specs.declared.LogRefusal.TheVariants.{HeadMalformed as LogHeadMalformed, TooManyLines, WrongLength as LogWrongLength, LineMalformed, EventUnknown, TickBelow, CloseBelow}
use Rattle.refusal.specs.declared.Refusal.{Refusal}
use Rattle.refusal.specs.declared.Refusal.TheVariants.{Sheet, Log, NoSuchNumber, BufferTooShort, TooFewPlaces, WrongNumberOfPositions}

-- of a sheet
abbrev pub sheet_number : SheetRefusal → ℕ
sheet_number HeadMalformed = 1
sheet_number OverLimits = 2
sheet_number WrongLength = 3
sheet_number RowMalformed = 4
sheet_number WrongSection = 5
sheet_number WrongKind = 6
sheet_number WrongP = 7
sheet_number WrongQ = 8
sheet_number WrongField = 9
sheet_number SectionTooLong = 10

-- of a log
abbrev pub log_number : LogRefusal → ℕ
log_number LogHeadMalformed = 21
log_number TooManyLines = 22
log_number LogWrongLength = 23
log_number LineMalformed = 24
log_number EventUnknown = 25
log_number TickBelow = 26
log_number CloseBelow = 27

-- of an operation
abbrev pub number : Refusal → ℕ
number (Sheet refusal) = sheet_number refusal
number (Log refusal) = log_number refusal
number NoSuchNumber = 31
number BufferTooShort = 32
number TooFewPlaces = 33
number WrongNumberOfPositions = 34

module _ {A : Type 0} where
  -- the refusal's number, or 0 where there is an answer
  abbrev pub refused_with : Result A Refusal → ℕ
  refused_with (Ok a) = 0
  refused_with (Err r) = number r
