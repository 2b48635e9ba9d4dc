-- No refusal has the number 0.
-- Assumes nothing.
use mathlib.Core.Path.{◌≡◌}
use native.Mathlib.Omega.{arith}
use Rattle.refusal.specs.declared.SheetRefusal.{SheetRefusal}
use Rattle.refusal.specs.declared.SheetRefusal.TheVariants.{HeadMalformed, OverLimits, WrongLength, RowMalformed, WrongSection, WrongKind, WrongP, WrongQ, WrongField, SectionTooLong}
use Rattle.refusal.specs.declared.LogRefusal.{LogRefusal}
use Rattle.refusal.specs.declared.LogRefusal.TheVariants.{HeadMalformed as LogHeadMalformed, TooManyLines, WrongLength as LogWrongLength, LineMalformed, EventUnknown, TickBelow, CloseBelow}
use Rattle.refusal.specs.declared.Refusal.{Refusal}
use Rattle.refusal.specs.declared.Refusal.TheVariants.{Sheet, Log, NoSuchNumber, BufferTooShort, TooFewPlaces, WrongNumberOfPositions}
use Rattle.refusal.specs.Refusal.{sheet_number, log_number, number}

pub sheet_refused : (r : SheetRefusal) → sheet_number r ≡ 0 → ⊥
sheet_refused HeadMalformed z = absurd (omega arith)
sheet_refused OverLimits z = absurd (omega arith)
sheet_refused WrongLength z = absurd (omega arith)
sheet_refused RowMalformed z = absurd (omega arith)
sheet_refused WrongSection z = absurd (omega arith)
sheet_refused WrongKind z = absurd (omega arith)
sheet_refused WrongP z = absurd (omega arith)
sheet_refused WrongQ z = absurd (omega arith)
sheet_refused WrongField z = absurd (omega arith)
sheet_refused SectionTooLong z = absurd (omega arith)

pub log_refused : (r : LogRefusal) → log_number r ≡ 0 → ⊥
log_refused LogHeadMalformed z = absurd (omega arith)
log_refused TooManyLines z = absurd (omega arith)
log_refused LogWrongLength z = absurd (omega arith)
log_refused LineMalformed z = absurd (omega arith)
log_refused EventUnknown z = absurd (omega arith)
log_refused TickBelow z = absurd (omega arith)
log_refused CloseBelow z = absurd (omega arith)

pub is_refused : (r : Refusal) → number r ≡ 0 → ⊥
is_refused (Sheet r) z = sheet_refused r z
is_refused (Log r) z = log_refused r z
is_refused NoSuchNumber z = absurd (omega arith)
is_refused BufferTooShort z = absurd (omega arith)
is_refused TooFewPlaces z = absurd (omega arith)
is_refused WrongNumberOfPositions z = absurd (omega arith)
