-- The answers of the code, with each refusal by its number. What must be believed.
-- Assumes nothing.
use Rattle.std.specs.Prelude.{true, Option, Some, None, Result, Ok, Err}
use Rattle.refusal.specs.declared.Refusal.{Refusal}
use Rattle.refusal.specs.Refusal.{number}
use Rattle.verdict.specs.declared.Violation.{Violation}
use Rattle.verdict.specs.Check.{Checked, blank}

abbrev pub violated : Violation → Checked
violated v = record { refusal = 0; violated = true; points = v.points; consequents = v.consequents; positions = v.positions; rows = v.rows }

-- holds, or violated
abbrev pub told : Option Violation → Checked
told None = blank 0
told (Some v) = violated v

abbrev pub numbered : Result (Option Violation) Refusal → Checked
numbered (Ok verdict) = told verdict
numbered (Err r) = blank (number r)
