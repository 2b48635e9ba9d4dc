-- The answer of the code, with its refusal by number. What must be believed.
-- Assumes nothing.
use Rattle.std.specs.Prelude.{Bool, true, false, ℕ, Option, Some, None}
use Rattle.refusal.specs.declared.Refusal.{Refusal}
use Rattle.refusal.specs.Refusal.{number}
use Rattle.line.specs.declared.Text.{Text}
use Rattle.line.specs.declared.Text.TheVariants.{Sheet, Log}
use Rattle.line.specs.declared.Part.{Part as Shown}
use Rattle.line.specs.Showing.{Part, part}

abbrev pub is_log : Text → Bool
is_log Sheet = false
is_log Log = true

abbrev pub number_or_none : Option Refusal → ℕ
number_or_none None = 0
number_or_none (Some r) = number r

abbrev pub numbered : Shown → Part
numbered x = part (number_or_none x.refusal) (is_log x.text) x.from x.to
