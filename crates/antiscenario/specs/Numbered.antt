-- The answers of the code, with each refusal by its number. What must be believed.
-- Assumes nothing.
use Rattle.std.specs.Prelude.{Bool, ℕ, Result, Ok, Err}
use Rattle.refusal.specs.declared.Refusal.{Refusal}
use Rattle.refusal.specs.Refusal.{number}
use Rattle.antiscenario.specs.Write.{Written, no_text}
use Rattle.antiscenario.specs.Judge.{Judged, unjudged}

abbrev pub numbered_write : Result ℕ Refusal → Written
numbered_write (Ok length) = record { refusal = 0; length = length }
numbered_write (Err r) = no_text (number r)

abbrev pub numbered_judge : Result Bool Refusal → Judged
numbered_judge (Ok met) = record { refusal = 0; met = met }
numbered_judge (Err r) = unjudged (number r)
