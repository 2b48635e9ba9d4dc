-- What a host gets: one number, and what its memory holds afterwards. What must be believed.
-- Assumes nothing.
use Rattle.std.specs.Prelude.{cond, ℕ, eqb, Option, Some, None, Result, Ok, Err}
use Rattle.columns.specs.declared.Misfit.{Misfit}
use Rattle.limit.specs.Limit.{Limited}
use Rattle.findings.specs.Findings.{host_number}

-- document 02, A10: "stopped" is a third answer, 102
unfoldable pub limited_number : Limited → ℕ
limited_number c = cond c.stopped 102 (host_number c.checked)

module _ {A : Type 0} where
  -- what is lent for an answer: its value, or what was there where the operation is refused
  unfoldable pub unless_refused : (refusal : ℕ) → (value old : A) → A
  unless_refused refusal value old = cond (eqb refusal 0) value old

-- a field: 0 and its value, or 1 and what was there
abbrev pub field_number : Option ℕ → ℕ
field_number (Some v) = 0
field_number None = 1

abbrev pub field_value : Option ℕ → (old : ℕ) → ℕ
field_value (Some v) old = v
field_value None old = old

abbrev pub entry_number : Result (Unit {0}) Misfit → ℕ
entry_number (Ok u) = 0
entry_number (Err e) = 1
