-- What a host is told of a check: one number, and what its memory holds afterwards. What must be believed.
-- Assumes nothing.
use Rattle.std.specs.Prelude.{cond, List, ◌++◌, ℕ, take, drop, eqb, Option, Result, Ok, Err}
use Rattle.verdict.specs.declared.Violation.{Violation}
use Rattle.verdict.specs.Check.{Checked, blank}
use Rattle.verdict.specs.Numbered.{told}

-- a check's answer with its refusal's number
abbrev pub by_number : Result (Option Violation) ℕ → Checked
by_number (Ok verdict) = told verdict
by_number (Err number) = blank number

-- document 01: the refusal's, or else 0 for holds and 100 for violated
unfoldable pub host_number : Checked → ℕ
host_number c = cond (eqb c.refusal 0) (cond c.violated 100 0) c.refusal

module _ {A : Type 0} where
  -- what is lent for a finding of the check: its value, or what was there where nothing is violated
  unfoldable pub when_violated : Checked → (value old : A) → A
  when_violated c value old = cond c.violated value old

-- the first `count` of some numbers in front of what was there
unfoldable pub fronted : (count : ℕ) → (values old : List ℕ) → List ℕ
fronted count values old = take count values ++ drop count old
