-- `check` meets its contract.
use mathlib.Core.Path.{refl, sym, ap, ◌∙◌}
use Rattle.refusal.proofs.Numbers.{is_refused}
use Rattle.verdict.specs.Numbered.{told, violated}
use Rattle.verdict.specs.Check.{blank}
use Rattle.findings.specs.Findings.{host_number}
use Rattle.findings.proofs.Telling.{number-refused, number-violated, number-holds}
use Rattle.bench.proofs.check.Goals as goal

pub returns-in-Err : goal.returns-in-Err
returns-in-Err c = c.number.ensures ∙ sym (number-refused (blank _) (is_refused _)) ∙ ap host_number c.in-Err.ensures.answer

pub returns-in-Some : goal.returns-in-Some
returns-in-Some c = sym (number-violated (violated _) refl refl) ∙ ap host_number (ap told (sym c.in-Some.is) ∙ c.in-Ok.ensures.answer)

pub returns-in-None : goal.returns-in-None
returns-in-None c = sym (number-holds (blank 0) refl refl) ∙ ap host_number (ap told (sym c.in-None.is) ∙ c.in-Ok.ensures.answer)
