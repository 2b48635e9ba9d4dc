-- `satskhubo_read_field` meets its contract: the field's value, or what was there.
use mathlib.Core.Path.{sym, ◌∙◌}
use Rattle.bench.proofs.Numbers.{bad_field, good_field}
use Rattle.bench.proofs.satskhubo_read_field.Goals as goal

pub returns-in_default : goal.returns-in_default
returns-in_default c =
    let told = bad_field _ _ (sym c.number.ensures ∙ c.in_default.is) in record { answer = told.0; memory = told.1 }

pub returns : goal.returns
returns c =
    let told = good_field _ _ _ (sym c.number.ensures ∙ c.in-Some.is) in record { answer = told.0; memory = told.1 }
