-- `q_fits` meets its contract: the definition, arm by arm.
use borrow.Author.Rules.{rules}
use Rattle.rules.specs.Rules.{q_fits, known_but, ordinary_but}
use Rattle.rules.proofs.q_fits.Goals as goal

pub returns-in-2-to-5 : goal.returns-in-2-to-5
unfolding q_fits
returns-in-2-to-5 c = search rules

pub returns-then-q-p : goal.returns-then-q-p
unfolding q_fits ordinary_but
returns-then-q-p c = search rules

pub returns-else-q-p : goal.returns-else-q-p
unfolding q_fits ordinary_but
returns-else-q-p c = search rules

pub returns-then-q-p-2 : goal.returns-then-q-p-2
unfolding q_fits known_but
returns-then-q-p-2 c = search rules

pub returns-else-q-p-2 : goal.returns-else-q-p-2
unfolding q_fits known_but
returns-else-q-p-2 c = search rules

pub returns-in_default : goal.returns-in_default
unfolding q_fits
returns-in_default c = search rules

pub returns-in_default-2 : goal.returns-in_default-2
unfolding q_fits
returns-in_default-2 c = search rules
