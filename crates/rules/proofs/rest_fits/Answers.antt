-- `rest_fits` meets its contract: the definition, arm by arm. Kinds below 1 and above 12 do not come here.
use borrow.Author.Rules.{rules}
use Rattle.rules.specs.Rules.{rest_fits}
use Rattle.rules.proofs.rest_fits.Goals as goal

pub returns-in-1 : goal.returns-in-1
unfolding rest_fits
returns-in-1 c = search rules

pub returns-in-9 : goal.returns-in-9
unfolding rest_fits
returns-in-9 c = search rules

pub returns-in-12 : goal.returns-in-12
unfolding rest_fits
returns-in-12 c = search rules

pub returns-in-2 : goal.returns-in-2
unfolding rest_fits
returns-in-2 c = search rules

pub returns-in-4 : goal.returns-in-4
unfolding rest_fits
returns-in-4 c = search rules

pub returns-in-6-to-8 : goal.returns-in-6-to-8
unfolding rest_fits
returns-in-6-to-8 c = search rules

pub returns-in-10 : goal.returns-in-10
unfolding rest_fits
returns-in-10 c = search rules
