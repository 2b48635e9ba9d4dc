-- `kind_fits` meets its contract: the definition, arm by arm.
use borrow.Author.Rules.{rules}
use Rattle.rules.specs.Rules.{kind_fits}
use Rattle.rules.proofs.kind_fits.Goals as goal

pub returns-in-1 : goal.returns-in-1
unfolding kind_fits
returns-in-1 c = search rules

pub returns-in-2-to-5 : goal.returns-in-2-to-5
unfolding kind_fits
returns-in-2-to-5 c = search rules

pub returns-in-6-to-12 : goal.returns-in-6-to-12
unfolding kind_fits
returns-in-6-to-12 c = search rules

pub returns-in_default : goal.returns-in_default
unfolding kind_fits
returns-in_default c = search rules

pub returns-in_default-2 : goal.returns-in_default-2
unfolding kind_fits
returns-in_default-2 c = search rules
