-- `p_fits` meets its contract: the definition, arm by arm.
use borrow.Author.Rules.{rules}
use Rattle.rules.specs.Rules.{p_fits}
use Rattle.rules.proofs.p_fits.Goals as goal

pub returns-in-1 : goal.returns-in-1
unfolding p_fits
returns-in-1 c = search rules

pub returns-in-12 : goal.returns-in-12
unfolding p_fits
returns-in-12 c = search rules

pub returns-in-2-to-5 : goal.returns-in-2-to-5
unfolding p_fits
returns-in-2-to-5 c = search rules

pub returns-in-6-to-8 : goal.returns-in-6-to-8
unfolding p_fits
returns-in-6-to-8 c = search rules

pub returns-in-9-to-11 : goal.returns-in-9-to-11
unfolding p_fits
returns-in-9-to-11 c = search rules
