-- `weigh` meets its contract: the definition, arm by arm.
use borrow.Author.Rules.{rules}
use Rattle.sheet.specs.Count.{weight}
use Rattle.sheet.proofs.weigh.Goals as goal

pub returns-in-1 : goal.returns-in-1
unfolding weight
returns-in-1 c = search rules

pub returns-in-6 : goal.returns-in-6
unfolding weight
returns-in-6 c = search rules

pub returns-in-9 : goal.returns-in-9
unfolding weight
returns-in-9 c = search rules

pub returns-in-4 : goal.returns-in-4
unfolding weight
returns-in-4 c = search rules

pub returns-in_default : goal.returns-in_default
unfolding weight
returns-in_default c = search rules

pub returns-in_default-2 : goal.returns-in_default-2
unfolding weight
returns-in_default-2 c = search rules
