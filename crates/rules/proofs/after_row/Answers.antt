-- `after_row` meets its contract: the definition, arm by arm.
use borrow.Author.Rules.{rules}
use Rattle.rules.specs.Rules.{advance}
use Rattle.rules.proofs.after_row.Goals as goal

pub returns-in-1 : goal.returns-in-1
unfolding advance
returns-in-1 c = search rules

pub returns-in-2-to-5 : goal.returns-in-2-to-5
unfolding advance
returns-in-2-to-5 c = search rules

pub returns-in_default : goal.returns-in_default
unfolding advance
returns-in_default c = search rules

pub returns-in_default-2 : goal.returns-in_default-2
unfolding advance
returns-in_default-2 c = search rules
