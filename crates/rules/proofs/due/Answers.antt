-- `due` meets its contract: the definition's tests one after another.
use borrow.Author.Rules.{rules}
use Rattle.rules.specs.Rules.{is_due}
use Rattle.rules.proofs.due.Goals as goal

pub returns-then-count-last : goal.returns-then-count-last
unfolding is_due
returns-then-count-last c = search rules

pub returns-else-count-last : goal.returns-else-count-last
unfolding is_due
returns-else-count-last c = search rules
