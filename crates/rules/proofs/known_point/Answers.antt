-- `known_point` meets its contract: the definition's tests one after another.
use borrow.Author.Rules.{rules}
use Rattle.rules.specs.Rules.{known}
use Rattle.rules.proofs.known_point.Goals as goal

pub returns-then-m-eq-CLOSE : goal.returns-then-m-eq-CLOSE
unfolding known
returns-then-m-eq-CLOSE c = search rules

pub returns-else-m-eq-CLOSE : goal.returns-else-m-eq-CLOSE
unfolding known
returns-else-m-eq-CLOSE c = search rules
