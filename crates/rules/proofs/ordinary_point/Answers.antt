-- `ordinary_point` meets its contract: the definition's tests one after another.
use borrow.Author.Rules.{rules}
use Rattle.rules.specs.Rules.{ordinary}
use Rattle.rules.proofs.ordinary_point.Goals as goal

pub returns-then-m-antecedent : goal.returns-then-m-antecedent
unfolding ordinary
returns-then-m-antecedent c = search rules

pub returns-then-s-m : goal.returns-then-s-m
unfolding ordinary
returns-then-s-m c = search rules

pub returns-else-s-m : goal.returns-else-s-m
unfolding ordinary
returns-else-s-m c = search rules
