-- `both_zero` meets its contract: the definition's tests one after another.
use borrow.Author.Rules.{rules}
use Rattle.rules.specs.Rules.{both_zero}
use Rattle.rules.proofs.both_zero.Goals as goal

pub returns-then-a-eq0 : goal.returns-then-a-eq0
unfolding both_zero
returns-then-a-eq0 c = search rules

pub returns-else-a-eq0 : goal.returns-else-a-eq0
unfolding both_zero
returns-else-a-eq0 c = search rules
