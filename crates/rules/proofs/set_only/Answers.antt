-- `set_only` meets its contract: the definition's tests one after another.
use borrow.Author.Rules.{rules}
use Rattle.rules.specs.Rules.{set_only}
use Rattle.rules.proofs.set_only.Goals as goal

pub returns-then-q-eq0 : goal.returns-then-q-eq0
unfolding set_only
returns-then-q-eq0 c = search rules

pub returns-else-q-eq0 : goal.returns-else-q-eq0
unfolding set_only
returns-else-q-eq0 c = search rules
