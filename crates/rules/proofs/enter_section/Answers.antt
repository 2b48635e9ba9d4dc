-- `enter_section` meets its contract: the test that the definition has.
use borrow.Author.Rules.{rules}
use Rattle.rules.specs.Rules.{enter}
use Rattle.rules.proofs.enter_section.Goals as goal

pub returns-then-at-s : goal.returns-then-at-s
unfolding enter
returns-then-at-s c = search rules

pub returns : goal.returns
unfolding enter
returns c = search rules
