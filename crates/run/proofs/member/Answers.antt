-- `member` meets its contract: the bit of the event.
use borrow.Author.Rules.{rules}
use Rattle.scenario.specs.Log.{in_set}
use Rattle.run.proofs.member.Goals as goal

pub returns : goal.returns
unfolding in_set
returns c = search rules
