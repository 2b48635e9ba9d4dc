-- The word of two halves.
use borrow.Author.Rules.{rules}
use Rattle.scenario.specs.Rows.{set_of}
use Rattle.run.proofs.enter.Goals as goal

pub returns : goal.returns
unfolding set_of
returns c = search rules
