-- `set_of` meets its contract: it computes the definition; two halves fit 64 bits.
use borrow.Author.Rules.{rules}
use Rattle.scenario.specs.Rows.{set_of}
use Rattle.pattern.proofs.set_of.Goals as goal

pub returns : goal.returns
unfolding set_of
returns c = search rules
