-- `is_edge` meets its contract: the definition's tests one after another.
use borrow.Author.Rules.{rules}
use Rattle.sheet.specs.Count.{edge}
use Rattle.sheet.proofs.is_edge.Goals as goal

pub returns-then-p-eq-START : goal.returns-then-p-eq-START
unfolding edge
returns-then-p-eq-START c = search rules

pub returns-else-p-eq-START : goal.returns-else-p-eq-START
unfolding edge
returns-else-p-eq-START c = search rules
