-- `weigh_free` meets its contract: the ends, one after another.
use borrow.Author.Rules.{rules}
use Rattle.sheet.specs.Count.{weight_free}
use Rattle.sheet.proofs.weigh_free.Goals as goal

pub returns-then-is_edge : goal.returns-then-is_edge
unfolding weight_free
returns-then-is_edge c = search rules

pub returns-then-is_edge-2 : goal.returns-then-is_edge-2
unfolding weight_free
returns-then-is_edge-2 c = search rules

pub returns-else-is_edge-2 : goal.returns-else-is_edge-2
unfolding weight_free
returns-else-is_edge-2 c = search rules
