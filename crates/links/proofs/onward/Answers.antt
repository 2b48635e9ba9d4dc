-- `onward` meets its contract: the set has the place, or has it not.
use mathlib.Core.Path.{sym, ◌∙◌}
use Rattle.links.proofs.Entering.{enters, passes}
use Rattle.links.proofs.onward.Goals as goal

pub returns-then-member : goal.returns-then-member
returns-then-member c = enters _ _ _ (sym c.member.ensures ∙ c.if-member.true)

pub returns-else-member : goal.returns-else-member
returns-else-member c = passes _ _ _ (sym c.member.ensures ∙ c.if-member.false)
