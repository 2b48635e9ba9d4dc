-- `far_end` meets its contract: NEXT, LAST, or another kind.
use mathlib.Core.Path.{◌∙◌}
use native.Mathlib.Omega.{arith}
use Rattle.order.proofs.Ending.{far_of_next, far_of_last, far_of_other}
use Rattle.order.proofs.far_end.Goals as goal

pub returns-in-2 : goal.returns-in-2
returns-in-2 c = c.end_of.ensures ∙ far_of_next _ _ _ c.in-2.is

pub returns-in-3 : goal.returns-in-3
returns-in-3 c = c.end_of-in-3.ensures ∙ far_of_last _ _ _ c.in-3.is

pub returns-in_default : goal.returns-in_default
returns-in_default c = far_of_other _ _ _ (λ q. omega arith) (λ q. omega arith)
