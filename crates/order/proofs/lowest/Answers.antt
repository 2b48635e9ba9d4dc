-- `lowest` meets its contract: of the points from z on, the first that may end is the first of all.
use mathlib.Core.Path.{refl, sym, ◌∙◌}
use native.Mathlib.Omega.{arith}
use Rattle.order.proofs.Ending.{taken_here, passed_here, none-taken}
use borrow.Author.Rules.{rules}
use Rattle.order.proofs.lowest.Goals as goal

pub returns-then-may_end : goal.returns-then-may_end
returns-then-may_end c =
    let l = c.loop-z in
    taken_here _ _ l.z l.invariant.0 (omega arith) (sym c.may_end.ensures ∙ c.if-may_end.true) ∙ l.invariant.2

pub loop-z-preserved : goal.loop-z-preserved
loop-z-preserved c =
    let l = c.loop-z in
    (search rules, search rules, passed_here _ _ l.z l.invariant.0 (omega arith) (sym c.may_end.ensures ∙ c.if-may_end.false) ∙ l.invariant.2)

pub returns : goal.returns
returns c = let l = c.loop-z in none-taken _ _ l.z (omega arith) l.invariant.1 ∙ l.invariant.2

pub loop-z-init : goal.loop-z-init
loop-z-init c = (search rules, search rules, refl)
