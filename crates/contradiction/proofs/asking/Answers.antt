-- `asking` meets its contract: kind by kind.
use native.Mathlib.Omega.{arith}
use borrow.Author.Tests.{eq-eqb}
use Rattle.contradiction.specs.Table.{asking}
use Rattle.contradiction.proofs.Parts.{asks, asks_not}
use Rattle.contradiction.proofs.asking.Goals as goal

pub returns-in_default : goal.returns-in_default
returns-in_default c = asks_not c.args.kind (λ e. omega arith) (λ l. omega arith)

pub returns-in_default-2 : goal.returns-in_default-2
returns-in_default-2 c = asks_not c.args.kind (λ e. omega arith) (λ l. omega arith)

pub returns-in-1 : goal.returns-in-1
unfolding asking
returns-in-1 c = simp (eq-eqb _ _ c.in-1.is)

pub returns-in-1-2 : goal.returns-in-1-2
returns-in-1-2 c = asks c.args.kind (omega arith) (omega arith)
