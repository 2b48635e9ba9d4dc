-- `own_rows` meets its contract: FREE's own rows, or the one row of another kind.
use Rattle.denial.proofs.Own.{done-one, free_own}
use borrow.Author.Rules.{rules}
use Rattle.denial.proofs.own_rows.Goals as goal

pub returns-then-line-eq9 : goal.returns-then-line-eq9
returns-then-line-eq9 c =
    let a = c.args in let told = free_own a.far a.line a.v a.at _ a.out.now _ (search rules) c.if-line-eq9.true c.requires.0 c.deny_free.ensures.ends c.deny_free.ensures.memory in record { ends = told.0; memory = told.1 }

pub returns : goal.returns
returns c =
    let told = done-one _ _ _ c.deny_line.result _ c.deny_line.ensures c.put_line.ensures in record { ends = told.0; memory = told.1 }
