-- `check` meets its contract: by how reading both ends (Reading); demand 3 comes with the equation.
use borrow.Author.Rules.{rules}
use Rattle.std.proofs.lemmas.Result.{err_from_is_err_and}
use Rattle.refusal.proofs.Numbers.{is_refused}
use Rattle.runlog.proofs.Loading.{all-zeros}
use Rattle.verdict.proofs.Reading.{refused, checked, demanded}
use Rattle.verdict.proofs.check.Goals as goal

pub load-requires : goal.load-requires
load-requires c = (search rules, rw c.new-run.ensures (all-zeros 8100))

pub returns-in_err-read-clause-answer : goal.returns-in_err-read-clause-answer
returns-in_err-read-clause-answer c =
    let p = err_from_is_err_and c.from_residual.result c.from_residual.ensures.1 in
    rw (p.1, p.2) (refused c.args.sheet.now c.args.log.now _ c.in_err-read.ensures.refusal (is_refused _))

pub returns-in_err-read-clause-demand : goal.returns-in_err-read-clause-demand
returns-in_err-read-clause-demand c =
    let p = err_from_is_err_and c.from_residual.result c.from_residual.ensures.1 in
    rw (p.1, p.2) (demanded c.args.sheet.now c.args.log.now _ (refused c.args.sheet.now c.args.log.now _ c.in_err-read.ensures.refusal (is_refused _)))

pub check_rows-requires : goal.check_rows-requires
check_rows-requires c = let B = c.in_ok-read.ensures.memory in (B.blank, B.sheet)

pub returns : goal.returns
returns c =
    let B = c.in_ok-read.ensures.memory in
    let q = checked c.args.sheet.now c.args.log.now _ _ _ _ B _ c.check_rows.ensures in record { answer = q; demand = demanded c.args.sheet.now c.args.log.now _ q }
