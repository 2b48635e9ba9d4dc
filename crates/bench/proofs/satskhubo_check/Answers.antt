-- What is told is the check's answer, its refusal by its number, which is small.
use mathlib.Core.Path.{◌≡◌, ◌∙◌}
use Rattle.verdict.specs.Check.{check_of}
use Rattle.verdict.proofs.Few.{few}
use Rattle.findings.specs.Findings.{by_number}
use Rattle.findings.proofs.Telling.{told_same}
use Rattle.bench.proofs.satskhubo_check.Goals as goal
use Rattle.bench.proofs.satskhubo_check.Goals.{After-by_number}

said : (c : After-by_number) → by_number c.by_number.result ≡ check_of c.args.sheet.now c.args.log.now
said c = c.by_number.ensures ∙ c.check.ensures.answer

pub tell-requires : goal.tell-requires
tell-requires c =
    let f = few c.args.sheet.now c.args.log.now (by_number c.by_number.result) (said (goal.at.tell-requires c).After-by_number) in (f.points, f.consequents)

pub returns : goal.returns
returns c =
    let e = c.tell.ensures in
    let q = told_same (by_number c.by_number.result) _ (said (goal.at.returns c).After-by_number) _ _ _ _ _ _ _ _ _ (e.answer, (e.positions, (e.points, (e.rows, e.consequents)))) in
    record { answer = q.0; positions = q.1.0; points = q.1.1.0; rows = q.1.1.1.0; consequents = q.1.1.1.1 }
