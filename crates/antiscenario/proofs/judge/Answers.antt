-- `judge` meets its contract: what stands in memory is the antiscenario and the log, whose points are counted and whose rows are met or not.
use mathlib.Core.Path.{refl}
use native.Mathlib.Omega.{arith}
use Rattle.std.proofs.lemmas.Result.{err_from_is_err_and}
use Rattle.refusal.proofs.Numbers.{is_refused}
use Rattle.runlog.proofs.Loading.{all-zeros}
use Rattle.antiscenario.proofs.InMemory.{room_1200}
use Rattle.antiscenario.proofs.Judging.{judge_refused, wrong_number, judged, promised}
use Rattle.antiscenario.proofs.judge.Goals as goal

pub load_antiscenario-requires : goal.load_antiscenario-requires
load_antiscenario-requires c = (room_1200, rw c.new-run.ensures (all-zeros 8100))

pub returns-in_err-count-clause-answer : goal.returns-in_err-count-clause-answer
returns-in_err-count-clause-answer c =
    let p = err_from_is_err_and c.from_residual.result c.from_residual.ensures.1 in
    rw (p.1, p.2) (judge_refused c.args.sheet.now c.args.log.now c.args.number c.args.placement.positions c.args.placement.count _ c.in_err-count.ensures.refusal (is_refused _))

pub returns-in_err-count-clause-past : goal.returns-in_err-count-clause-past
returns-in_err-count-clause-past c =
    let p = err_from_is_err_and c.from_residual.result c.from_residual.ensures.1 in
    let told = judge_refused c.args.sheet.now c.args.log.now c.args.number c.args.placement.positions c.args.placement.count _ c.in_err-count.ensures.refusal (is_refused _) in
    rw (p.1, p.2) ((promised c.args.sheet.now c.args.log.now c.args.number c.args.placement.count c.args.placement.positions _ told).1)

pub gather-point_count-requires : goal.gather-point_count-requires
gather-point_count-requires c =
    let A = c.in_ok-count.ensures.memory.rows_held in
    (omega (arith, A.few), omega (arith, A.pattern.few), A.pattern.few)

pub returns-then-placement-point_count : goal.returns-then-placement-point_count
returns-then-placement-point_count c =
    let e = c.in_ok-count.ensures in
    let told = promised c.args.sheet.now c.args.log.now c.args.number c.args.placement.count c.args.placement.positions _
    (wrong_number c.args.sheet.now c.args.log.now c.args.number c.args.placement.positions c.args.placement.count _ e.refusal refl _ _ _ e.memory
    c.gather-point_count.result c.gather-point_count.ensures.number (λ e. omega (arith, c.if-placement-point_count.true, e))) in
    record { answer = told.0; past = told.1 }

pub is_matching-requires : goal.is_matching-requires
is_matching-requires c =
    let R = c.in_ok-count.ensures.memory in
    (omega (arith, R.rows_held.few), R.rows_held.pattern, c.gather-point_count.ensures.number, c.gather-point_count.ensures.points, omega (arith, R.rows_held.pattern.few, c.gather-point_count.ensures.number))

pub returns : goal.returns
returns c =
    let e = c.in_ok-count.ensures in
    let told = promised c.args.sheet.now c.args.log.now c.args.number c.args.placement.count c.args.placement.positions _
    (judged c.args.sheet.now c.args.log.now c.args.number c.args.placement.positions c.args.placement.count _ e.refusal refl _ _ _ e.memory
    c.gather-point_count.result c.gather-point_count.ensures.number c.is_matching.result (omega (arith, c.if-placement-point_count.false)) c.is_matching.ensures) in
    record { answer = told.0; past = told.1 }
