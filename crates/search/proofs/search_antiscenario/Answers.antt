-- Refused, or the search of the antiscenario and the log that are in memory (Searching.refused, in_memory).
use mathlib.Core.Path.{sym}
use native.Mathlib.Omega.{arith}
use Rattle.std.proofs.lemmas.Result.{err_from_is_err_and}
use Rattle.refusal.proofs.Numbers.{is_refused}
use Rattle.runlog.proofs.Loading.{all-zeros}
use Rattle.antiscenario.proofs.InMemory.{room_1200}
use Rattle.search.proofs.Searching.{told, refused, in_memory, where_accepted}
use Rattle.search.proofs.search_antiscenario.Goals as goal

pub load_antiscenario-requires : goal.load_antiscenario-requires
load_antiscenario-requires c = (room_1200, rw c.new-run.ensures (all-zeros 8100))

pub returns-in_err-count-clause-answers : goal.returns-in_err-count-clause-answers
returns-in_err-count-clause-answers c =
    let p = err_from_is_err_and c.from_residual.result c.from_residual.ensures.1 in
    rw (p.1, p.2) (refused c.args.sheet.now c.args.log.now c.args.number c.args.places.now _ c.in_err-count.ensures.refusal (is_refused _))

pub search_rows-requires : goal.search_rows-requires
search_rows-requires c =
    let R = c.in_ok-count.ensures.memory in
    (R.blank, omega (arith, R.rows_held.few), R.rows_held.pattern)

pub returns : goal.returns
returns c =
    let e = c.in_ok-count.ensures in
    let told = told c.args.sheet.now c.args.log.now c.args.number c.args.places.now _
    (in_memory c.args.sheet.now c.args.log.now c.args.number c.args.places.now (sym e.refusal) c.load_antiscenario.new.out c.load_antiscenario.new.run.words c.in_ok-count.count e.memory _ c.search_rows.ensures) in record { answers = told.0; says = where_accepted c.search_rows.result _ c.search_rows.new.places told.1 }
