-- `load_antiscenario` meets its contract: each refusal is the definition's, and what is left in memory is the antiscenario and the log.
use mathlib.Core.Path.{refl}
use lib.ListN.{replicate}
use Rattle.std.proofs.lemmas.Result.{err_from_is_err_and, IfOk-weaker}
use Rattle.refusal.proofs.Numbers.{sheet_refused, log_refused}
use Rattle.sheet.proofs.Held.{sheet_loaded, room_1056}
use Rattle.antiscenario.proofs.InMemory.{held_of_text}
use Rattle.antiscenario.proofs.Judging.{sheet-refused, log-refused, number-answered, ready}
use Rattle.antiscenario.proofs.load_antiscenario.Goals as goal

pub returns-in_err-extent-clause-refusal : goal.returns-in_err-extent-clause-refusal
returns-in_err-extent-clause-refusal c =
    let p = err_from_is_err_and c.from_residual.result c.from_residual.ensures.1 in
    rw (p.1, p.2) (sheet-refused c.args.sheet.now c.args.log.now c.args.number _ c.in_err-extent.ensures.answers (sheet_refused _))

pub returns-in_err-load_log-clause-refusal : goal.returns-in_err-load_log-clause-refusal
returns-in_err-load_log-clause-refusal c =
    let p = err_from_is_err_and c.from_residual-in_err-load_log.result c.from_residual-in_err-load_log.ensures.1 in
    rw (p.1, p.2) (log-refused c.args.sheet.now c.args.log.now c.args.number _ c.in_ok-extent.ensures.answers refl _ c.in_err-load_log.ensures.answers (log_refused _))

pub load-requires : goal.load-requires
load-requires c =
    (sheet_loaded c.args.sheet.now _ c.in_ok-extent.ensures.answers refl c.load_sheet.new.rows (replicate 1056 0) room_1056 c.in_ok-extent.ensures.memory, c.requires.0)

pub returns-clause-refusal : goal.returns-clause-refusal
returns-clause-refusal c =
    number-answered c.args.sheet.now c.args.log.now c.args.number _ c.in_ok-extent.ensures.answers refl _ c.in_ok-load_log.ensures.answers refl _ c.load.ensures.refusal

pub returns-clause-memory : goal.returns-clause-memory
returns-clause-memory c =
    let e = c.in_ok-extent.ensures in
    IfOk-weaker c.load.result _ _
    (λ count A. ready c.args.log.now _ c.in_ok-load_log.ensures.run c.args.sheet.now c.args.number _ count (held_of_text c.args.sheet.now _ e.answers refl c.load_sheet.new.rows (replicate 1056 0) room_1056 e.memory c.args.number _ count A))
    c.load.ensures.memory
