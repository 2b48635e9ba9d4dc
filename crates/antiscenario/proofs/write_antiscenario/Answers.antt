-- `write_antiscenario` meets its contract: each refusal leaves the buffer, and what is written is the text of the rows that `load_text` stored.
use native.Mathlib.Omega.{arith}
use Rattle.std.proofs.lemmas.Result.{err_from_is_err_and}
use Rattle.refusal.proofs.Numbers.{is_refused}
use Rattle.antiscenario.proofs.Writing.{not_written, too_short, done}
use Rattle.antiscenario.proofs.write_antiscenario.Goals as goal

pub returns-in_err-stored-clause-answer : goal.returns-in_err-stored-clause-answer
returns-in_err-stored-clause-answer c =
    let p = err_from_is_err_and c.from_residual.result c.from_residual.ensures.1 in
    rw (p.1, p.2) ((not_written c.args.sheet.now c.args.number _ c.in_err-stored.ensures.refusal c.args.buf.now (is_refused _)).0)

pub returns-in_err-stored-clause-memory : goal.returns-in_err-stored-clause-memory
returns-in_err-stored-clause-memory c =
    (not_written c.args.sheet.now c.args.number _ c.in_err-stored.ensures.refusal c.args.buf.now (is_refused _)).1

pub returns-then-buf-size : goal.returns-then-buf-size
returns-then-buf-size c =
    let e = c.in_ok-stored.ensures in
    let w = too_short c.args.sheet.now c.args.number _ e.refusal c.args.buf.now _ _ _ e.memory c.if-buf-size.true in
    record { answer = w.0; memory = w.1 }

pub write_text-requires : goal.write_text-requires
write_text-requires c =
    let H = c.in_ok-stored.ensures.memory in
    (c.if-buf-size.false, omega (arith, H.rows_held.few), H.rows_held.room, omega (arith, H.few_consequents), H.rows_held.columns)

pub returns : goal.returns
returns c =
    let e = c.in_ok-stored.ensures in
    let w = done c.args.sheet.now c.args.number _ e.refusal c.args.buf.now _ _ _ e.memory c.write_text.new.buf c.if-buf-size.false c.write_text.ensures in
    record { answer = w.0; memory = w.1 }
