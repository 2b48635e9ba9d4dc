-- By how reading the sheet, then the log, ends (Reading).
use mathlib.Core.Path.{◌≡◌, refl, sym, ap}
use native.Mathlib.Omega.{arith}
use Rattle.std.proofs.lemmas.Result.{err_from_is_err_and}
use Rattle.refusal.proofs.Numbers.{sheet_refused}
use Rattle.std.specs.Prelude.{Result as Answer}
use Rattle.runlog.specs.declared.Extent.{Extent}
use Rattle.runlog.specs.declared.Refused.{Refused}
use Rattle.runlog.specs.Numbered.{numbered}
use Rattle.runlog.specs.Log.{Answer as LogAnswer}
use Rattle.runlog.specs.Log.{answer as log-answer}
use Rattle.sheet.specs.Reading.{Answer as SheetAnswer}
use Rattle.sheet.specs.Reading.{answer as sheet-answer}
use Rattle.pair.specs.Pair.{PairHeld}
use Rattle.pair.proofs.Reading.{sheet-refused, log-refused, pair_held}
use Rattle.pair.proofs.load.Goals as goal
use Rattle.pair.proofs.load.Goals.{In_ok-extent, In_ok-load_log}

pub returns-in_err-extent-clause-refusal : goal.returns-in_err-extent-clause-refusal
returns-in_err-extent-clause-refusal c =
    let p = err_from_is_err_and c.from_residual.result c.from_residual.ensures.1 in
    rw (p.1, p.2) (sheet-refused c.args.sheet.now c.args.log.now _ (ap (λ (z : SheetAnswer). z.refusal) c.in_err-extent.ensures.answers) (sheet_refused _))

sheet_accepted : (c : In_ok-extent) → (sheet-answer c.args.sheet.now).refusal ≡ 0
sheet_accepted c = ap (λ (z : SheetAnswer). z.refusal) (sym c.in_ok-extent.ensures.answers)

-- nothing is refused where both are in memory: the number, read by arithmetic
log_accepted : (c : In_ok-load_log) → 0 ≡ (log-answer c.args.log.now).refusal
log_accepted c =
    grind (arith, ap (λ (z : Answer Extent Refused). (numbered z).refusal) c.in_ok-load_log.was, ap (λ (z : LogAnswer). z.refusal) c.load_log.ensures.answers)

pub returns-in_err-load_log-clause-refusal : goal.returns-in_err-load_log-clause-refusal
returns-in_err-load_log-clause-refusal c =
    let p = err_from_is_err_and c.from_residual-in_err-load_log.result c.from_residual-in_err-load_log.ensures.1 in
    let s = sheet_accepted (goal.at.returns-in_err-load_log-clause-refusal c).In_ok-extent in
    rw (p.1, p.2) (log-refused c.args.sheet.now c.args.log.now s _ (ap (λ (z : LogAnswer). z.refusal) c.in_err-load_log.ensures.answers))

-- Both are in memory
both_held : (c : In_ok-load_log) → PairHeld c.args.sheet.now c.args.log.now c.load_sheet.new.rows c.in_ok-extent.extent.rows c.in_ok-extent.extent.k c.load_log.new.run.words
both_held c =
    let e = c.in_ok-extent.ensures in
    let l = c.in_ok-load_log.ensures in
    pair_held c.args.sheet.now c.args.log.now _ e.answers refl _ l.answers refl c.args.rows.now c.load_sheet.new.rows c.requires.0 e.memory c.load_log.new.run.words l.run

pub returns : goal.returns
returns c =
    let s = sheet_accepted (goal.at.returns c).In_ok-extent in
    let l = log_accepted (goal.at.returns c).In_ok-load_log in
    record { refusal = log-refused c.args.sheet.now c.args.log.now s 0 l; memory = both_held (goal.at.returns c).In_ok-load_log }

pub overflow_cast-result : goal.overflow_cast-result
overflow_cast-result c = record { fits = omega (arith, (both_held (goal.at.overflow_cast-result c).In_ok-load_log).sheet.few) }
