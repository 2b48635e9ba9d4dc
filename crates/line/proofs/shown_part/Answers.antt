-- `shown_part` meets its contract: by how reading the sheet, then the log, ends.
use mathlib.Core.Path.{refl, ◌∙◌}
use Rattle.refusal.proofs.Numbers.{sheet_refused, log_refused}
use Rattle.runlog.proofs.Loading.{all-zeros}
use Rattle.line.proofs.Showing.{row_stands_of, line_stands_of, part-sheet, part_log, part_none, inside_is}
use Rattle.line.proofs.shown_part.Goals as goal

pub line_part-requires : goal.line_part-requires
line_part-requires c = row_stands_of c.args.sheet.now _ c.in-Err.ensures.answers

pub returns-in-Err : goal.returns-in-Err
returns-in-Err c =
    let q = c.line_part.ensures ∙ part-sheet c.args.sheet.now c.args.log.now _ c.in-Err.ensures.answers (sheet_refused _) in
    record { answer = q; inside = inside_is c.args.sheet.now c.args.log.now _ q }

pub load_log-requires : goal.load_log-requires
load_log-requires c = rw c.new-run.ensures (all-zeros 8100)

pub line_part-requires-in-Err-load_log : goal.line_part-requires-in-Err-load_log
line_part-requires-in-Err-load_log c = line_stands_of c.args.log.now _ c.in-Err-load_log.ensures.answers

pub returns-in-Err-load_log : goal.returns-in-Err-load_log
returns-in-Err-load_log c =
    let q = c.line_part-in-Err-load_log.ensures
    ∙ part_log c.args.sheet.now c.args.log.now _ c.in_default.ensures.answers refl _ c.in-Err-load_log.ensures.answers (log_refused _) in
    record { answer = q; inside = inside_is c.args.sheet.now c.args.log.now _ q }

pub returns : goal.returns
returns c =
    let q = part_none c.args.sheet.now c.args.log.now _ c.in_default.ensures.answers refl _ c.in_default-load_log.ensures.answers refl in
    record { answer = q; inside = inside_is c.args.sheet.now c.args.log.now _ q }
