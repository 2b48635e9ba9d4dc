-- `read_sheet` meets its contract: what `load_sheet` answers, without the row, k and the rows.
use mathlib.Core.Path.{ap}
use Rattle.std.proofs.lemmas.Result.{err_from_is_err_and}
use Rattle.sheet.specs.Reading.{Answer, SheetCount, count_of}
use Rattle.sheet.proofs.read_sheet.Goals as goal

told : Answer → SheetCount
told a = record { refusal = a.refusal; count = a.count }

pub returns-in_err-extent : goal.returns-in_err-extent
unfolding count_of told
returns-in_err-extent c =
    let p = err_from_is_err_and c.from_residual.result c.from_residual.ensures.1 in rw (p.1, p.2) (ap told c.in_err-extent.ensures.answers)

pub returns : goal.returns
unfolding count_of told
returns c = ap told c.in_ok-extent.ensures.answers
