-- `read_log` meets its contract: what the inner reader answers is cut down to the refusal and the line count, which is small.
use mathlib.Core.Path.{ap}
use native.Mathlib.Omega.{arith}
use Rattle.std.proofs.lemmas.Result.{err_from_is_err_and}
use Rattle.runlog.specs.Log.{Answer}
use Rattle.runlog.specs.Log.{without_line, lines_read}
use Rattle.runlog.proofs.Whole.{answer-few}
use Rattle.runlog.proofs.Loading.{all-zeros}
use Rattle.runlog.proofs.read_log.Goals as goal

pub load_log-requires : goal.load_log-requires
load_log-requires c = rw c.new-run.ensures (all-zeros 8100)

pub returns-in_err-extent : goal.returns-in_err-extent
unfolding lines_read
returns-in_err-extent c =
    let p = err_from_is_err_and c.from_residual.result c.from_residual.ensures.1 in rw (p.1, p.2) (ap without_line c.in_err-extent.ensures.answers)

pub overflow_cast-result : goal.overflow_cast-result
overflow_cast-result c = record { fits = omega (arith, ap (λ (a : Answer). a.n) c.in_ok-extent.ensures.answers, answer-few c.args.log.now) }

pub returns : goal.returns
unfolding lines_read
returns c = ap without_line c.in_ok-extent.ensures.answers
