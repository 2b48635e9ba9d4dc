-- `satskhubo_read_log` meets its contract: the answer is the operation's, and its refusal keeps what was lent.
use mathlib.Core.Path.{refl, ap, ◌∙◌}
use native.Mathlib.Omega.{arith}
use Rattle.runlog.specs.Log.{LogRead}
use Rattle.runlog.specs.Numbered.{numbered_lines}
use Rattle.bench.specs.Host.{unless_refused}
use Rattle.bench.proofs.Numbers.{refusal-told, left}
use Rattle.bench.proofs.satskhubo_read_log.Goals as goal

pub returns : goal.returns
returns c =
    let e = c.read_log.ensures in
    record {
      answer = refusal-told numbered_lines (λ (z : LogRead). z.refusal) (λ (z : LogRead). z.lines) (record { accepted = λ v. refl; found = λ v. refl; refused = λ r. refl }) c.read_log.result _ (λ v is. grind arith) (λ r is. grind arith) ∙ ap (λ (z : LogRead). z.refusal) e;
      memory = left numbered_lines (λ (z : LogRead). z.refusal) (λ (z : LogRead). z.lines) (record { accepted = λ v. refl; found = λ v. refl; refused = λ r. refl }) c.read_log.result _ c.args.lines.now (λ v is. grind arith) (λ r is. grind arith) ∙ ap (λ (z : LogRead). unless_refused z.refusal z.lines c.args.lines.now) e;
    }
