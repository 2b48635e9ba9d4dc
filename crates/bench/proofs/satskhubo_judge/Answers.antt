-- `satskhubo_judge` meets its contract: the answer is the operation's, and its refusal keeps what was lent.
use mathlib.Core.Path.{refl, ap, ◌∙◌}
use native.Mathlib.Omega.{arith}
use Rattle.antiscenario.specs.Judge.{Judged}
use Rattle.antiscenario.specs.Numbered.{numbered_judge}
use Rattle.bench.specs.Host.{unless_refused}
use Rattle.bench.proofs.Numbers.{refusal-told, left}
use Rattle.bench.proofs.satskhubo_judge.Goals as goal

pub returns : goal.returns
returns c =
    let e = c.judge.ensures.answer in
    record {
      answer = refusal-told numbered_judge (λ (z : Judged). z.refusal) (λ (z : Judged). z.met) (record { accepted = λ v. refl; found = λ v. refl; refused = λ r. refl }) c.judge.result _ (λ v is. grind arith) (λ r is. grind arith) ∙ ap (λ (z : Judged). z.refusal) e;
      memory = left numbered_judge (λ (z : Judged). z.refusal) (λ (z : Judged). z.met) (record { accepted = λ v. refl; found = λ v. refl; refused = λ r. refl }) c.judge.result _ c.args.met.now (λ v is. grind arith) (λ r is. grind arith) ∙ ap (λ (z : Judged). unless_refused z.refusal z.met c.args.met.now) e;
    }
