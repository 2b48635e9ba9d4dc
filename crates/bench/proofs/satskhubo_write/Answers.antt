-- `satskhubo_write` meets its contract: the answer is the operation's, and its refusal keeps what was lent.
use mathlib.Core.Path.{refl, ap, ◌∙◌}
use native.Mathlib.Omega.{arith}
use Rattle.antiscenario.specs.Write.{Written}
use Rattle.antiscenario.specs.Numbered.{numbered_write}
use Rattle.bench.specs.Host.{unless_refused}
use Rattle.bench.proofs.Numbers.{refusal-told, left}
use Rattle.bench.proofs.satskhubo_write.Goals as goal

pub returns : goal.returns
returns c =
    let e = c.write_antiscenario-written.ensures.answer in
    record {
      answer = refusal-told numbered_write (λ (z : Written). z.refusal) (λ (z : Written). z.length) (record { accepted = λ v. refl; found = λ v. refl; refused = λ r. refl }) c.write_antiscenario-written.result _ (λ v is. grind arith) (λ r is. grind arith) ∙ ap (λ (z : Written). z.refusal) e;
      buffer = c.write_antiscenario-written.ensures.memory;
      size = left numbered_write (λ (z : Written). z.refusal) (λ (z : Written). z.length) (record { accepted = λ v. refl; found = λ v. refl; refused = λ r. refl }) c.write_antiscenario-written.result _ c.args.size.now (λ v is. grind arith) (λ r is. grind arith) ∙ ap (λ (z : Written). unless_refused z.refusal z.length c.args.size.now) e;
    }
