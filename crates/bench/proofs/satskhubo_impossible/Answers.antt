-- `satskhubo_impossible` meets its contract: the answer is the operation's, and its refusal keeps what was lent.
use mathlib.Core.Path.{refl, ap, ◌∙◌}
use native.Mathlib.Omega.{arith}
use Rattle.ruling.specs.Ruling.{Ruled}
use Rattle.ruling.specs.Ruling.{numbered}
use Rattle.bench.specs.Host.{unless_refused}
use Rattle.bench.proofs.Numbers.{refusal-told, left}
use Rattle.bench.proofs.satskhubo_impossible.Goals as goal

pub returns : goal.returns
returns c =
    let e = c.is_impossible.ensures.answer in
    record {
      answer = refusal-told numbered (λ (z : Ruled). z.refusal) (λ (z : Ruled). z.impossible) (record { accepted = λ v. refl; found = λ v. refl; refused = λ r. refl }) c.is_impossible.result _ (λ v is. grind arith) (λ r is. grind arith) ∙ ap (λ (z : Ruled). z.refusal) e;
      memory = left numbered (λ (z : Ruled). z.refusal) (λ (z : Ruled). z.impossible) (record { accepted = λ v. refl; found = λ v. refl; refused = λ r. refl }) c.is_impossible.result _ c.args.impossible.now (λ v is. grind arith) (λ r is. grind arith) ∙ ap (λ (z : Ruled). unless_refused z.refusal z.impossible c.args.impossible.now) e;
    }
