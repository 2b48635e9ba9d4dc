-- `satskhubo_search` meets its contract: the answer is the operation's, and its refusal keeps what was lent.
use mathlib.Core.Path.{refl, ap, ◌∙◌}
use native.Mathlib.Omega.{arith}
use Rattle.search.specs.Searching.{Searched, answered}
use Rattle.bench.specs.Host.{unless_refused}
use Rattle.bench.proofs.Numbers.{refusal-told, left, places-are}
use Rattle.bench.proofs.satskhubo_search.Goals as goal

pub returns : goal.returns
returns c =
    let e = c.search_antiscenario-answer.ensures.answers in
    record {
      answer = refusal-told (λ r. answered r c.search_antiscenario-answer.new.places) (λ (z : Searched). z.refusal) (λ (z : Searched). z.hit) (record { accepted = λ v. refl; found = λ v. refl; refused = λ r. refl }) c.search_antiscenario-answer.result _ (λ v is. grind arith) (λ r is. grind arith) ∙ ap (λ (z : Searched). z.refusal) e;
      places = places-are c.search_antiscenario-answer.result _ ∙ ap (λ (z : Searched). z.places) e;
      found = left (λ r. answered r c.search_antiscenario-answer.new.places) (λ (z : Searched). z.refusal) (λ (z : Searched). z.hit) (record { accepted = λ v. refl; found = λ v. refl; refused = λ r. refl }) c.search_antiscenario-answer.result _ c.args.found.now (λ v is. grind arith) (λ r is. grind arith) ∙ ap (λ (z : Searched). unless_refused z.refusal z.hit c.args.found.now) e;
    }
