-- `satskhubo_show` meets its contract: the part is the one that the check's refusal is about.
use mathlib.Core.Path.{ap, ◌∙◌}
use Prim.Native.Nat.{◌-◌}
use Rattle.line.specs.Showing.{Part}
use Rattle.bench.proofs.satskhubo_show.Goals as goal

pub returns : goal.returns
returns c =
    let e = c.shown_part-part.ensures.answer in
    record {
      answer = c.number_of.ensures ∙ ap (λ (x : Part). x.refusal) e;
      text = c.is_log.ensures ∙ ap (λ (x : Part). x.log) e;
      offset = ap (λ (x : Part). x.from) e;
      size = ap (λ (x : Part). x.to - x.from) e;
    }
