-- `satskhubo_read_sheet` meets its contract: the answer is the operation's, and its refusal keeps what was lent.
use mathlib.Core.Path.{refl, ap, ◌∙◌}
use native.Mathlib.Omega.{arith}
use Rattle.sheet.specs.Reading.{SheetCount}
use Rattle.sheet.specs.Numbered.{numbered_count}
use Rattle.bench.specs.Host.{unless_refused}
use Rattle.bench.proofs.Numbers.{refusal-told, left}
use Rattle.bench.proofs.satskhubo_read_sheet.Goals as goal

pub returns : goal.returns
returns c =
    let e = c.read_sheet.ensures in
    record {
      answer = refusal-told numbered_count (λ (z : SheetCount). z.refusal) (λ (z : SheetCount). z.count) (record { accepted = λ v. refl; found = λ v. refl; refused = λ r. refl }) c.read_sheet.result _ (λ v is. grind arith) (λ r is. grind arith) ∙ ap (λ (z : SheetCount). z.refusal) e;
      memory = left numbered_count (λ (z : SheetCount). z.refusal) (λ (z : SheetCount). z.count) (record { accepted = λ v. refl; found = λ v. refl; refused = λ r. refl }) c.read_sheet.result _ c.args.count.now (λ v is. grind arith) (λ r is. grind arith) ∙ ap (λ (z : SheetCount). unless_refused z.refusal z.count c.args.count.now) e;
    }
