-- `all_met` meets its contract: it asks of each row what the definition asks.
use Rattle.scenario.specs.Rows.{meets}
use Rattle.run.specs.Held.{run_held}
use Rattle.row.specs.Memory.{row_at, rows_of}
use Rattle.pattern.specs.Placing.{by}
use Rattle.pattern.proofs.Matching.{all-numbered}
use Rattle.std.proofs.Common.{rules, tests}
use Rattle.std.proofs.lemmas.Iterator.{YieldsList-from_range}
use Rattle.std.proofs.lemmas.Iterator.Search.{all_from_yields_List}
use native.Mathlib.Nat.{sub-zero}
use mathlib.Core.Path.{refl, ◌∙◌}
use Rattle.pattern.proofs.all_met.Goals as goal

pub returns : goal.returns
unfolding rows_of
returns c =
    let met = meets (run_held c.args.run.now.words) (by c.args.positions.now) in
    all_from_yields_List (λ j. met (row_at c.args.rows.now j)) _ _ c.all.result c.all.ensures.ran (YieldsList-from_range 0 c.args.count c.args.count refl (sub-zero c.args.count)) (λ x b q k. search (rules, tests))
    ∙ all-numbered met (row_at c.args.rows.now) 0 c.args.count
