-- `all_lines` meets its contract: it asks of each position what the definition asks.
use Rattle.pattern.specs.Placing.{is_position}
use Rattle.pattern.proofs.Matching.{all-listed}
use Rattle.std.proofs.Common.{rules, tests}
use Rattle.std.proofs.lemmas.Iterator.{YieldsList-from_slice}
use Rattle.std.proofs.lemmas.Iterator.Search.{all_from_yields_List}
use mathlib.Core.Path.{◌∙◌}
use Rattle.pattern.proofs.all_lines.Goals as goal

pub returns : goal.returns
unfolding is_position
returns c =
    all_from_yields_List (is_position c.args.n) _ _ _ c.all.ensures.ran (YieldsList-from_slice c.args.positions.now cc) (λ x b q k. search (rules, tests))
    ∙ all-listed (is_position c.args.n) c.args.positions.now
