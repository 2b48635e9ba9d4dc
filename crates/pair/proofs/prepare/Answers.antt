-- The rows at the front are the antecedent's, and the plan is drawn up for them (Antecedent); drawing maps leaves the run the same.
use mathlib.Core.Path.{◌≡◌, ◌∙◌}
use Prim.Native.Nat.{ℕ}
use lib.ListN.{length}
use Rattle.sheet.specs.Held.{sheet_at, SheetHeld}
use Rattle.pair.proofs.Antecedent.{antecedent-count, antecedent-small, rows-pattern, antecedent-planned}
use Rattle.pair.proofs.prepare.Goals as goal
use Rattle.pair.proofs.prepare.Goals.{After-leading_rows}

all-antecedent : (c : After-leading_rows) → let a = c.args in (k : ℕ) → SheetHeld a.rows.now a.count k
    → c.leading_rows.result ≡ length (sheet_at a.rows.now a.count k).antecedent
all-antecedent c k S = let a = c.args in c.leading_rows.ensures ∙ antecedent-count a.rows.now a.count k S

pub prepare-plan-requires : goal.prepare-plan-requires
prepare-plan-requires c =
    let a = c.args in
    let k = c.requires.1.0 in
    let S = c.requires.1.1 in
    (antecedent-small a.rows.now a.count k S c.leading_rows.result (all-antecedent (goal.at.prepare-plan-requires c).After-leading_rows k S), (rows-pattern a.rows.now a.count k S c.leading_rows.result (all-antecedent (goal.at.prepare-plan-requires c).After-leading_rows k S)).few)

pub returns : goal.returns
returns c =
    let a = c.args in record { same = c.draw_maps.ensures.same; planned = λ k S. antecedent-planned a.rows.now a.count k S c.prepare-plan.result.tables (c.prepare-plan.ensures.rows ∙ all-antecedent (goal.at.returns c).After-leading_rows k S) c.prepare-plan.ensures.drawn }
