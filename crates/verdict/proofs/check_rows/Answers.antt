-- The plan is drawn up for the antecedent's rows, and the run stays the same; then `first_violation` answers.
use mathlib.Core.Path.{◌∙◌, ap}
use native.Mathlib.Omega.{arith}
use Rattle.scenario.specs.Rows.{Run}
use Rattle.scenario.specs.Search.{check}
use Rattle.runlog.proofs.Loading.{all-zeros}
use Rattle.sheet.specs.Held.{sheet_at}
use Rattle.plan.specs.declared.Tables.{Tables}
use Rattle.pair.specs.Antecedent.{AntecedentPlanned}
use Rattle.verdict.specs.Check.{verdict_of}
use Rattle.verdict.proofs.Skipping.{section-small}
use borrow.Author.Rules.{rules}
use Rattle.verdict.proofs.check_rows.Goals as goal
use Rattle.verdict.proofs.check_rows.Goals.{After-prepare-plan}

-- The plan is drawn up.
module _ (p : After-prepare-plan) where
  abbrev plan : Tables
  plan = p.prepare-plan.result.tables

  planned : AntecedentPlanned p.args.rows.now p.args.count p.args.k plan
  planned = p.prepare-plan.ensures.planned p.args.k p.requires.1

pub reach-requires : goal.reach-requires
reach-requires c =
    let a = c.args in
    let A = planned (goal.at.reach-requires c).After-prepare-plan in
    (c.requires.1.few, section-small a.rows.now a.count a.k c.requires.1, omega (arith, A.drawn.number, A.pattern.few), omega (arith, A.drawn.number, A.pattern.few, A.drawn.room), search rules, all-zeros 7)

pub first_violation-requires : goal.first_violation-requires
first_violation-requires c =
    (c.requires.1, planned (goal.at.first_violation-requires c).After-prepare-plan, c.reach.ensures)

pub returns : goal.returns
returns c =
    let a = c.args in
    let sheet = sheet_at a.rows.now a.count a.k in
    c.first_violation.ensures ∙ ap (λ (g : Run). verdict_of g sheet (check g sheet)) c.prepare-plan.ensures.same

pub prepare-plan-requires : goal.prepare-plan-requires
prepare-plan-requires c = (c.requires.0, (c.args.k, c.requires.1))
