-- The first matching is the smallest, and it is read off where it stands (Finding.read_off).
use mathlib.Core.Path.{refl, sym, ◌∙◌}
use native.Mathlib.Omega.{arith}
use Rattle.scenario.specs.Sheet.{Answer}
use Rattle.scenario.specs.Search.{smallest_matching}
use Rattle.run.specs.Held.{run_held}
use Rattle.row.specs.Memory.{rows_of}
use Rattle.plan.specs.Tables.{count_of_rows}
use Rattle.placement.proofs.Starting.{roomy}
use Rattle.search.proofs.Finding.{read_off, filled_none}
use borrow.Author.Rules.{rules}
use Rattle.search.proofs.find.Goals as goal
use Rattle.search.proofs.find.Goals.{After-first}

-- The first matching has been looked for.
module _ (x : After-first) where
  abbrev answer : Answer
  answer = smallest_matching (run_held x.args.run.now.words) (rows_of x.args.rows.now (count_of_rows x.args.plan.now.tables))

-- none: the places stay
pub returns-then-not-first : goal.returns-then-not-first
returns-then-not-first c =
    let none = sym c.first.ensures.found ∙ c.if-not-first.true in record { found = sym none; places = sym (filled_none c.args.places.now (answer (goal.at.returns-then-not-first c).After-first) none) }

pub copy_out-requires : goal.copy_out-requires
copy_out-requires c =
    let a = c.args in
    (omega (arith, c.requires.0.number, c.requires.1.few), roomy a.run.now.words a.run.now.held a.rows.now a.plan.now.tables c.requires.0 c.requires.1, c.requires.2)

pub returns : goal.returns
returns c =
    let hit = c.if-not-first.false in let a = c.args in record { found = sym hit ∙ c.first.ensures.found; places = c.copy_out.ensures ∙ read_off a.rows.now a.plan.now.tables c.requires.0 c.first.new.positions a.places.now (answer (goal.at.returns c).After-first) (c.first.ensures.stands hit).1 }

pub first-requires : goal.first-requires
first-requires c = (search rules, search rules, refl)
