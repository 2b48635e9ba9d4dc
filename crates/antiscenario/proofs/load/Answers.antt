-- `load` meets its contract: 31 where a test finds the number below 1 or above N, else the rows built from the sheet in memory.
use borrow.Author.Rules.{rules}
use native.Mathlib.Omega.{arith}
use Rattle.sheet.specs.Held.{sheet_at}
use Rattle.antiscenario.specs.Held.{AntiscenarioHeld}
use Rattle.antiscenario.proofs.InMemory.{number-out, few_consequents, product_is, antiscenario-held}
use Rattle.antiscenario.proofs.load.Goals as goal
use Rattle.antiscenario.proofs.load.Goals.{After-build-n}

pub returns-then-not-contains-clause-refusal : goal.returns-then-not-contains-clause-refusal
returns-then-not-contains-clause-refusal c = number-out c.args.extent.count c.args.number (λ l. grind arith)

pub build-n-requires : goal.build-n-requires
build-n-requires c =
    let L = c.requires.0 in
    (L.room, L.held.few, few_consequents c.args.rows.now _ L, search rules, product_is c.args.rows.now _ L)

-- and what is built is held
held : (c : After-build-n) → AntiscenarioHeld (sheet_at c.args.rows.now c.args.extent.rows c.args.extent.k) c.args.number c.build-n.new.out c.build-n.result
held c =
    antiscenario-held c.args.rows.now _ c.requires.0 c.args.number c.build-n.new.out c.args.out.now c.build-n.result c.requires.1 c.build-n.ensures.ends c.build-n.ensures.memory (search rules) (search rules)

pub returns-clause-memory : goal.returns-clause-memory
returns-clause-memory c = held (goal.at.returns-clause-memory c).After-build-n

pub overflow_cast-result : goal.overflow_cast-result
overflow_cast-result c = record { fits = omega (arith, (held (goal.at.overflow_cast-result c).After-build-n).few) }
