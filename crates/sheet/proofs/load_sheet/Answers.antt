-- `load_sheet` meets its contract: carried by Whole, a law to each way the reading ends.
use borrow.Author.Rules.{rules}
use mathlib.Core.Path.{◌≡◌, refl, sym, ap, ◌∙◌}
use mathlib.Core.List.{List}
use Prim.Native.Nat.{ℕ}
use native.Mathlib.Omega.{arith}
use Rattle.std.proofs.lemmas.Result.{err_from_is_err_and}
use Rattle.refusal.proofs.Numbers.{sheet_refused}
use Rattle.scenario.specs.Sheet.{count}
use Rattle.sheet.specs.Reading.{rows_from, sheet_of}
use Rattle.rules.specs.Rules.{start}
use Rattle.sheet.specs.Count.{product}
use Rattle.row.specs.Memory.{lines_in}
use Rattle.row.proofs.Memory.{lay-length}
use Rattle.sheet.proofs.Whole.{head-refused, head_memory, good, memory, row-refused, memory_count, done}
use Rattle.sheet.proofs.load_sheet.Goals as goal
use Rattle.sheet.proofs.load_sheet.Goals.{After-product_of}

pub returns-in_err-head-clause-answers : goal.returns-in_err-head-clause-answers
returns-in_err-head-clause-answers c =
    let p = err_from_is_err_and c.from_residual.result c.from_residual.ensures.1 in rw (p.1, p.2) (head-refused _ _ c.in_err-head.ensures (sheet_refused _))

pub returns-in_err-head-clause-memory : goal.returns-in_err-head-clause-memory
returns-in_err-head-clause-memory c = head_memory _ _ c.in_err-head.ensures (sheet_refused _) _

pub read_rows-requires : goal.read_rows-requires
read_rows-requires c =
    let g = good _ _ c.in_ok-head.ensures refl in
    (g.k, g.rows, omega (arith, g.length), search rules)

pub returns-in_err-read_rows-clause-answers : goal.returns-in_err-read_rows-clause-answers
returns-in_err-read_rows-clause-answers c =
    let p = err_from_is_err_and c.from_residual-in_err-read_rows.result c.from_residual-in_err-read_rows.ensures.1 in
    let r = c.in_err-read_rows.ensures.err in rw (p.1, p.2) (row-refused _ _ c.in_ok-head.ensures refl _ _ r.0 r.1 (sheet_refused _))

pub returns-in_err-read_rows-clause-memory : goal.returns-in_err-read_rows-clause-memory
returns-in_err-read_rows-clause-memory c = c.in_err-read_rows.ensures.memory ∙ memory _ _ c.in_ok-head.ensures refl _

pub product_of-requires : goal.product_of-requires
product_of-requires c =
    let g = good _ _ c.in_ok-head.ensures refl in
    (g.rows, g.k, rw c.in_ok-read_rows.ensures.memory (rw lay-length (search rules)))

-- the count, where no row is refused
counted : (c : After-product_of)
    → c.product_of.result ≡ count (sheet_of c.in_ok-head.head.k (rows_from c.in_ok-head.head.k c.args.s.now 0 c.in_ok-head.head.rows start).lines)
counted c =
    c.product_of.ensures
    ∙ ap (λ (m : List ℕ). product 1 c.in_ok-head.head.k (lines_in m 0 c.in_ok-head.head.rows)) c.in_ok-read_rows.ensures.memory
    ∙ memory_count _ _ c.in_ok-head.ensures refl (sym c.in_ok-read_rows.ensures.ok) _ (search rules)

pub returns : goal.returns
returns c =
    let e = c.in_ok-head.ensures in
    let r = c.in_ok-read_rows.ensures in record { answers = done _ _ e refl (sym r.ok) c.args.rows.now c.requires _ (counted (goal.at.returns c).After-product_of); memory = r.memory ∙ memory _ _ e refl _ }
