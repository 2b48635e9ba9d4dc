-- `torn` meets its contract: the row has its points apart, or asks a set, or neither.
use mathlib.Core.Path.{sym, ◌∙◌}
use borrow.Author.Rules.{rules}
use Rattle.row.specs.Memory.{rows_of}
use Rattle.contradiction.proofs.Telling.{line_apart, line_sets, line-neither}
use Rattle.contradiction.proofs.torn.Goals as goal

pub returns-then-line-eq-APART : goal.returns-then-line-eq-APART
returns-then-line-eq-APART c =
    let a = c.args in
    let line = c.line_at-line in
    line_apart a.rows.now a.j line.result line.ensures (c.requires.2 a.j c.requires.1) a.table.now (rows_of a.rows.now a.n) _ c.leads.ensures c.if-line-eq-APART.true

pub returns-then-asking : goal.returns-then-asking
returns-then-asking c =
    let a = c.args in
    let line = c.line_at-line in
    line_sets a.rows.now a.j line.result line.ensures (c.requires.2 a.j c.requires.1) a.table.now (rows_of a.rows.now a.n) c.if-line-eq-APART.false
    (sym c.asking.ensures ∙ c.if-asking.true) c.common.result (search rules) c.common.ensures

pub returns-else-asking : goal.returns-else-asking
returns-else-asking c =
    let a = c.args in
    let line = c.line_at-line in
    c.if-asking.false
    ∙ line-neither a.rows.now a.j line.result line.ensures (c.requires.2 a.j c.requires.1) a.table.now (rows_of a.rows.now a.n) c.if-line-eq-APART.false (sym c.asking.ensures ∙ c.if-asking.false)
