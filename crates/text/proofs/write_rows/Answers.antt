-- `write_rows` meets its contract: the lines from number i on, written after those so far, are all of them.
use borrow.Author.Rules.{rules}
use mathlib.Core.Path.{sym, ap, ◌∙◌, subst}
use Prim.Native.Nat.{◌+◌, ◌*◌}
use Rattle.row.specs.declared.Line.{Line}
use Rattle.sheet.specs.Text.{Fits, row_text}
use Rattle.columns.specs.Ink.{inked}
use Rattle.text.proofs.Lines.{at-line}
use Rattle.text.proofs.Ink.{rows_on, rows_end}
use Rattle.text.proofs.write_rows.Goals as goal

pub write_row-requires : goal.write_row-requires
write_row-requires c =
    let a = c.args in
    (search rules, search rules, subst Fits (sym c.line_at.ensures) (at-line Fits a.rows.now a.n 0 c.requires.3 c.loop-i.i (search rules) (search rules)))

pub loop-i-preserved : goal.loop-i-preserved
loop-i-preserved c =
    let a = c.args in
    let l = c.loop-i in
    rows_on a.rows.now l.i a.n l.buf _ c.loop-i-test.true (search rules)
    (c.write_row.ensures ∙ ap (λ (x : Line). inked (7 + 35 * l.i) (row_text x) l.buf) c.line_at.ensures) ∙ l.invariant

pub returns : goal.returns
returns c =
    let a = c.args in
    let l = c.loop-i in
    rows_end a.rows.now l.i a.n l.buf c.loop-i-test.false ∙ l.invariant
