-- `last_wanted` meets its contract: the rows passed are not wanted, and what is left brings the same.
use borrow.Author.Rules.{rules}
use mathlib.Core.Path.{sym, ap, ◌∙◌}
use native.Mathlib.Omega.{arith}
use Rattle.introduction.specs.Bringing.{wanted}
use Rattle.introduction.proofs.Bringing.{brought_skip, brought-before}
use Rattle.introduction.proofs.last_wanted.Goals as goal

pub loop-j-preserved : goal.loop-j-preserved
loop-j-preserved c =
    let l = c.loop-j in
    let a = c.args in
    let w = ap (wanted a.marks.now a.section) (sym c.line_at.ensures) ∙ sym c.is_wanted.ensures ∙ c.if-is_wanted.false in
    sym (brought_skip a.rows.now a.section a.marks.now l.j (λ e. omega (arith, c.loop-j-test.true)) w) ∙ l.invariant

pub returns-clause-same : goal.returns-clause-same
returns-clause-same c =
    let l = c.loop-j in
    let a = c.args in
    let none = brought-before a.rows.now a.section a.marks.now a.from in
    (search rules, none 0 c.requires.1 (omega arith) ∙ sym (none l.j c.requires.1 c.loop-j-test.false) ∙ l.invariant)
