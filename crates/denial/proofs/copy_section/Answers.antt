-- `copy_section` meets its contract: the section's rows from number i on, laid after those so far, are all of them.
use Rattle.denial.proofs.Building.{copy_done, copy_skips, copy_adds, copy_end}
use borrow.Author.Rules.{rules}
use mathlib.Core.Path.{sym, ◌∙◌}
use Rattle.denial.proofs.copy_section.Goals as goal
use Rattle.denial.proofs.copy_section.Goals.{then-line-section, else-line-section}

pub loop-i-preserved : goal.loop-i-preserved
loop-i-preserved c =
    let l = c.loop-i in
    let rows = c.args.rows.now in
    let line = c.line_at-line in
    elim c.if-line-section.branch [
      | then-line-section w ↦
          let r = copy_adds rows c.args.section l.i c.args.n c.loop-i-test.true line.result line.ensures l.at l.out _ w.if-line-section.true w.put_line.ensures in
          rw (w.at-is, w.out-is) (search rules, search rules, r.0 ∙ l.invariant.2, r.1 ∙ l.invariant.3)
      | else-line-section w ↦
          let e = copy_skips rows c.args.section l.i c.args.n c.loop-i-test.true line.result line.ensures 0 l.out w.if-line-section.false in
          rw (w.at-is, w.out-is) (search rules, search rules, rw (sym e) l.invariant.2, rw (sym e) l.invariant.3)
    ]

pub returns : goal.returns
returns c =
    let l = c.loop-i in
    let told = copy_done _ _ _ _ _ (copy_end c.args.rows.now c.args.section l.i c.args.n c.loop-i-test.false) l.invariant.2 l.invariant.3 in
    record { ends = told.0; memory = told.1 }
