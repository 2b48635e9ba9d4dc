-- `deny_row` meets its contract: the rows that are brought, and the own rows after them.
use Rattle.introduction.proofs.Bringing.{brought-short}
use Rattle.denial.proofs.Building.{row_counts, row-section, row_done}
use native.Mathlib.Omega.{arith}
use Rattle.denial.proofs.deny_row.Goals as goal

pub own_rows-requires : goal.own_rows-requires
own_rows-requires c =
    let a = c.args in
    let p = c.requires in
    let l = c.line_at-line in (
      row_counts a.rows.now a.n a.i a.v l.result l.ensures p.5,
      row-section a.rows.now a.n a.i a.v l.result l.ensures p.4,
      omega (arith, p.1, p.2, p.3, c.bring-end.ensures.ends, brought-short a.rows.now l.result.section a.i c.mark_uses.new.marks),
    )

pub returns : goal.returns
returns c =
    let a = c.args in
    let l = c.line_at-line in
    let told = row_done a.rows.now a.n a.i a.v l.result l.ensures _ c.far_end.ensures a.at c.bring-end.result _ _ a.out.now _ _
    c.mark_uses.ensures c.bring-end.ensures.ends c.bring-end.ensures.memory c.own_rows.ensures.ends c.own_rows.ensures.memory in
    record { ends = told.0; memory = told.1 }
