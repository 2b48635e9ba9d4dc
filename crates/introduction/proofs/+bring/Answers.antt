-- `bring` meets its contract by recursion on i: the rows up to the last that is wanted bring the same, and that one comes after those that its points need.
use Rattle.std.proofs.Common.{arith, ◌-◌}
use Rattle.introduction.proofs.Bringing.{bring_zero, bring_same, bring_adds, brought-short}
use Rattle.introduction.proofs.+bring.Goals as goal

pub returns-then-left-eq0 : goal.returns-then-left-eq0
returns-then-left-eq0 t c =
    let a = c.args in
    let w = c.last_wanted-left in
    let both = bring_same a.rows.now a.section a.marks.now w.result a.i a.at a.out.now w.ensures.same.1 _ _ (bring_zero _ _ _ _ _ _ c.if-left-eq0.true) in
    record { ends = both.0; memory = both.1 }

pub put_line-requires : goal.put_line-requires
put_line-requires t c =
    omega (arith, c.requires, c.last_wanted-left.ensures.same.0, c.bring-end.ensures.ends, brought-short c.args.rows.now c.args.section (c.last_wanted-left.result - 1) c.mark_uses.new.marks)

pub overflow_add-result : goal.overflow_add-result
overflow_add-result t c =
    record { fits = omega (arith, c.requires, c.last_wanted-left.ensures.same.0, c.bring-end.ensures.ends, brought-short c.args.rows.now c.args.section (c.last_wanted-left.result - 1) c.mark_uses.new.marks) }

pub returns : goal.returns
returns t c =
    let a = c.args in
    let w = c.last_wanted-left in
    let some = c.if-left-eq0.false in
    let b = c.bring-end in
    let added =
    bring_adds a.rows.now a.section a.marks.now w.result a.at a.out.now some c.line_at-line.result c.line_at-line.ensures b.result c.mark_uses.new.marks _ _
    (w.ensures.last (omega (arith, some))) c.mark_uses.ensures b.ensures.ends b.ensures.memory c.put_line.ensures in
    let both = bring_same a.rows.now a.section a.marks.now w.result a.i a.at a.out.now w.ensures.same.1 _ _ added in
    record { ends = both.0; memory = both.1 }
