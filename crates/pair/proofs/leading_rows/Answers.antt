-- `leading_rows` meets its contract: the rows so far are of section 0, and the rest is counted on.
use borrow.Author.Rules.{rules}
use native.Mathlib.Nat.{sub-zero}
use native.Mathlib.Omega.{arith}
use Rattle.row.specs.Memory.{tags_of}
use Rattle.pair.proofs.Antecedent.{lead_end, lead_other, lead_on}
use Rattle.pair.proofs.leading_rows.Goals as goal

pub loop-j-init : goal.loop-j-init
unfolding tags_of
loop-j-init c = rw sub-zero (omega arith)

pub returns-then-section_of-ne0 : goal.returns-then-section_of-ne0
returns-then-section_of-ne0 c =
    let a = c.args in
    omega (arith, lead_other a.rows.now a.count c.loop-j.j (search rules) c.section_of.result c.section_of.ensures c.if-section_of-ne0.true, c.loop-j.invariant)

pub loop-j-preserved : goal.loop-j-preserved
loop-j-preserved c =
    let a = c.args in
    omega (arith, lead_on a.rows.now a.count c.loop-j.j (search rules) c.section_of.result c.section_of.ensures (omega arith), c.loop-j.invariant)

pub returns : goal.returns
returns c =
    let a = c.args in
    omega (arith, lead_end a.rows.now a.count c.loop-j.j c.loop-j-test.false, c.loop-j.invariant)
