-- `weigh_sections` meets its contract: the sums so far and what is left make the whole, for every section.
use borrow.Author.Rules.{rules}
use native.Mathlib.Omega.{arith}
use Rattle.sheet.proofs.Count.{weighs_own, sums_none, sums_skip, sums_add, sums_all}
use Rattle.sheet.proofs.weigh_sections.Goals as goal
use Rattle.sheet.proofs.weigh_sections.Goals.{then-section-lt-SECTIONS, else-section-lt-SECTIONS}

pub loop-i-init : goal.loop-i-init
loop-i-init c = sums_none _ _ _ c.requires.2

pub overflow_add-denials : goal.overflow_add-denials
overflow_add-denials c =
    let few = c.loop-i.invariant.low c.section_of-section.result c.if-section-lt-SECTIONS.true in
    record { fits = omega (arith, few, c.loop-i-test.true, c.requires.0, c.weigh.ensures.1) }

pub loop-i-preserved : goal.loop-i-preserved
loop-i-preserved c =
    let l = c.loop-i in
    let section = c.section_of-section.ensures in
    elim c.if-section-lt-SECTIONS.branch [
      | then-section-lt-SECTIONS w ↦
          let own = weighs_own _ l.i _ section _ _ _ _ w.weigh.ensures.0 w.kind_of.ensures w.p_of.ensures w.q_of.ensures in
          rw w.denials-is (sums_add _ _ l.i _ c.loop-i-test.true l.invariant _ section w.if-section-lt-SECTIONS.true w.weigh.result own w.weigh.ensures.1)
      | else-section-lt-SECTIONS w ↦
          rw w.denials-is (sums_skip _ _ l.i _ c.loop-i-test.true l.invariant _ section w.if-section-lt-SECTIONS.false)
    ]

pub returns : goal.returns
returns c = let l = c.loop-i in sums_all _ _ l.i _ c.loop-i-test.false (search rules) l.invariant
