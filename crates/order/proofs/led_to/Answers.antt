-- `led_to` meets its contract: the table tells where the section's rows from number i on lead.
use mathlib.Core.Path.{◌≡◌, sym, ◌∙◌, subst}
use mathlib.Core.List.{List}
use Prim.Native.Nat.{ℕ}
use native.Mathlib.Omega.{arith}
use Rattle.scenario.specs.Links.{Link, leads}
use Rattle.row.specs.Memory.{line_in}
use Rattle.links.specs.Table.{Tells}
use Rattle.order.specs.Leading.{places}
use Rattle.order.proofs.Entering.{is-low, none-entered, other-section, other-kind, row-entered, all-entered}
use borrow.Author.Rules.{rules}
use Rattle.order.proofs.led_to.Goals as goal
use Rattle.order.proofs.led_to.Goals.{else-section_of-section-via-then-section_of-section+else-kind_of-eq-BEFORE, else-section_of-section-via-else-section_of-section}

-- the section's number, by arithmetic
the-section : (s t : ℕ) → s ≡ t → s ≡ t
the-section s t e = e

pub loop-i-init : goal.loop-i-init
loop-i-init c = none-entered _ _ _ _ _ c.begin.ensures

pub loop-i-preserved-then-kind_of-eq-BEFORE : goal.loop-i-preserved-then-kind_of-eq-BEFORE
unfolding line_in
loop-i-preserved-then-kind_of-eq-BEFORE c =
    let l = c.loop-i in
    row-entered _ _ _ l.i _ c.loop-i-test.true (omega arith) (sym c.section_of.ensures ∙ the-section c.section_of.result c.args.section (omega arith)) (sym c.kind_of.ensures ∙ c.if-kind_of-eq-BEFORE.true)
    c.line_at.result c.line_at.ensures l.table _ l.invariant c.enter_row.ensures

pub loop-i-preserved : goal.loop-i-preserved
unfolding line_in
loop-i-preserved c =
    let l = c.loop-i in
    let a = c.args in
    elim c.else-section_of-section.branch [
      | else-section_of-section-via-then-section_of-section+else-kind_of-eq-BEFORE w ↦
          let e = other-kind a.rows.now a.section a.upward l.i a.n c.loop-i-test.true (omega arith) (sym c.section_of.ensures ∙ w.if-section_of-section.true) (λ q. w.if-kind_of-eq-BEFORE.false (w.kind_of.ensures ∙ q)) in
          subst (λ (ls : List Link). Tells places l.table (leads ls)) (sym e) l.invariant
      | else-section_of-section-via-else-section_of-section w ↦
          let e = other-section a.rows.now a.section a.upward l.i a.n c.loop-i-test.true (omega arith) (λ q. let s : c.section_of.result ≡ a.section = c.section_of.ensures ∙ q in omega (arith, s, w.if-section_of-section.false)) in
          subst (λ (ls : List Link). Tells places l.table (leads ls)) (sym e) l.invariant
    ]

pub returns : goal.returns
returns c =
    let l = c.loop-i in all-entered _ _ _ l.i _ l.table c.loop-i-test.false l.invariant _ _ c.place.ensures

pub bounds-table-place : goal.bounds-table-place
bounds-table-place c = let h = is-low _ _ c.place.ensures in search rules
