-- `weigh_at` meets its contract: the row is of the section or it is not.
use mathlib.Core.Path.{◌∙◌, ap}
use Prim.Native.Nat.{ℕ}
use native.Mathlib.Omega.{arith}
use Rattle.sheet.specs.Count.{weigh_line}
use Rattle.row.specs.Memory.{line_in}
use Rattle.sheet.proofs.Count.{weighs_own, weighs_none}
use Rattle.sheet.proofs.weigh_at.Goals as goal

pub returns-then-section_of-section : goal.returns-then-section_of-section
returns-then-section_of-section c =
    let a = c.args in
    (weighs_none a.rows.now a.i c.section_of.result c.section_of.ensures a.section c.if-section_of-section.true, omega arith)

pub returns : goal.returns
returns c =
    let a = c.args in (
      weighs_own a.rows.now a.i c.section_of.result c.section_of.ensures c.weigh.result _ _ _ c.weigh.ensures.0 c.kind_of.ensures c.p_of.ensures c.q_of.ensures
          ∙ ap (λ (t : ℕ). weigh_line t (line_in a.rows.now a.i)) c.if-section_of-section.false,
      c.weigh.ensures.1,
    )
