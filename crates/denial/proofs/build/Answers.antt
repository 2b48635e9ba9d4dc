-- `build` meets its contract: the rows of the sections from s on, laid after those so far, are all that is built; the total is the product over these sections.
use borrow.Author.Rules.{rules}
use mathlib.Core.Path.{◌≡◌, refl, ◌∙◌}
use Prim.Native.Nat.{◌≤◌, ◌+◌, ◌-◌, ◌/◌}
use native.Mathlib.Omega.{arith}
use lib.ListN.{get_or}
use Rattle.row.specs.Memory.{lines_in}
use Rattle.sheet.specs.Count.{weighed, product}
use Rattle.denial.proofs.Building.{weighs, total-step, total-low, section-done, sections-end, built_memory, copy_short, denial_short, copy_done}
use Rattle.denial.proofs.build.Goals as goal
use Rattle.denial.proofs.build.Goals.{In-loop-s}

pub loop-s-init : goal.loop-s-init
loop-s-init c =
    let all : c.args.k + 1 - 1 ≡ c.args.k = omega arith in
    (refl, omega (arith, c.requires.1, c.copy_section-at.ensures.ends, copy_short c.args.rows.now 0 c.args.n 0), c.requires.3, rw all c.requires.4, rw all refl, rw all refl)

-- the denials of the section in turn
denials : (c : In-loop-s) → get_or c.weigh_sections.new.denials c.loop-s.s 0 ≡ weighed c.loop-s.s (lines_in c.args.rows.now 0 c.args.n)
denials c = c.weigh_sections.ensures.denials_of c.loop-s.s (search rules)

-- the total is a multiple of them
low : (c : In-loop-s) → (1 ≤ get_or c.weigh_sections.new.denials c.loop-s.s 0) × (1 ≤ c.loop-s.total / get_or c.weigh_sections.new.denials c.loop-s.s 0)
low c =
    let a = c.args in
    let l = c.loop-s in (
      weighs a.rows.now a.n l.s a.k (search rules) l.total _ l.invariant.3 (denials c) l.invariant.2,
      total-low a.rows.now a.n l.s a.k (search rules) l.total _ l.invariant.3 (denials c) l.invariant.2,
    )

pub nonzero_div-total : goal.nonzero_div-total
nonzero_div-total c = (low (goal.at.nonzero_div-total c).In-loop-s).0

pub nonzero_div-left : goal.nonzero_div-left
nonzero_div-left c = (low (goal.at.nonzero_div-left c).In-loop-s).1

pub nonzero_rem-left : goal.nonzero_rem-left
nonzero_rem-left c = (low (goal.at.nonzero_rem-left c).In-loop-s).1

pub deny_section-at-requires : goal.deny_section-at-requires
deny_section-at-requires c =
    (search rules, search rules, search rules, omega (arith, c.loop-s.invariant.1, c.loop-s-test.true, c.requires.2))

-- the total is for the sections after this one
after : (c : In-loop-s) → c.loop-s.total / get_or c.weigh_sections.new.denials c.loop-s.s 0 ≡ product (c.loop-s.s + 1) (c.args.k + 1 - (c.loop-s.s + 1)) (lines_in c.args.rows.now 0 c.args.n)
after c =
    let a = c.args in
    let l = c.loop-s in
    total-step a.rows.now a.n l.s a.k (search rules) l.total _ l.invariant.3 (denials c) l.invariant.2

pub loop-s-preserved : goal.loop-s-preserved
loop-s-preserved c =
    let a = c.args in
    let l = c.loop-s in
    let t = after (goal.at.loop-s-preserved c).In-loop-s in
    let done = c.deny_section-at in
    let d = section-done a.rows.now a.n l.s a.k (search rules) l.left _ l.at done.result l.out _ t done.ensures.ends done.ensures.memory in
    let short = denial_short a.rows.now a.n l.s a.n 0 (l.left / (l.total / get_or c.weigh_sections.new.denials l.s 0)) in
    (search rules, omega (arith, l.invariant.1, done.ensures.ends, c.requires.1, short), (low (goal.at.loop-s-preserved c).In-loop-s).1, t, d.0 ∙ l.invariant.4, d.1 ∙ l.invariant.5)

-- no section is left: there is none, or the last one is done
pub returns : goal.returns
returns c =
    let a = c.args in
    let l = c.loop-s in
    let b = built_memory a.rows.now a.n a.k a.j c.copy_section-at.result a.out.now _ c.copy_section-at.ensures.ends c.copy_section-at.ensures.memory in
    let told = copy_done _ _ _ _ _ (sections-end a.rows.now a.n l.s a.k l.left (search rules)) (l.invariant.4 ∙ b.0) (l.invariant.5 ∙ b.1) in
    record { ends = told.0; memory = told.1 }

pub returns-2 : goal.returns-2
returns-2 c =
    let a = c.args in
    let l = c.loop-s in
    let done = c.deny_section-at in
    let b = built_memory a.rows.now a.n a.k a.j c.copy_section-at.result a.out.now _ c.copy_section-at.ensures.ends c.copy_section-at.ensures.memory in
    let d = section-done a.rows.now a.n l.s a.k (search rules) l.left _ l.at done.result l.out _ (after (goal.at.returns-2 c).In-loop-s) done.ensures.ends done.ensures.memory in
    let told = copy_done _ _ _ _ _ (sections-end a.rows.now a.n (l.s + 1) a.k _ (search rules)) (d.0 ∙ l.invariant.4 ∙ b.0) (d.1 ∙ l.invariant.5 ∙ b.1) in
    record { ends = told.0; memory = told.1 }
