-- `at_fault` meets its contract. Rows: what the walk says from row j on is what it says from the first. Consequents: the same from c on.
-- Both leave the points alone that no consequent introduces, so that each consequent is walked as over the array at the start.
use borrow.Author.Rules.{rules}
use mathlib.Core.Path.{◌≡◌, refl, sym, ◌∙◌, ap, subst}
use Prim.Native.Nat.{ℕ, ◌+◌, ◌≤◌, ◌<◌}
use native.Mathlib.Nat.{sub-zero}
use native.Mathlib.Omega.{arith}
use Rattle.run.specs.Held.{run_held}
use Rattle.run.proofs.Logs.{seen_laws}
use Rattle.row.specs.Memory.{section_at, tags_of}
use Rattle.run.proofs.Scans.{none≢some}
use Rattle.consequent.specs.Walk.{Faults, fault_in, consequent_of, Kept}
use Rattle.consequent.proofs.Advancing.{met_is, fault-end, skip, stuck, passed, faults-end, faults-none, faults-on}
use Rattle.consequent.proofs.Walk.{kept-all, kept_on, fault-same, row_keeps}
use Rattle.consequent.proofs.Sections.{sections_rise, passed_over}
use Rattle.consequent.proofs.at_fault.Goals as goal
use Rattle.consequent.proofs.at_fault.Goals.{Joined-count-j, then-count-j, else-count-j+else-section_of-c+then-not-advance}

-- what the inner loop was broken with
row_is : (c : Joined-count-j) →
    let a = c.args in
    c.if-count-j.row ≡ fault_in (run_held a.run.now.words) (c.consequents.c + 1) a.positions.now 0 (tags_of a.rows.now a.count)
row_is c =
    let a = c.args in
    let r = c.rows in
    let w = run_held a.run.now.words in
    elim c.if-count-j.branch [
      | then-count-j v ↦ v.row-is ∙ sym (fault-end w a.rows.now a.count (c.consequents.c + 1) r.positions r.j v.if-count-j.true) ∙ r.invariant.2
      | else-count-j+else-section_of-c+then-not-advance v ↦ v.row-is ∙ sym (stuck w a.rows.now a.count (c.consequents.c + 1) r.positions r.j v.if-count-j.false v.section_of.result v.section_of.ensures v.if-section_of-c.false
          v.advance.result v.advance.ensures.met v.if-not-advance.true) ∙ r.invariant.2
    ]
    ∙ fault-same a.rows.now a.count a.k c.requires.0 w (seen_laws a.run.now.words c.args.run.now.held) a.positions.now c.consequents.positions c.requires.1 c.consequents.invariant.0
    c.consequents.c c.consequents-test.true

-- and the array that it left
env-is : (c : Joined-count-j) →
    let a = c.args in
    Kept (tags_of a.rows.now a.count) a.positions.now c.if-count-j.positions
env-is c =
    let a = c.args in
    let r = c.rows in
    let ts = tags_of a.rows.now a.count in
    kept_on ts a.positions.now c.consequents.positions c.if-count-j.positions c.consequents.invariant.0
    (kept_on ts c.consequents.positions r.positions c.if-count-j.positions r.invariant.1
    (elim c.if-count-j.branch [
      | then-count-j v ↦ subst (Kept ts r.positions) (sym v.positions-is) (kept-all ts r.positions)
      | else-count-j+else-section_of-c+then-not-advance v ↦ row_keeps (run_held a.run.now.words) a.rows.now a.count
          r.positions c.if-count-j.positions r.j c.consequents.c v.section_of.result v.if-count-j.false v.section_of.ensures v.if-section_of-c.false (v.positions-is ∙ v.advance.ensures.placed)
    ]))

pub consequents-init : goal.consequents-init
consequents-init c =
    let a = c.args in
    let z = c.requires.2 in
    (kept-all (tags_of a.rows.now a.count) a.positions.now, rw (sub-zero, z) refl, omega (arith, c.requires.3), λ i h. omega (arith, c.requires.4 i (omega (arith, h))))

pub rows-init : goal.rows-init
rows-init c =
    let a = c.args in
    let v = c.consequents in (
      v.invariant.2,
      kept-all (tags_of a.rows.now a.count) v.positions,
      passed_over (run_held a.run.now.words) a.rows.now a.count (v.c + 1) v.positions v.j v.invariant.2 (λ i h e. omega (arith, v.invariant.3 i h, e)),
    )

pub rows-preserved-then-section_of-c : goal.rows-preserved-then-section_of-c
rows-preserved-then-section_of-c c =
    let a = c.args in
    let r = c.rows in
    (search rules, r.invariant.1, sym (skip (run_held a.run.now.words) a.rows.now a.count (c.consequents.c + 1) r.positions r.j c.if-count-j.false c.section_of.result c.section_of.ensures c.if-section_of-c.true) ∙ r.invariant.2)

pub advance-requires : goal.advance-requires
advance-requires c = omega (arith, c.if-count-j.false, c.requires.0.few)

pub rows-preserved : goal.rows-preserved
rows-preserved c =
    let a = c.args in
    let r = c.rows in
    let w = run_held a.run.now.words in (
      omega (arith, c.if-count-j.false),
      kept_on (tags_of a.rows.now a.count) c.consequents.positions r.positions c.advance.new.positions r.invariant.1
          (row_keeps w a.rows.now a.count r.positions c.advance.new.positions r.j c.consequents.c c.section_of.result c.if-count-j.false c.section_of.ensures c.if-section_of-c.false c.advance.ensures.placed),
      sym (passed w a.rows.now a.count (c.consequents.c + 1) r.positions r.j c.if-count-j.false c.section_of.result c.section_of.ensures c.if-section_of-c.false
          c.advance.result c.advance.ensures.met c.advance.new.positions c.advance.ensures.placed (c.if-not-advance.false)) ∙ r.invariant.2,
    )

pub returns-then-row-eq0 : goal.returns-then-row-eq0
returns-then-row-eq0 c =
    let e = sym (sym c.consequents.invariant.1 ∙ faults-none _ _ _ c.consequents.c _ _ (search rules) (sym (row_is (goal.at.returns-then-row-eq0 c).Joined-count-j) ∙ c.if-row-eq0.true)) in record { met = met_is _ _ (omega arith) (ap (λ (z : Faults). z.met) e); rows = λ z. absurd (none≢some (sym z)); kept = env-is (goal.at.returns-then-row-eq0 c).Joined-count-j }

-- the row that cannot be met is of this consequent, so that none before it is of a later one
pub consequents-preserved : goal.consequents-preserved
consequents-preserved c =
    let r = c.rows in
    let behind : (i : ℕ) → i < r.j → section_at c.args.rows.now i ≤ c.consequents.c + 1 = λ i h.
    elim c.if-count-j.branch [
      | then-count-j v ↦ absurd (omega (arith, v.row-is))
      | else-count-j+else-section_of-c+then-not-advance v ↦ omega (arith, sections_rise c.args.rows.now c.args.count c.args.k c.requires.0 i r.j h v.if-count-j.false, v.section_of.ensures, v.if-section_of-c.false)
    ] in
    (env-is (goal.at.consequents-preserved c).Joined-count-j, sym (faults-on _ _ _ c.consequents.c _ _ (search rules) c.if-count-j.row (sym (row_is (goal.at.consequents-preserved c).Joined-count-j)) (λ z. omega (arith, z))) ∙ c.consequents.invariant.1, c.rows.invariant.0, behind)

pub returns : goal.returns
returns c =
    let e = sym (sym c.consequents.invariant.1 ∙ faults-end _ _ _ c.consequents.c _ _ c.consequents-test.false) in record { met = ap (λ (z : Faults). consequent_of z.met) e; rows = λ z. ap (λ (f : Faults). f.rows) e; kept = c.consequents.invariant.0 }
