-- `deny_section` meets its contract: denial `left` of the rows from number i on is denial j of all.
use Rattle.denial.proofs.Building.{same-rows_from, section-from, section-hit, section-on, section-end, counts, counts_own, no_rows}
use borrow.Author.Rules.{rules}
use mathlib.Core.Path.{refl, sym, ◌∙◌, subst}
use Prim.Native.Nat.{ℕ, ◌<◌, ◌≤◌}
use native.Mathlib.Omega.{arith}
use Rattle.denial.proofs.deny_section.Goals as goal

pub loop-i-init : goal.loop-i-init
loop-i-init c = (refl, section-from _ _ _ _ _ c.first_of-from.ensures.1 c.first_of-from.ensures.0)

pub deny_row-requires : goal.deny_row-requires
deny_row-requires c =
    let w = c.weigh_at-w.ensures.0 in
    let l = c.loop-i in
    let h = subst (λ (x : ℕ). l.left < x) w c.if-left-w.true in
    let a = c.args in
    let own = (counts _ _ _ h).0 in
    (search rules, search rules, search rules, search rules, omega (arith, own, c.requires), counts_own _ _ _ h, λ k b e. c.first_of-from.ensures.1 k b (e ∙ own))

pub returns-then-left-w : goal.returns-then-left-w
returns-then-left-w c =
    let l = c.loop-i in
    let h = subst (λ (x : ℕ). l.left < x) c.weigh_at-w.ensures.0 c.if-left-w.true in
    let rows = section-hit _ _ l.i _ l.left c.loop-i-test.true h ∙ l.invariant.1 in
    let told = same-rows_from _ _ _ _ _ rows l.invariant.0 _ _ c.deny_row.ensures.ends c.deny_row.ensures.memory in
    record { ends = told.0; memory = told.1 }

pub loop-i-preserved : goal.loop-i-preserved
loop-i-preserved c =
    let l = c.loop-i in
    let w = c.weigh_at-w.ensures.0 in
    (l.invariant.0, rw w (section-on _ _ l.i _ l.left c.loop-i-test.true (subst (λ (x : ℕ). x ≤ l.left) w c.if-left-w.false) ∙ l.invariant.1))

pub returns : goal.returns
returns c =
    let l = c.loop-i in
    let told = no_rows _ _ _ _ (sym (section-end _ _ l.i _ l.left c.loop-i-test.false) ∙ l.invariant.1) l.invariant.0 in
    record { ends = told.0; memory = told.1 }
