-- `product_of` meets its contract: the product so far and what is left make the whole.
use borrow.Author.Rules.{rules}
use mathlib.Core.Path.{◌≡◌, refl, sym, ◌∙◌}
use Prim.Native.Nat.{◌+◌, ◌-◌, ◌<◌}
use lib.ListN.{get_or, take, drop}
use native.Mathlib.Nat.{sub-zero}
use native.Mathlib.Omega.{arith}
use lib.Dec.{lit≤}
use Rattle.sheet.proofs.Count.{product-step, product-end, power_step, power_fits, factors-length, factor-at}
use Rattle.sheet.proofs.product_of.Goals as goal
use Rattle.sheet.proofs.product_of.Goals.{In-loop-factor}

pub weigh_sections-requires : goal.weigh_sections-requires
weigh_sections-requires c = (search rules, search rules, refl)

pub loop-factor-init : goal.loop-factor-init
loop-factor-init c = (lit≤ tt, rw sub-zero (omega arith))

-- the factor is the denials of a section from 1 to k
section-left : (c : In-loop-factor) → c.loop-factor.factor-index < c.args.k
section-left c =
    omega (arith, c.loop-factor-test.true, factors-length c.weigh_sections.new.denials c.args.k c.weigh_sections.ensures.long c.requires.1)

factor-is : (c : In-loop-factor)
    → get_or (take (c.args.k + 1 - 1) (drop 1 c.weigh_sections.new.denials)) c.loop-factor.factor-index 0 ≡ get_or c.weigh_sections.new.denials (c.loop-factor.factor-index + 1) 0
factor-is c = factor-at _ _ c.weigh_sections.ensures.long c.requires.1 _ (section-left c)

pub loop-factor-preserved : goal.loop-factor-preserved
loop-factor-preserved c =
    let l = c.loop-factor in
    let w = c.weigh_sections.ensures in
    let turn = (goal.at.loop-factor-preserved c).In-loop-factor in
    let left = section-left turn in
    let seven : l.factor-index + 1 < 7 = omega (arith, left, c.requires.1) in
    rw (factor-is turn) (
      power_step l.factor-index l.total _ l.invariant.0 (w.few _ seven),
      rw (w.denials_of _ seven) (sym (product-step _ _ _ _ left) ∙ l.invariant.1),
    )

pub overflow_mul-total : goal.overflow_mul-total
overflow_mul-total c =
    let l = c.loop-factor in
    let turn = (goal.at.overflow_mul-total c).In-loop-factor in
    let left = section-left turn in
    let seven : l.factor-index + 1 < 7 = omega (arith, left, c.requires.1) in
    record { fits = rw (factor-is turn) (power_fits l.factor-index l.total _ l.invariant.0 (c.weigh_sections.ensures.few _ seven) (omega arith)) }

pub returns : goal.returns
returns c =
    let all = factors-length c.weigh_sections.new.denials c.args.k c.weigh_sections.ensures.long c.requires.1 in
    product-end _ _ _ _ (omega (arith, all, c.loop-factor-test.false)) ∙ c.loop-factor.invariant.1
