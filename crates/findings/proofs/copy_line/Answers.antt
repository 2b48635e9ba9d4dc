-- `copy_line` meets its contract: the first i bytes stand in front of what was there.
use borrow.Author.Rules.{rules}
use mathlib.Core.Path.{◌≡◌, refl, ap, ◌∙◌}
use mathlib.Core.List.{◌++◌}
use Prim.Native.Nat.{ℕ}
use lib.ListN.{length, get_or, take, drop, length-set}
use Rattle.findings.specs.Findings.{fronted}
use Rattle.findings.proofs.Telling.{copied-one}
use Rattle.findings.proofs.copy_line.Goals as goal

pub loop-i-init : goal.loop-i-init
loop-i-init c = (refl, refl)

pub loop-i-preserved : goal.loop-i-preserved
loop-i-preserved c =
    let l = c.loop-i in
    let a = c.args in
    (length-set l.to l.i (get_or a.from.now l.i 0) ∙ l.invariant.0, copied-one a.from.now a.to.now l.i (search rules) (search rules) l.to l.invariant.1)

pub returns : goal.returns
unfolding fronted
returns c =
    let l = c.loop-i in
    let a = c.args in
    let e : l.i ≡ length a.from.now = search rules in
    l.invariant.1 ∙ ap (λ (n : ℕ). take n a.from.now ++ drop n a.to.now) e
