-- `near` meets its contract: one position by the lower limit alone, two by the distance of their ticks.
use native.Mathlib.Omega.{arith}
use mathlib.Core.Path.{sym, ◌∙◌}
use Rattle.run.proofs.Logs.{near_level, near-two}
use Rattle.run.proofs.Run.near.Goals as goal

pub returns-then-x-y : goal.returns-then-x-y
returns-then-x-y c = sym (near_level _ _ _ _ _ _ c.if-x-y.true)

pub returns : goal.returns
returns c =
    c.surely.ensures ∙ sym (near-two _ _ _ _ _ _ _ _ _ c.tick_at-s.ensures c.tick_at-t.ensures c.abs_diff.ensures (λ z. omega (arith, z)))
