-- `line_part` meets its contract: by whether the refusal is one of those that name a line.
use mathlib.Core.Logic.{inl, inr}
use mathlib.Core.Path.{◌∙◌}
use native.Mathlib.Omega.{arith}
use Prim.Native.Nat.{◌≤◌}
use Rattle.refusal.specs.Refusal.{number}
use Rattle.line.specs.Numbered.{is_log}
use Rattle.line.proofs.Showing.{part_front, part-line}
use Rattle.line.proofs.line_part.Goals as goal
use Rattle.line.proofs.line_part.Goals.{Joined-then-asked-low}

beside : (c : Joined-then-asked-low) → c.args.low ≤ number c.args.refusal → number c.args.refusal ≤ c.args.high → ⊥
beside c l h = elim c.then-asked-low.either [ inl x ↦ omega (arith, x, l, c.number-asked.ensures) | inr x ↦ omega (arith, x, h, c.number-asked.ensures) ]

pub returns-then-asked-low : goal.returns-then-asked-low
returns-then-asked-low c =
    let a = c.args in
    c.front_part.ensures ∙ part_front (is_log a.text) a.first a.wide a.low a.high a.bytes.now (number a.refusal) a.line (beside (goal.at.returns-then-asked-low c).Joined-then-asked-low)

pub returns : goal.returns
returns c =
    let a = c.args in
    part-line (is_log a.text) a.first a.wide a.low a.high a.bytes.now (number a.refusal) a.line (omega (arith, c.number-asked.ensures)) (omega (arith, c.number-asked.ensures))
