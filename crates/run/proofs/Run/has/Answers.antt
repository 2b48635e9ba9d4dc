-- Below 1 and above n no line, else the event at the index (Logs.has-low, has-high, has_in).
use mathlib.Core.Path.{sym, ap, ◌∙◌}
use native.Mathlib.Omega.{arith}
use Prim.Native.Nat.{◌≤◌}
use Rattle.scenario.specs.Log.{in_set}
use Rattle.run.specs.Words.{line_count}
use Rattle.run.proofs.Logs.{has-low, has-high, has_in}
use Rattle.run.proofs.Run.has.Goals as goal
use Rattle.run.proofs.Run.has.Goals.{then-x-ge1, else-x-ge1, Then-x-lines}

-- the position is a line
low : (c : Then-x-lines) → 1 ≤ c.args.x
low c = elim c.if-x-ge1.branch [ then-x-ge1 w ↦ w.if-x-ge1.true | else-x-ge1 w ↦ grind arith ]

high : (c : Then-x-lines) → c.args.x ≤ line_count c.args.self.now.words
high c = elim c.if-x-ge1.branch [ then-x-ge1 w ↦ grind arith | else-x-ge1 w ↦ grind arith ]

pub returns-then-x-lines : goal.returns-then-x-lines
returns-then-x-lines c =
    c.member.ensures ∙ ap (in_set c.args.s) c.event_at.ensures ∙ sym (has_in _ _ c.args.self.now.held.lines _ _ (low (goal.at.returns-then-x-lines c).Then-x-lines) (high (goal.at.returns-then-x-lines c).Then-x-lines))

pub returns-else-x-lines : goal.returns-else-x-lines
returns-else-x-lines c = c.if-x-lines.false ∙ sym (elim c.if-x-ge1.branch [ then-x-ge1 w ↦ has-high _ _ c.args.self.now.held.lines _ _ (grind arith) | else-x-ge1 w ↦ has-low _ _ c.args.self.now.held.lines _ _ w.if-x-ge1.false ])
