-- The lines up to low have ticks below the limit, those behind high have not (Logs.ticks-rise).
use Prim.Native.Nat.{ℕ, ◌+◌, ◌/◌, ◌≤◌, ◌<◌}
use native.Mathlib.Omega.{arith}
use lib.ListN.{get_or}
use Rattle.run.specs.Words.{ticks_in, line_count}
use Rattle.run.proofs.Logs.{ticks_rise}
use Rattle.run.proofs.Run.lines_before.Goals as goal
use Rattle.run.proofs.Run.lines_before.Goals.{After-tick_in}

-- the line in the middle
module _ (c : After-tick_in) where
  abbrev middle : ℕ
  middle = (c.loop-low.low + c.loop-low.high + 1) / 2

  above : c.loop-low.low < middle
  above = omega (arith, c.loop-low-test.true)

  within : middle ≤ c.loop-low.high
  within = omega (arith, c.loop-low-test.true)

  rises : (x y : ℕ) → x ≤ y → y ≤ line_count c.args.self.now.words → get_or (ticks_in c.args.self.now.words) x 0 ≤ get_or (ticks_in c.args.self.now.words) y 0
  rises = ticks_rise c.args.self.now.words c.args.self.now.held

pub loop-low-preserved-then-from-limit : goal.loop-low-preserved-then-from-limit
loop-low-preserved-then-from-limit c =
    let v = c.loop-low.invariant in
    let t = (goal.at.loop-low-preserved-then-from-limit c).After-tick_in in (
      omega (arith, within t),
      v.1,
      λ x a b. omega (arith, rises t x (middle t) b (omega (arith, within t, v.1)), c.if-from-limit.true, c.from.ensures, c.tick_in.ensures),
      v.3,
    )

pub loop-low-preserved : goal.loop-low-preserved
loop-low-preserved c =
    let v = c.loop-low.invariant in
    let t = (goal.at.loop-low-preserved c).After-tick_in in (
      omega (arith, above t),
      omega (arith, within t, v.1),
      v.2,
      λ x a b. omega (arith, rises t (middle t) x (omega (arith, above t)) b, c.if-from-limit.false, c.from.ensures, c.tick_in.ensures),
    )
