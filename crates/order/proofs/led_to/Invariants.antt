-- What holds at each turn of the loop of `led_to`.
use Prim.Native.Nat.{◌-◌}
use Rattle.scenario.specs.Links.{leads}
use Rattle.links.specs.Table.{Tells}
use Rattle.order.specs.Leading.{places, links_in}
use Rattle.order.proofs.led_to.Given as goal

abbrev pub invariant-loop-i : goal.invariant-loop-i
invariant-loop-i l = Tells places l.table (leads (links_in l.rows l.section l.upward l.i (l.n - l.i)))
