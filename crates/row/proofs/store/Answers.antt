-- `store` meets its contract: past the end nothing is stored.
use lib.Seq.{set_out}
use mathlib.Core.Path.{sym}
use Rattle.row.proofs.store.Goals as goal

pub returns-else-i-m : goal.returns-else-i-m
returns-else-i-m c = let a = c.args in sym (set_out a.m.now a.i a.v c.if-i-m.false)
