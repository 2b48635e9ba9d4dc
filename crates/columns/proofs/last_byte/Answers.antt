-- `last_byte` meets its contract.
use mathlib.Core.Path.{refl}
use Rattle.columns.specs.Spell.{last_byte}
use Rattle.columns.proofs.last_byte.Goals as goal

pub returns : goal.returns
unfolding last_byte
returns c = refl
