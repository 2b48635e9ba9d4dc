-- `room_fits` meets its contract: the test that the definition has.
use borrow.Author.Rules.{rules}
use Rattle.rules.specs.Rules.{room_fits}
use Rattle.rules.proofs.room_fits.Goals as goal

pub returns : goal.returns
unfolding room_fits
returns c = search rules
