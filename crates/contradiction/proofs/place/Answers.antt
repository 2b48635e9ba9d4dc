-- `place` meets its contract: by the point's number.
use mathlib.Core.Path.{sym}
use native.Mathlib.Omega.{arith}
use Rattle.contradiction.proofs.Places.{place-front, place_inside, place-back}
use Rattle.contradiction.proofs.place.Goals as goal

pub returns-in-0-to-9 : goal.returns-in-0-to-9
returns-in-0-to-9 c = sym (place-front _ (omega arith))

pub returns-in-10-to-69 : goal.returns-in-10-to-69
returns-in-10-to-69 c = sym (place_inside _ (omega arith) (omega arith))

pub returns-in_default : goal.returns-in_default
returns-in_default c = sym (place-back _ (grind arith))
