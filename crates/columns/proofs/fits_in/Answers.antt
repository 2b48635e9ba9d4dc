-- `fits_in` meets its contract.
use borrow.Author.Rules.{rules}
use borrow.Author.Tests.{le-leb, lt-leb}
use mathlib.Core.Path.{sym}
use native.Mathlib.Nat.{lt_of_lt_of_le, pow-le-pow_right}
use lib.Dec.{lit<}
use Rattle.columns.specs.Spell.{fits_in}
use Rattle.columns.proofs.Fits.{parts-fit}
use Rattle.columns.proofs.fits_in.Goals as goal

-- no number has more than ten digits
pub returns-then-width-ge-MOST_DIGITS : goal.returns-then-width-ge-MOST_DIGITS
returns-then-width-ge-MOST_DIGITS c =
    let w = c.args.width in
    let h = c.if-width-ge-MOST_DIGITS.true in
    simp (le-leb 10 w h) (sym (parts-fit w c.args.v (search rules) (lt_of_lt_of_le (search rules) (pow-le-pow_right {n = 10} (lit< tt) {i = 10} {j = w} h))))

pub returns-else-width-ge-MOST_DIGITS : goal.returns-else-width-ge-MOST_DIGITS
unfolding fits_in
returns-else-width-ge-MOST_DIGITS c = simp (le-leb 1 c.args.width c.if-width-gt0.true, c.from.ensures, c.pow.ensures)

pub returns-else-width-gt0 : goal.returns-else-width-gt0
unfolding fits_in
returns-else-width-gt0 c = simp (lt-leb 1 c.args.width (search rules))
