-- The laws of fields, at any width: what is written is read back, what is read was written so, and nothing else is looked at.
-- Assumes nothing.
use mathlib.Core.Path.{◌≡◌}
use mathlib.Core.List.{List, ◌++◌}
use mathlib.Core.Bool.{true}
use Prim.Native.Nat.{ℕ, ◌+◌, ◌≤◌}
use native.Mathlib.Omega.{arith}
use lib.ListN.{length, take, drop, length-append}
use lib.Seq.{take_at, drop_at, length-take-le}
use lib.Dec.{leb}
use borrow.Author.Tests.{le-leb, leb-true}
use Rattle.columns.specs.Number.{field_at}
use Rattle.columns.specs.Spell.{spell, fits_in}
use Rattle.columns.specs.Entry.{has_field, entered}
use Rattle.std.specs.Prelude.{Some}
use Rattle.columns.proofs.Both.{both}
use Rattle.columns.proofs.Fits.{fits-parts}
use Rattle.columns.proofs.Spelling.{spell-read, only_spelling}

-- whatever stands after the field does not matter
pub rest_is_unread : (s rest : List ℕ) (w : ℕ) → w ≤ length s → field_at (take w s ++ rest) w ≡ field_at s w
unfolding field_at
rest_is_unread s rest w h =
    let n : length (take w s) ≡ w = length-take-le w s h in
    let l : w ≤ length (take w s ++ rest) = omega (arith, length-append (take w s) rest) in
    rw (le-leb w (length (take w s ++ rest)) l, le-leb w (length s) h, take_at (take w s) rest w n)

-- what is written into a field is read back
pub written-is-read : (at w v : ℕ) (m : List ℕ) → v ≤ 4294967295 → has_field (length m) at w v ≡ true → field_at (drop at (entered at w v m)) w ≡ Some v
unfolding has_field entered
written-is-read at w v m k e =
    let t = both (fits_in w v) (leb (at + w) (length m)) e in
    let f = fits-parts w v t.0 in
    let l : length (take at m) ≡ at = length-take-le at m (omega (arith, leb-true (at + w) (length m) t.1)) in
    rw (e, drop_at (take at m) (spell w v ++ drop (at + w) m) at l) (spell-read w v (drop (at + w) m) f.0 f.1 k)

-- a field that is read as v holds the bytes that writing v gives
pub read-is-written : (s : List ℕ) (w v : ℕ) → field_at s w ≡ Some v → take w s ≡ spell w v
read-is-written s w v e = (only_spelling s w v e).1
