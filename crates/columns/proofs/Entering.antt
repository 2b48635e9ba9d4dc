-- Writing into a field, by how it ends.
-- Assumes nothing.
use mathlib.Core.Path.{◌≡◌}
use mathlib.Core.List.{List, ◌++◌}
use mathlib.Core.Bool.{true, false, and-false}
use Prim.Native.Nat.{ℕ, ◌+◌, ◌≤◌, ◌<◌}
use lib.ListN.{length, take, drop}
use borrow.Author.Tests.{le-leb, lt-leb}
use Rattle.columns.specs.Spell.{spell, fits_in}
use Rattle.columns.specs.Entry.{has_field, entry_of, entered}
use Rattle.std.specs.Prelude.{Ok, Err}

module _ (at w v : ℕ) (m : List ℕ) where
  no_field : has_field (length m) at w v ≡ false → (Err (record {}) ≡ entry_of (length m) at w v) × (m ≡ entered at w v m)
  unfolding entry_of entered
  no_field e = (rw e, rw e)

  -- more digits than columns
  pub too_wide : fits_in w v ≡ false → (Err (record {}) ≡ entry_of (length m) at w v) × (m ≡ entered at w v m)
  unfolding has_field
  too_wide e = no_field (rw e)

  -- the field ends behind the buffer
  pub too_far : length m < at + w → (Err (record {}) ≡ entry_of (length m) at w v) × (m ≡ entered at w v m)
  unfolding has_field
  too_far h = no_field (rw (lt-leb (at + w) (length m) h, and-false))

  pub made : fits_in w v ≡ true → at + w ≤ length m → (m' : List ℕ) → m' ≡ take at m ++ (spell w v ++ drop (at + w) m)
      → (Ok tt ≡ entry_of (length m) at w v) × (m' ≡ entered at w v m)
  unfolding has_field entry_of entered
  made e h m' q = (rw (e, le-leb (at + w) (length m) h), rw (e, le-leb (at + w) (length m) h) q)
