-- Whether some of the numbered rows passes a test.
-- Assumes nothing.
use mathlib.Core.Path.{◌≡◌, refl, ap}
use mathlib.Core.Bool.{Bool, ◌||◌}
use Prim.Native.Nat.{ℕ, zero, suc}
use native.Mathlib.Numerals.{add-one}
use Rattle.std.specs.List.{list_any, range_with_len}
use Rattle.row.specs.Memory.{listed}
use Rattle.impossibility.specs.Impossible.{any}

pub any-numbered : {A : Type 0} (f : A → Bool) (g : ℕ → A) (j left : ℕ) → list_any (λ (i : ℕ). f (g i)) (range_with_len j left) ≡ any f (listed g j left)
unfolding any listed
any-numbered f g j zero = refl
any-numbered f g j (suc left) = rw (add-one j) (ap (λ (b : Bool). f (g j) || b) (any-numbered f g (suc j) left))
