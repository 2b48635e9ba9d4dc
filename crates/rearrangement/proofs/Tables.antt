-- Tables, and lists by their places.
-- Assumes nothing.
use mathlib.Core.Path.{◌≡◌, refl, ap}
use mathlib.Core.List.{List, [], ◌∷◌, map}
use Prim.Native.Nat.{ℕ, zero, suc, ◌<◌}
use native.Mathlib.Omega.{arith}
use lib.ListN.{length, get_or}
use Rattle.scenario.specs.Reading.{All}
use Rattle.rearrangement.specs.Order.{table}

module _ {A : Type 0} where
  pub length-table : (k : ℕ) (f : ℕ → A) → length (table k f) ≡ k
  unfolding table
  length-table zero f = refl
  length-table (suc k) f = ap suc (length-table k (λ i. f (suc i)))

  module _ (d : A) where
    pub table_at : (k : ℕ) (f : ℕ → A) (i : ℕ) → i < k → get_or (table k f) i d ≡ f i
    unfolding table
    table_at zero f i h = absurd (omega arith)
    table_at (suc k) f zero h = refl
    table_at (suc k) f (suc i) h = table_at k (λ i. f (suc i)) i (omega arith)

-- what all members of a mapped list have, the members have under the map
pub all_under : {A B : Type 0} (P : B → Type 0) (f : A → B) (l : List A) → All P (map f l) → All (λ (a : A). P (f a)) l
all_under P f [] h = tt
all_under P f (x ∷ l) h = (h.0, all_under P f l h.1)
