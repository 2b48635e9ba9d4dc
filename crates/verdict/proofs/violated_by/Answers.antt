-- The answer's numbers and arrays are those that it is asked for.
use mathlib.Core.Path.{ap₂}
use mathlib.Core.List.{List}
use Prim.Native.Nat.{ℕ}
use Rattle.verdict.specs.Memory.{violated_by}
use Rattle.verdict.proofs.violated_by.Goals as goal

pub returns : goal.returns
returns c =
    let a = c.args in ap₂ (λ (p : ℕ) (at : List ℕ). violated_by p a.k at a.rows) c.point_count.ensures c.places_of.ensures
