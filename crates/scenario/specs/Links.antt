-- Links between points, and where they lead: for document 02's "BEFORE rows lead, in one or more steps, from .. to" (A8). What must be believed.
-- Assumes nothing.
use Rattle.std.specs.Prelude.{Bool, ◌&&◌, ◌||◌, List, [], ◌∷◌, ℕ, eqb}

-- one point leads to another
pub record Link : Type 0 where
  pub from : ℕ
  pub to : ℕ

abbrev pub link : ℕ → ℕ → Link
link p q = record { from = p; to = q }

-- The links lead from x to y, in no step or more: without the first link, or by it once. A program keeps the table of all pairs and enters one link after
-- the other, the last first. proofs/Links has the laws: it is the least relation that is reflexive, transitive and has the links.
unfoldable pub leads : List Link → (x y : ℕ) → Bool
leads [] x y = eqb x y
leads (l ∷ links) x y = leads links x y || (leads links x l.from && leads links l.to y)
