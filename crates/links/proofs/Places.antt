-- Where links lead between the places of points: as between the points, where no two of these have one place.
-- Assumes nothing.
use mathlib.Core.Path.{◌≡◌, refl, ap, ap₂}
use mathlib.Core.Bool.{Bool, true, false, ◌&&◌, ◌||◌}
use mathlib.Core.List.{List, [], ◌∷◌, map}
use Prim.Native.Nat.{ℕ}
use lib.Dec.{eqb}
use borrow.Author.Tests.{eqb-true, eqb-false, eq-eqb, ne_eqb}
use Rattle.scenario.specs.Links.{Link, leads}
use Rattle.scenario.specs.Reading.{All}
use Rattle.links.specs.Table.{placed}

module _ (place : ℕ → ℕ) (Here : ℕ → Type 0) (one_place : (x y : ℕ) → Here x → Here y → place x ≡ place y → x ≡ y) where
  pub same_place : (x y : ℕ) → Here x → Here y → eqb (place x) (place y) ≡ eqb x y
  same_place x y hx hy = go (eqb x y) refl
    where
      go : (b : Bool) → eqb x y ≡ b → eqb (place x) (place y) ≡ b
      go true e = eq-eqb (place x) (place y) (ap place (eqb-true x y e))
      go false e = ne_eqb (place x) (place y) (λ q. eqb-false x y e (one_place x y hx hy q))

  abbrev pub Between : Link → Type 0
  Between l = Here l.from × Here l.to

  pub leads-placed : (ls : List Link) → All Between ls → (x y : ℕ) → Here x → Here y → leads (map (placed place) ls) (place x) (place y) ≡ leads ls x y
  unfolding leads
  leads-placed [] h x y hx hy = same_place x y hx hy
  leads-placed (l ∷ ls) h x y hx hy =
      ap₂ ◌||◌ (leads-placed ls h.1 x y hx hy)
      (ap₂ ◌&&◌ (leads-placed ls h.1 x l.from hx h.0.0) (leads-placed ls h.1 l.to y h.0.1 hy))
