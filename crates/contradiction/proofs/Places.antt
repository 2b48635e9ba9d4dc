-- The places of an antiscenario's points: each has one, and no two have the same.
-- Assumes nothing.
use mathlib.Core.Path.{◌≡◌, refl, sym, subst}
use mathlib.Core.Bool.{Bool, true, false, cond}
use mathlib.Core.List.{List, [], ◌∷◌, map}
use Prim.Native.Nat.{ℕ, ◌-◌, ◌/◌, ◌%◌, ◌≤◌, ◌<◌}
use native.Mathlib.Omega.{arith}
use lib.Dec.{ltb}
use borrow.Author.Tests.{ltb-true, lt-ltb, le-ltb}
use Rattle.scenario.specs.Links.{Link}
use Rattle.scenario.specs.Reading.{All}
use Rattle.links.specs.Table.{placed}
use Rattle.contradiction.specs.Table.{places, place, Here, start, close, of_antecedent, of_consequent}

pub place-low : (p : ℕ) → place p < places
unfolding place
place-low p = go (ltb p 10) refl (ltb p 70) refl
  where
    go : (x : Bool) → ltb p 10 ≡ x → (y : Bool) → ltb p 70 ≡ y → cond x p (cond y (p - p / 10 - 5) 59) < places
    go true e y f = omega (arith, ltb-true p 10 e)
    go false e true f = omega (arith, ltb-true p 70 f)
    go false e false f = omega arith

pub is-low : (r p : ℕ) → r ≡ place p → r < places
is-low r p e = subst (λ (x : ℕ). x < places) (sym e) (place-low p)

pub links_low : (ls : List Link) → All (λ (l : Link). (l.from < places) × (l.to < places)) (map (placed place) ls)
links_low [] = tt
links_low (l ∷ ls) = ((place-low l.from, place-low l.to), links_low ls)

-- by number
pub place-front : (p : ℕ) → p < 10 → place p ≡ p
unfolding place
place-front p h = simp (lt-ltb p 10 h)

pub place_inside : (p : ℕ) → 10 ≤ p → p < 70 → place p ≡ p - p / 10 - 5
unfolding place
place_inside p l h = simp (le-ltb p 10 l, lt-ltb p 70 h)

pub place-back : (p : ℕ) → 70 ≤ p → place p ≡ 59
unfolding place
place-back p h = simp (le-ltb p 10 (omega arith), le-ltb p 70 h)

data Sort (p : ℕ) : Type 0 where
  front : place p ≡ p → p ≤ 4 → Sort p
  inside : place p ≡ p - p / 10 - 5 → 10 < p → p < 70 → 0 < p % 10 → Sort p
  back : place p ≡ 59 → p ≡ 99 → Sort p

sort : (p : ℕ) → Here p → Sort p
sort p (start e) = front (place-front p (omega arith)) (omega arith)
sort p (close e) = back (place-back p (omega arith)) e
sort p (of_antecedent l h) = front (place-front p (omega arith)) h
sort p (of_consequent l h n) = inside (place_inside p (omega arith) h) l h n

pub one_place : (p q : ℕ) → Here p → Here q → place p ≡ place q → p ≡ q
one_place p q hp hq e = go (sort p hp) (sort q hq)
  where
    go : Sort p → Sort q → p ≡ q
    go (front x u) (front y v) = omega arith
    go (front x u) (inside y l v n) = absurd (omega arith)
    go (front x u) (back y v) = absurd (omega arith)
    go (inside x k u m) (front y v) = absurd (omega arith)
    go (inside x k u m) (inside y l v n) = omega arith
    go (inside x k u m) (back y v) = absurd (omega arith)
    go (back x u) (front y v) = absurd (omega arith)
    go (back x u) (inside y l v n) = absurd (omega arith)
    go (back x u) (back y v) = omega arith
