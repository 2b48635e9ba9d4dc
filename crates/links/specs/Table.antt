-- A table of where links lead, as the code keeps it: of each place a set of places. Inner vocabulary.
-- Assumes nothing.
use Rattle.std.specs.Prelude.{◌≡◌, Bool, ◌&&◌, ◌||◌, List, [], ◌∷◌, ℕ, ◌<◌, length, get_or}
use Rattle.scenario.specs.Links.{Link, link}
use Rattle.scenario.specs.Log.{in_set}

-- the most places of a table
abbrev pub most_places : ℕ
most_places = 60

-- a table of sets tells that place x leads to place y; and, of n places, it tells a relation
abbrev pub told : (table : List ℕ) (x y : ℕ) → Bool
told table x y = in_set (get_or table x 0) y

pub record Tells (n : ℕ) (table : List ℕ) (leads-to : ℕ → ℕ → Bool) : Type 0 where
  pub size : length table ≡ n
  pub tells : (x y : ℕ) → x < n → y < n → told table x y ≡ leads-to x y

-- the set, with all that is beyond a place that it has
abbrev pub Onward : (set from beyond r : ℕ) → Type 0
Onward set from beyond r = (y : ℕ) → in_set r y ≡ (in_set set y || (in_set set from && in_set beyond y))

-- a relation with a link: what leads to its first place leads to all that its second leads to
abbrev pub by_link : (ℕ → ℕ → Bool) → (from to x y : ℕ) → Bool
by_link R from to x y = R x y || (R x from && R to y)

-- what a table tells with a link entered
abbrev pub entered : (table : List ℕ) (from to x y : ℕ) → Bool
entered table = by_link (told table)

-- a relation with links, the last of them entered first
unfoldable pub leads_on : (ℕ → ℕ → Bool) → List Link → (x y : ℕ) → Bool
leads_on R [] = R
leads_on R (l ∷ links) = by_link (leads_on R links) l.from l.to

-- a link between the places of its points
abbrev pub placed : (ℕ → ℕ) → Link → Link
placed place l = link (place l.from) (place l.to)
