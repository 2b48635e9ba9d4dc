-- How the code goes: the places of points in a table of links, and what a row tells by such a table. Inner vocabulary.
-- Assumes nothing.
use Rattle.std.specs.Prelude.{◌≡◌, Bool, true, false, not, ◌&&◌, ◌||◌, cond, List, [], ◌∷◌, ◌++◌, ℕ, ◌-◌, ◌/◌, ◌%◌, ◌≤◌, ◌<◌, ltb, leb, eqb}
use Rattle.scenario.specs.Links.{Link, link}
use Rattle.scenario.specs.Rows.{Row, event_count, close_point, below, introduced, needs}
use Rattle.scenario.specs.Log.{in_set}
use Rattle.scenario.specs.Sheet.{all}
use Rattle.scenario.specs.Reading.{All}
use Rattle.row.specs.Memory.{kind_at}
use Rattle.links.specs.Table.{told}
use Rattle.impossibility.specs.Impossible.{SetFor, part, sets, any}

-- places for the points of an antiscenario: 0, the antecedent's four, nine a section, 99
abbrev pub places : ℕ
places = 60

-- the place of a point: that of 0 to 4 is its number, those of 11 to 19, 21 to 29 and so on follow, that of 99 is the last
unfoldable pub place : ℕ → ℕ
place p = cond (ltb p 10) p (cond (ltb p 70) (p - p / 10 - 5) 59)

-- the points that have a place of their own
pub data Here (p : ℕ) : Type 0 where
  start : p ≡ 0 → Here p
  close : p ≡ close_point → Here p
  of_antecedent : 1 ≤ p → p ≤ 4 → Here p
  of_consequent : 10 < p → p < 70 → 0 < p % 10 → Here p

-- all points of a row have one
abbrev pub Placed : Row → Type 0
Placed row = All Here (introduced row ++ needs row)

-- one link, where it is wanted
abbrev pub link_if : (wanted : Bool) (from to : ℕ) → List Link
link_if wanted from to = cond wanted (link from to ∷ []) []

-- the links of a row: those of points that are one, or those from a lower point to a higher one
abbrev pub links_of : (joining : Bool) → Row → List Link
links_of joining row = cond joining (part row).joins (part row).lowers

-- by a row's kind: its p leads to its q, its q to its p, it has them apart, it asks a set of its p
unfoldable pub upward : (joining : Bool) (kind : ℕ) → Bool
upward joining kind = cond joining (eqb kind 8) (eqb kind 6 || eqb kind 3)

unfoldable pub downward : (joining : Bool) (kind : ℕ) → Bool
downward joining kind = cond joining (eqb kind 8) (eqb kind 2)

unfoldable pub asking : (kind : ℕ) → Bool
asking kind = cond (eqb kind 12) true (cond (ltb 3 kind) false (leb 1 kind))

-- the table tells that point p leads to point q
abbrev pub leads_in : (table : List ℕ) (p q : ℕ) → Bool
leads_in table p q = told table (place p) (place q)

-- event x is in every set for the points that p leads to
unfoldable pub shared_in : (table : List ℕ) → List SetFor → (p x : ℕ) → Bool
shared_in table asked p x = all (λ h. not (leads_in table p h.at) || in_set h.set x) asked

-- a set, narrowed by what a row asks of the points that p leads to
abbrev pub Narrowed : (table : List ℕ) (row : Row) (p set r : ℕ) → Type 0
Narrowed table row p set r = (x : ℕ) → in_set r x ≡ (shared_in table (part row).sets p x && in_set set x)

-- a set has the events that are in every such set
abbrev pub Common : (table : List ℕ) (asked : List SetFor) (p set : ℕ) → Type 0
Common table asked p set = (x : ℕ) → x < event_count → in_set set x ≡ shared_in table asked p x

-- what a row tells of joined points: it lies inside one, or its point's sets have no event in common
unfoldable pub torn : (table : List ℕ) → List Row → Row → Bool
torn table rows row =
    any (λ l. leads_in table l.from l.to) (part row).aparts || any (λ h. not (below (shared_in table (sets rows) h.at) event_count)) (part row).sets

-- what a row tells of lower points: its higher one leads to its lower one
unfoldable pub circling : (table : List ℕ) → Row → Bool
circling table row = any (λ l. leads_in table l.to l.from) (part row).lowers

abbrev pub contradicting : (table : List ℕ) → List Row → (joining : Bool) → Row → Bool
contradicting table rows joining row = cond joining (torn table rows row) (circling table row)

-- the rows in memory are of the twelve kinds
abbrev pub KnownKinds : (rows : List ℕ) (n : ℕ) → Type 0
KnownKinds rows n = (j : ℕ) → j < n → (1 ≤ kind_at rows j) × (kind_at rows j ≤ 12)
