-- Where the BEFORE rows of a section in memory lead, as the code goes: between places of a table. Inner vocabulary.
-- Assumes nothing.
use Rattle.std.specs.Prelude.{Bool, cond, ◌&&◌, List, [], ◌∷◌, ◌≡◌, ℕ, zero, suc, ◌+◌, ◌%◌, ◌<◌, ltb, eqb}
use Rattle.scenario.specs.Links.{Link, link, leads}
use Rattle.scenario.specs.Log.{in_set}
use Rattle.row.specs.declared.Line.{Line}
use Rattle.row.specs.Memory.{line_in}

-- the places of the table; the points that the rows of one section may use have those below 20
abbrev pub places : ℕ
places = 60

-- the place of a point: that of the antecedent's 1 to 4 is its number, that of a section's point 10i + t is 10 + t
unfoldable pub place : ℕ → ℕ
place p = cond (ltb p 10) p (10 + p % 10)

-- the link of a row BEFORE, from p to q or the other way
abbrev pub link_of : (upward : Bool) → Line → Link
link_of upward l = cond upward (link (place l.p) (place l.q)) (link (place l.q) (place l.p))

-- the links of section s, from row i on
unfoldable pub links_in : (m : List ℕ) (s : ℕ) (upward : Bool) (i left : ℕ) → List Link
links_in m s upward i zero = []
links_in m s upward i (suc left) =
    cond (eqb (line_in m i).section s && eqb (line_in m i).kind 6) (link_of upward (line_in m i) ∷ links_in m s upward (suc i) left) (links_in m s upward (suc i) left)

-- a set has the places that links lead to from place x
abbrev pub Led : (set : ℕ) (links : List Link) (x : ℕ) → Type 0
Led set links x = (y : ℕ) → y < places → in_set set y ≡ leads links x y
