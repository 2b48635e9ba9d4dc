-- A row's numbers, as a sheet has them, and the rows of an antiscenario with their sections, as it is written. Document 01, "Sheet" and "Antiscenarios". What must be believed.
-- Assumes nothing.
use Rattle.std.specs.Prelude.{List, [], ◌∷◌, ◌++◌, map, ℕ, suc, get_or}
use Rattle.scenario.specs.Rows.{Row, point, next, last, earlier, later, before, apart, same, free, within, outside, event, set_of, lower_half, upper_half}
use Rattle.scenario.specs.Sheet.{Sheet, chosen}

-- "kind (3), p (3), q (3), a (11), b (11)"
pub record Fields : Type 0 where
  pub kind : ℕ
  pub p : ℕ
  pub q : ℕ
  pub a : ℕ
  pub b : ℕ

abbrev pub five : (kind p q a b : ℕ) → Fields
five kind p q a b = record { kind = kind; p = p; q = q; a = a; b = b }

-- "Fields a kind doesn't mention are 0." Document 02, A1: "In rows of kinds 1, 2, 3, 9 and 12 the field b becomes the upper half of the set."
unfoldable pub fields : Row → Fields
fields (point p s) = five 1 p 0 (lower_half s) (upper_half s)
fields (next p q s) = five 2 p q (lower_half s) (upper_half s)
fields (last p q s) = five 3 p q (lower_half s) (upper_half s)
fields (earlier p q a) = five 4 p q a 0
fields (later p q a) = five 5 p q a 0
fields (before p q) = five 6 p q 0 0
fields (apart p q) = five 7 p q 0 0
fields (same p q) = five 8 p q 0 0
fields (free p q s) = five 9 p q (lower_half s) (upper_half s)
fields (within p q lo hi) = five 10 p q lo hi
fields (outside p q lo hi) = five 11 p q lo hi
fields (event p s) = five 12 p 0 (lower_half s) (upper_half s)

-- The row of a kind, with what the kind mentions of the fields and of the set s: a table by kind, from 0. Any numbers give a row; an unknown kind gives one that
-- is never met.
unfoldable pub decode : (kind p q a b s : ℕ) → Row
decode kind p q a b s =
    get_or
    (apart 0 0 ∷ point p s ∷ next p q s ∷ last p q s ∷ earlier p q a ∷ later p q a ∷ before p q ∷ apart p q ∷ same p q ∷ free p q s
    ∷ within p q a b ∷ outside p q a b ∷ event p s ∷ [])
    kind (apart 0 0)

-- The row of five numbers. A1: "the set is a + 2^32 × b".
abbrev pub row_of : (kind p q a b : ℕ) → Row
row_of kind p q a b = decode kind p q a b (set_of a b)

-- a row "with the section it came from"
pub record Tagged : Type 0 where
  pub section : ℕ
  pub row : Row

-- a row of section i
abbrev pub tag : ℕ → Row → Tagged
tag i r = record { section = i; row = r }

-- the rows of lists for the sections from number i on
unfoldable pub tagged : ℕ → List (List Row) → List Tagged
tagged i [] = []
tagged i (l ∷ ls) = map (tag i) l ++ tagged (suc i) ls

-- "It is written as .. rows, each with the section it came from": antiscenario m.
unfoldable pub written : Sheet → ℕ → List Tagged
written sheet m = tagged 0 (sheet.antecedent ∷ chosen sheet m)
