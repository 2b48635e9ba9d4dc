-- The three rules by example, each next to rows that pass: antiscenarios 3 and 4 of document 01's sheet S, and rows made for each rule.
-- Assumes nothing.
use mathlib.Core.Path.{◌≡◌, refl}
use mathlib.Core.Bool.{Bool, true, false}
use mathlib.Core.List.{List, [], ◌∷◌}
use Rattle.scenario.specs.Links.{leads}
use Rattle.scenario.specs.Rows.{Row, point, next, last, earlier, before, apart, same, free, event, below, gather}
use Rattle.scenario.specs.Log.{in_set}
use Rattle.scenario.specs.Sheet.{all}
use Rattle.impossibility.specs.Impossible.{any, joined, shared, no_common_event, apart_inside, circular, impossible}

-- each list of rows, and whether it is impossible
abbrev Examples : List (List Row) → List Bool → Type 0
Examples [] [] = Unit {0}
Examples [] (b ∷ bs) = ⊥
Examples (rows ∷ rest) [] = ⊥
Examples (rows ∷ rest) (b ∷ bs) = (impossible rows ≡ b) × Examples rest bs

pub examples : Examples
    -- S: an injection after the correction and before the scan; and after the scan and before the correction
    ((point 1 8 ∷ last 11 1 4 ∷ point 19 2 ∷ before 11 19 ∷ before 19 1 ∷ [])
    ∷ (point 1 8 ∷ last 11 1 4 ∷ point 19 2 ∷ before 1 19 ∷ before 19 11 ∷ [])
    -- no event in common: of one point, of joined points, in the upper half; the empty set; FREE's set is not a point's
    ∷ (point 1 6 ∷ event 1 4 ∷ [])
    ∷ (point 1 2 ∷ event 1 4 ∷ [])
    ∷ (point 1 2 ∷ point 2 4 ∷ [])
    ∷ (point 1 2 ∷ point 2 4 ∷ point 3 6 ∷ same 1 3 ∷ same 2 3 ∷ [])
    ∷ (point 1 8589934594 ∷ event 1 8589934592 ∷ [])
    ∷ (point 1 8589934592 ∷ event 1 4294967296 ∷ [])
    ∷ (point 1 2 ∷ event 1 0 ∷ [])
    ∷ (point 1 2 ∷ free 1 99 4 ∷ [])
    -- an APART row inside one point, in either direction of the SAME rows
    ∷ (point 1 2 ∷ point 2 2 ∷ point 3 2 ∷ same 1 3 ∷ apart 1 2 ∷ [])
    ∷ (point 1 2 ∷ point 2 2 ∷ point 3 2 ∷ same 1 3 ∷ same 2 3 ∷ apart 1 2 ∷ [])
    -- back to itself: NEXT is after its q, LAST before it; through joined points; EARLIER is not "lower than"
    ∷ (point 1 2 ∷ next 11 1 4 ∷ before 1 11 ∷ [])
    ∷ (point 1 2 ∷ next 11 1 4 ∷ before 11 1 ∷ [])
    ∷ (point 1 2 ∷ last 11 1 4 ∷ before 11 1 ∷ [])
    ∷ (point 1 2 ∷ last 11 1 4 ∷ before 1 11 ∷ [])
    ∷ (point 1 2 ∷ point 2 2 ∷ before 1 2 ∷ same 2 1 ∷ [])
    ∷ (point 1 2 ∷ point 2 2 ∷ earlier 11 1 2 ∷ before 1 11 ∷ [])
    -- no rows
    ∷ [] ∷ [])
    (false ∷ true
    ∷ false ∷ true ∷ false ∷ true ∷ false ∷ true ∷ true ∷ false
    ∷ false ∷ true
    ∷ false ∷ true ∷ false ∷ true ∷ true ∷ false
    ∷ false ∷ [])
unfolding impossible no_common_event apart_inside circular shared joined leads any all below gather in_set
examples =
    (refl, (refl, (refl, (refl, (refl, (refl, (refl, (refl, (refl, (refl, (refl, (refl, (refl, (refl, (refl, (refl, (refl, (refl, (refl, tt)))))))))))))))))))
