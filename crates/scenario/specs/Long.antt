-- The denials of a missing point as they were before document 02's A8, for one statement: violating placements come out unchanged. What must be believed.
-- Assumes nothing.
use Rattle.std.specs.Prelude.{List, [], ◌++◌, ℕ, ◌-◌, ◌≤◌}
use Rattle.scenario.specs.Rows.{Row, Run, far_end}
use Rattle.scenario.specs.Sheet.{Sheet, Over, flat, choices, choose, count}

-- "NEXT: FREE q 99 a. LAST: FREE 0 q a.": the far ends that no other rows shorten
unfoldable pub long_end : (consequent : List Row) → Row → ℕ
long_end consequent = far_end [] []

-- number m with the long denials in their place
unfoldable pub antiscenario_long : Sheet → ℕ → List Row
antiscenario_long sheet m = sheet.antecedent ++ flat (choose [] (choices long_end 1 sheet.consequents) (m - 1))

-- some antiscenario with long denials has a matching that, cut down to the antecedent's points, is xs
pub record DeniedLong (run : Run) (sheet : Sheet) (xs : List ℕ) : Type 0 where
  pub number : ℕ
  pub low : 1 ≤ number
  pub high : number ≤ count sheet
  pub place : List ℕ
  pub over : Over run sheet (antiscenario_long sheet number) xs place
