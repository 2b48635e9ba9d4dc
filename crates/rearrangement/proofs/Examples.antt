-- An example: a scan wants a correction before it, recent enough and with no injection in between, or else a calibration; and the same with the calibration first
-- (examples/alternatives). Computed by the definitions.
-- Assumes nothing.
use mathlib.Core.Path.{◌≡◌, refl}
use mathlib.Core.List.{[], ◌∷◌, map}
use Prim.Native.Nat.{ℕ, ◌-◌}
use Rattle.scenario.specs.Rows.{point, last, free, within, before, points, elem, brings, closure, end, denying_free, gather, ascends, may_end, first_or, far_end, denying_rows, denials}
use Rattle.scenario.specs.Links.{leads}
use Rattle.scenario.specs.Sheet.{Sheet, choices, total, choose, count, chosen}
use Rattle.scenario.specs.Renumber.{move}
use Rattle.rearrangement.specs.Order.{table, reordered, rearranged, choice, way, renumbered}

pub correction_first : Sheet
correction_first = record {
  antecedent = point 1 8 ∷ [];
  consequents = (last 11 1 4 ∷ within 11 1 0 500 ∷ free 11 1 2 ∷ []) ∷ (last 21 1 16 ∷ within 21 1 0 60000 ∷ []) ∷ [];
}

pub calibration_first : Sheet
calibration_first = record {
  antecedent = point 1 8 ∷ [];
  consequents = (last 11 1 16 ∷ within 11 1 0 60000 ∷ []) ∷ (last 21 1 4 ∷ within 21 1 0 500 ∷ free 21 1 2 ∷ []) ∷ [];
}

-- what stood at place 1 comes to place 0, and the other way round
pub swapped : ℕ → ℕ
swapped i = 1 - i

pub record Examples : Type 0 where
  pub sheets : rearranged correction_first swapped ≡ calibration_first
  -- sets and limits stay, though they may be numbers of points
  pub limits : reordered 2 swapped ((last 11 1 21 ∷ within 11 1 11 19 ∷ []) ∷ (before 21 1 ∷ []) ∷ []) ≡ (before 11 1 ∷ []) ∷ (last 21 1 21 ∷ within 21 1 11 19 ∷ []) ∷ []
  -- eight antiscenarios, 1 to 8, under their new numbers
  pub counts : count correction_first ≡ 8
  pub numbers : map (renumbered correction_first swapped) (1 ∷ 2 ∷ 3 ∷ 4 ∷ 5 ∷ 6 ∷ 7 ∷ 8 ∷ []) ≡ 1 ∷ 5 ∷ 2 ∷ 6 ∷ 3 ∷ 7 ∷ 4 ∷ 8 ∷ []
  -- number 5, an injection in between and no calibration, is number 3 of the other, the spare point 19 renumbered too
  pub number_5 : chosen correction_first 5 ≡ (last 11 1 4 ∷ point 19 2 ∷ before 11 19 ∷ before 19 1 ∷ []) ∷ (free 0 1 16 ∷ []) ∷ []
  pub number_3 : chosen calibration_first 3 ≡ (free 0 1 16 ∷ []) ∷ (last 21 1 4 ∷ point 29 2 ∷ before 21 29 ∷ before 29 1 ∷ []) ∷ []

pub examples : Examples
unfolding correction_first calibration_first swapped rearranged reordered table move renumbered choice way count chosen choices total choose denials closure points elem brings end denying_free gather ascends may_end first_or far_end denying_rows leads
examples = record { sheets = refl; limits = refl; counts = refl; numbers = refl; number_5 = refl; number_3 = refl }
