-- What the check has in memory beside the sheet's rows and the plan: how far into the antecedent's points each section reaches; and how its answer is put together. Inner vocabulary.
-- Assumes nothing.
use Rattle.std.specs.Prelude.{◌≡◌, true, List, ◌++◌, map, ℕ, ◌≤◌, ◌<◌, length, get_or, take, drop, replicate}
use Rattle.row.specs.Memory.{section_at, row_at}
use Rattle.pattern.specs.Placing.{by}
use Rattle.turn.specs.Due.{due}
use Rattle.plan.specs.Tables.{count_of_points, points_in}
use Rattle.plan.specs.declared.Tables.{Tables}
use Rattle.verdict.specs.Check.{Checked}

-- section 0 and at most 6 others
abbrev pub section_count : ℕ
section_count = 7

-- Of the points ps, in order, so many of each section have among them all that its rows use.
pub record Reaches (rows : List ℕ) (count : ℕ) (ps reaches : List ℕ) : Type 0 where
  pub size : length reaches ≡ section_count
  pub most : (s : ℕ) → get_or reaches s 0 ≤ length ps
  pub used : (j : ℕ) → j < count → due ps (row_at rows j) ≤ get_or reaches (section_at rows j) 0

-- the positions of the plan's points, in order, at the front of zeros
abbrev pub places_in : (plan : Tables) (positions : List ℕ) → List ℕ
places_in plan positions = map (by positions) (take (count_of_points plan) (points_in plan)) ++ drop (count_of_points plan) (replicate 4 0)

-- an answer's numbers and arrays, where violated
abbrev pub violated_by : (points consequents : ℕ) (positions rows : List ℕ) → Checked
violated_by points consequents positions rows = record { refusal = 0; violated = true; points = points; consequents = consequents; positions = positions; rows = rows }
