-- Sets in one field, as document 01 had them before document 02's A1 and else as now, for one statement: old sheets keep their verdicts. What must be believed.
-- Assumes nothing.
use Rattle.std.specs.Prelude.{List, [], ◌∷◌, ◌++◌, map, ℕ, suc, ◌+◌, ◌-◌, ◌*◌, ◌≤◌, ◌<◌}
use Rattle.scenario.specs.Rows.{Row, point, next, last, earlier, later, before, apart, same, free, within, outside, event, full_half, lower_half, needs, closure, far_end, denying_rows}
use Rattle.scenario.specs.Log.{Log}
use Rattle.scenario.specs.Sheet.{Sheet, flat, total, choose}
use Rattle.scenario.specs.Fields.{Fields, five}
use Rattle.scenario.specs.Reading.{All}

-- "events are 0 to 31": how many there were, and a log that has no others
abbrev pub event_count_before : ℕ
event_count_before = 32

abbrev pub OldLog : Log → Type 0
OldLog log = All (λ (e : ℕ). e < event_count_before) log.events

-- a row whose set one field holds, and a sheet of such rows
abbrev pub Narrow : Row → Type 0
Narrow (point p s) = s ≤ full_half
Narrow (next p q s) = s ≤ full_half
Narrow (last p q s) = s ≤ full_half
Narrow (earlier p q a) = Unit {0}
Narrow (later p q a) = Unit {0}
Narrow (before p q) = Unit {0}
Narrow (apart p q) = Unit {0}
Narrow (same p q) = Unit {0}
Narrow (free p q s) = s ≤ full_half
Narrow (within p q lo hi) = Unit {0}
Narrow (outside p q lo hi) = Unit {0}
Narrow (event p s) = s ≤ full_half

pub record OldSheet (sheet : Sheet) : Type 0 where
  pub antecedent : All Narrow sheet.antecedent
  pub consequents : All (All Narrow) sheet.consequents

-- "Fields a kind doesn't mention are 0": the set in a, and b 0
unfoldable pub fields_before : Row → Fields
fields_before (point p s) = five 1 p 0 s 0
fields_before (next p q s) = five 2 p q s 0
fields_before (last p q s) = five 3 p q s 0
fields_before (earlier p q a) = five 4 p q a 0
fields_before (later p q a) = five 5 p q a 0
fields_before (before p q) = five 6 p q 0 0
fields_before (apart p q) = five 7 p q 0 0
fields_before (same p q) = five 8 p q 0 0
fields_before (free p q s) = five 9 p q s 0
fields_before (within p q lo hi) = five 10 p q lo hi
fields_before (outside p q lo hi) = five 11 p q lo hi
fields_before (event p s) = five 12 p 0 s 0

-- "EVENT: with the set 4,294,967,295 − a"
unfoldable pub complement_before : ℕ → ℕ
complement_before s = full_half - s

-- what an EVENT row gives, and d for the other kinds
abbrev pub on_event : {A : Type 0} (d : A) → ((p s : ℕ) → A) → Row → A
on_event d f (point p s) = d
on_event d f (next p q s) = d
on_event d f (last p q s) = d
on_event d f (earlier p q a) = d
on_event d f (later p q a) = d
on_event d f (before p q) = d
on_event d f (apart p q) = d
on_event d f (same p q) = d
on_event d f (free p q s) = d
on_event d f (within p q lo hi) = d
on_event d f (outside p q lo hi) = d
on_event d f (event p s) = f p s

-- Denials, their choices, N and the antiscenarios, under the sentences that Rows and Sheet quote, with EVENT denied by its set from 4,294,967,295: no other kind's
-- denials have changed.
unfoldable pub denying_rows_before : (far r : ℕ) → Row → List (List Row)
denying_rows_before far r row = on_event (denying_rows far r row) (λ p s. (event p (complement_before s) ∷ []) ∷ []) row

unfoldable pub denials_before : (far : Row → ℕ) (r : ℕ) → (passed rows : List Row) → List (List Row)
denials_before far r passed [] = []
denials_before far r passed (row ∷ rows) =
    map (λ d. closure passed (needs row) ++ d) (denying_rows_before (far row) r row) ++ denials_before far r (row ∷ passed) rows

unfoldable pub choices_before : (antecedent : List Row) → ℕ → List (List Row) → List (List (List Row))
choices_before antecedent i [] = []
choices_before antecedent i (c ∷ cs) = denials_before (far_end antecedent c) (10 * i + 9) [] c ∷ choices_before antecedent (suc i) cs

unfoldable pub count_before : Sheet → ℕ
count_before sheet = total (choices_before sheet.antecedent 1 sheet.consequents)

unfoldable pub chosen_before : Sheet → ℕ → List (List Row)
chosen_before sheet m = choose [] (choices_before sheet.antecedent 1 sheet.consequents) (m - 1)

unfoldable pub antiscenario_before : Sheet → ℕ → List Row
antiscenario_before sheet m = sheet.antecedent ++ flat (chosen_before sheet m)

-- the row without the upper half of EVENT's set: where the two antiscenarios differ
unfoldable pub lower_event : Row → Row
lower_event row = on_event row (λ p s. event p (lower_half s)) row
