-- What document 02's A8 leaves as it was: with the long denials in their place, every antiscenario's matchings together say the same. What must be believed.
-- Assumes nothing.
use Rattle.std.specs.Prelude.{◌≡◌, ◌↔◌, true, false, List, ℕ, ◌≤◌, T}
use Rattle.scenario.specs.Rows.{points}
use Rattle.scenario.specs.Sheet.{matching, cut, choices, total, antiscenario, no_larger}
use Rattle.scenario.specs.Long.{long_end, antiscenario_long, DeniedLong}
use Rattle.sheet.specs.Reading.{count_in, sheet_in}
use Rattle.runlog.specs.Log.{run_in}
use Rattle.verdict.specs.Check.{Checked}
use Rattle.verdict.specs.Check.{placement_in}
use Rattle.verdict.specs.Demands.{Denied}

-- Of a sheet s and a log l that are accepted, and the check's answer c: "Violating placements and verdicts come out unchanged".
pub record SameAsLong (s l : List ℕ) (c : Checked) : Type 0 where
  -- there are as many
  pub count : count_in s ≡ total (choices long_end 1 (sheet_in s).consequents)
  -- each number has the same points, and is found wherever it was found, at the same place
  pub points : (m : ℕ) → points (antiscenario (sheet_in s) m) ≡ points (antiscenario_long (sheet_in s) m)
  pub found : (m : ℕ) → 1 ≤ m → m ≤ count_in s → (zs : List ℕ) → T (matching (run_in l) (antiscenario_long (sheet_in s) m) zs) → T (matching (run_in l) (antiscenario (sheet_in s) m) zs)
  -- the matchings of all, cut down, are the same set of placements
  pub placements : (xs : List ℕ) → Denied s l xs ↔ DeniedLong (run_in l) (sheet_in s) xs
  -- the check says "holds" exactly when none of them matches
  pub holds : (c.violated ≡ false) ↔ ((m : ℕ) → 1 ≤ m → m ≤ count_in s → (zs : List ℕ) → T (matching (run_in l) (antiscenario_long (sheet_in s) m) zs) → ⊥)
  -- else its placement is the smallest of theirs, cut
  pub reached : c.violated ≡ true → DeniedLong (run_in l) (sheet_in s) (placement_in c)
  pub smallest : c.violated ≡ true → (m : ℕ) → 1 ≤ m → m ≤ count_in s → (zs : List ℕ) → T (matching (run_in l) (antiscenario_long (sheet_in s) m) zs)
      → T (no_larger (placement_in c) (cut (sheet_in s) zs))
