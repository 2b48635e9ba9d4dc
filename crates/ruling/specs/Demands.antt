-- Demand 3 over the numbers that are not impossible: "The others keep their numbers, and demand 3 must still hold over those numbers alone." What must be believed.
-- Document 02, A6. It is the record of verdict/specs/Demands with "possible" beside 1 to N.
-- Assumes nothing.
use Rattle.std.specs.Prelude.{◌≡◌, ◌↔◌, true, false, List, ℕ, ◌≤◌, length, T}
use Rattle.scenario.specs.Rows.{points}
use Rattle.scenario.specs.Sheet.{cut, antiscenario, Over, Holds, Violating, no_larger}
use Rattle.scenario.specs.Search.{RowsAtFault}
use Rattle.sheet.specs.Reading.{count_in, sheet_in}
use Rattle.runlog.specs.Log.{run_in}
use Rattle.search.specs.Searching.{Matches, SaysNone, Searched}
use Rattle.verdict.specs.Check.{Checked}
use Rattle.verdict.specs.Check.{placement_in, rows_in}
use Rattle.verdict.specs.Demands.{Finds}
use Rattle.ruling.specs.Ruling.{impossible_of}

-- a number in 1 to N that the operation does not call impossible
pub record Possible (s : List ℕ) (m : ℕ) : Type 0 where
  pub low : 1 ≤ m
  pub high : m ≤ count_in s
  pub possible : (impossible_of s m).impossible ≡ false

-- some possible antiscenario has a matching that, cut down to the antecedent's points, is xs
pub record DeniedPossibly (s l xs : List ℕ) : Type 0 where
  pub number : ℕ
  pub possible : Possible s number
  pub place : List ℕ
  pub over : Over (run_in l) (sheet_in s) (antiscenario (sheet_in s) number) xs place

-- no possible antiscenario matches
abbrev pub UnmatchedPossibly : (s l : List ℕ) → Type 0
UnmatchedPossibly s l = (m : ℕ) → Possible s m → (zs : List ℕ) → Matches s l m zs → ⊥

-- enough places lent to the search of each possible one
abbrev pub EnoughPossibly : (s : List ℕ) → (ℕ → List ℕ) → Type 0
EnoughPossibly s lent = (m : ℕ) → Possible s m → length (points (antiscenario (sheet_in s) m)) ≤ length (lent m)

-- Of a sheet s and a log l that are accepted: the check's answer c, and the searches' answers f m places.
pub record DemandThreePossibly (s l : List ℕ) (c : Checked) (f : (m : ℕ) → List ℕ → Searched) : Type 0 where
  pub answers : c.refusal ≡ 0
  -- (a)
  pub agree : (xs : List ℕ) → Violating (run_in l) (sheet_in s) xs ↔ DeniedPossibly s l xs
  -- (b)
  pub keeps : (c.violated ≡ false) ↔ Holds (run_in l) (sheet_in s)
  pub holds : (c.violated ≡ false) ↔ UnmatchedPossibly s l
  pub none : (lent : ℕ → List ℕ) → EnoughPossibly s lent → UnmatchedPossibly s l ↔ ((m : ℕ) → Possible s m → SaysNone (f m (lent m)) (lent m))
  -- (c)
  pub violating : c.violated ≡ true → Violating (run_in l) (sheet_in s) (placement_in c)
  pub reached : c.violated ≡ true → (lent : ℕ → List ℕ) → EnoughPossibly s lent → (m : ℕ) × Possible s m × Finds s (placement_in c) (f m (lent m))
  pub lowest : c.violated ≡ true → (m : ℕ) → Possible s m → (places : List ℕ) → length (points (antiscenario (sheet_in s) m)) ≤ length places
      → (f m places).hit ≡ true → T (no_larger (placement_in c) (cut (sheet_in s) (f m places).places))
  pub smallest : c.violated ≡ true → (m : ℕ) → Possible s m → (zs : List ℕ) → Matches s l m zs → T (no_larger (placement_in c) (cut (sheet_in s) zs))
  pub faults : c.violated ≡ true → RowsAtFault (run_in l) (sheet_in s) (placement_in c) (rows_in c)
