-- Demand 3 over bytes: what the check answers against what the searches answer, of a sheet and a log that are accepted. What must be believed.
-- Assumes nothing.
use Rattle.std.specs.Prelude.{◌≡◌, ◌↔◌, true, false, List, ℕ, ◌≤◌, length, T}
use Rattle.scenario.specs.Rows.{points}
use Rattle.scenario.specs.Sheet.{matching, cut, antiscenario, Over, Holds, Violating, no_larger}
use Rattle.scenario.specs.Search.{RowsAtFault}
use Rattle.sheet.specs.Reading.{count_in, sheet_in}
use Rattle.runlog.specs.Log.{run_in}
use Rattle.search.specs.Searching.{SaysNone, Searched}
use Rattle.verdict.specs.Check.{Checked}
use Rattle.verdict.specs.Check.{placement_in, rows_in}

-- some antiscenario, of the numbers 1 to N as reading reports it, has a matching that, cut down to the antecedent's points, is xs
pub record Denied (s l xs : List ℕ) : Type 0 where
  pub number : ℕ
  pub low : 1 ≤ number
  pub high : number ≤ count_in s
  pub place : List ℕ
  pub over : Over (run_in l) (sheet_in s) (antiscenario (sheet_in s) number) xs place

-- no antiscenario matches
abbrev pub Unmatched : (s l : List ℕ) → Type 0
Unmatched s l = (m : ℕ) → 1 ≤ m → m ≤ count_in s → (zs : List ℕ) → T (matching (run_in l) (antiscenario (sheet_in s) m) zs) → ⊥

-- enough places lent: for each antiscenario a list of them, as many as it has points, or more; whatever they hold
abbrev pub Enough : (s : List ℕ) → (ℕ → List ℕ) → Type 0
Enough s lent = (m : ℕ) → 1 ≤ m → m ≤ count_in s → length (points (antiscenario (sheet_in s) m)) ≤ length (lent m)

-- a search finds a matching that, cut, is xs
pub record Finds (s xs : List ℕ) (r : Searched) : Type 0 where
  pub accepted : r.refusal ≡ 0
  pub hit : r.hit ≡ true
  pub cut : cut (sheet_in s) r.places ≡ xs

-- Of a sheet s and a log l that are accepted: the check's answer c, and the searches' answers f m places.
pub record DemandThree (s l : List ℕ) (c : Checked) (f : (m : ℕ) → List ℕ → Searched) : Type 0 where
  -- the check answers
  pub answers : c.refusal ≡ 0
  -- (a) a placement is violating exactly when some antiscenario has a matching that, cut, is it
  pub agree : (xs : List ℕ) → Violating (run_in l) (sheet_in s) xs ↔ Denied s l xs
  -- (b) the check says "holds" exactly when each matching of the antecedent extends to a matching of antecedent and some one consequent,
  pub keeps : (c.violated ≡ false) ↔ Holds (run_in l) (sheet_in s)
  -- exactly when no antiscenario matches,
  pub holds : (c.violated ≡ false) ↔ Unmatched s l
  -- and that is exactly when each search, lent enough places, says "none", whatever the places hold
  pub none : (lent : ℕ → List ℕ) → Enough s lent → Unmatched s l ↔ ((m : ℕ) → 1 ≤ m → m ≤ count_in s → SaysNone (f m (lent m)) (lent m))
  -- (c) else it says "violated" with a violating placement,
  pub violating : c.violated ≡ true → Violating (run_in l) (sheet_in s) (placement_in c)
  -- which is the smallest of the placements that the searches find, cut: one of them finds it, and each finds it or a larger one;
  pub reached : c.violated ≡ true → (lent : ℕ → List ℕ) → Enough s lent → (m : ℕ) × (1 ≤ m) × (m ≤ count_in s) × Finds s (placement_in c) (f m (lent m))
  pub lowest : c.violated ≡ true → (m : ℕ) → 1 ≤ m → m ≤ count_in s → (places : List ℕ) → length (points (antiscenario (sheet_in s) m)) ≤ length places
      → (f m places).hit ≡ true → T (no_larger (placement_in c) (cut (sheet_in s) (f m places).places))
  -- every matching of every antiscenario, cut, is it or larger;
  pub smallest : c.violated ≡ true → (m : ℕ) → 1 ≤ m → m ≤ count_in s → (zs : List ℕ) → T (matching (run_in l) (antiscenario (sheet_in s) m) zs)
      → T (no_larger (placement_in c) (cut (sheet_in s) zs))
  -- and it names, for each consequent, its first row in sheet order that cannot be met over that placement
  pub faults : c.violated ≡ true → RowsAtFault (run_in l) (sheet_in s) (placement_in c) (rows_in c)
