-- Search antiscenario m over bytes: what it says, and what the lent places hold afterwards. What must be believed.
-- Assumes nothing.
use Rattle.std.specs.Prelude.{◌≡◌, ◌↔◌, cond, not, false, true, Bool, List, ◌++◌, ℕ, length, drop, eqb, ltb, T, Result, Ok, Err}
use Rattle.scenario.specs.Rows.{Row, Run, points}
use Rattle.scenario.specs.Sheet.{Answer, antiscenario, matching, Smallest, nothing, found}
use Rattle.scenario.specs.Search.{smallest_matching}
use Rattle.sheet.specs.Reading.{sheet_in}
use Rattle.runlog.specs.Log.{run_in}
use Rattle.antiscenario.specs.Judge.{refusal_of}
use Rattle.refusal.specs.declared.Refusal.{Refusal}
use Rattle.refusal.specs.Refusal.{number}
use Rattle.placing.specs.Matching.{is_found}

-- the refusal or 0, whether a matching was found, and what the lent places hold afterwards
pub record Searched : Type 0 where
  pub refusal : ℕ
  pub hit : Bool
  pub places : List ℕ

abbrev pub unsearched : ℕ → List ℕ → Searched
unsearched refusal places = record { refusal = refusal; hit = false; places = places }

-- the answer that the code gives, with what it leaves in the lent places
abbrev pub answered : Result Bool Refusal → List ℕ → Searched
answered (Ok hit) places = record { refusal = 0; hit = hit; places = places }
answered (Err r) places = unsearched (number r) places

-- Document 01: the matching is written to the front of the lent places and those after it are kept; with "none" all are.
unfoldable pub filled : List ℕ → Answer → List ℕ
filled places nothing = places
filled places (found xs) = xs ++ drop (length xs) places

abbrev pub searched : List ℕ → Answer → Searched
searched places a = record { refusal = 0; hit = is_found a; places = filled places a }

-- 33 fewer places lent than points
abbrev pub too_few_places : ℕ
too_few_places = 33

-- so many, or else the smallest matching of the rows, or none
abbrev pub search_rows : Run → List Row → (places : List ℕ) → Searched
search_rows run rs places = cond (ltb (length places) (length (points rs))) (unsearched too_few_places places) (searched places (smallest_matching run rs))

-- "Sheet's refusals, the log's, 31"; else the search of the antiscenario's rows
unfoldable pub search_of : (s l : List ℕ) (m : ℕ) (places : List ℕ) → Searched
search_of s l m places =
    cond (not (eqb (refusal_of s l m) 0)) (unsearched (refusal_of s l m) places) (search_rows (run_in l) (antiscenario (sheet_in s) m) places)

-- a search says "none", and leaves all places as they were
pub record SaysNone (r : Searched) (places : List ℕ) : Type 0 where
  pub accepted : r.refusal ≡ 0
  pub none : r.hit ≡ false
  pub kept : r.places ≡ places

-- zs is a matching of antiscenario m of the sheet s on the log l
abbrev pub Matches : (s l : List ℕ) (m : ℕ) → List ℕ → Type 0
Matches s l m zs = T (matching (run_in l) (antiscenario (sheet_in s) m) zs)

-- What a search that is not refused says: "none" exactly if no matching exists, with all places left; else the smallest matching, by the order of placements,
-- at the front of the places and those after it kept.
pub record Told (s l : List ℕ) (m : ℕ) (places : List ℕ) (r : Searched) : Type 0 where
  pub none : r.hit ≡ false ↔ ((zs : List ℕ) → Matches s l m zs → ⊥)
  pub kept : r.hit ≡ false → r.places ≡ places
  pub smallest : r.hit ≡ true → (xs : List ℕ) × Smallest (Matches s l m) xs × (r.places ≡ xs ++ drop (length xs) places)
