-- The front door: the three demands over bytes, for every sheet and log that reading accepts.
-- Assumes nothing.
use mathlib.Core.Path.{◌≡◌}
use mathlib.Core.Logic.{◌↔◌}
use mathlib.Core.Bool.{true}
use mathlib.Core.List.{List, [], ◌∷◌, map, Memᴰ}
use Prim.Native.Nat.{ℕ, ◌+◌, ◌*◌, ◌≤◌, ◌<◌}
use lib.ListN.{length, get_or, take}
use lib.Dec.{T}
use Rattle.scenario.specs.Rows.{Row, next, last, points, close_point, far_end}
use Rattle.scenario.specs.Denials.{EndsNext, EndsLast, Taken}
use Rattle.scenario.specs.DenialsInOrder.{DenialsOf}
use Rattle.scenario.specs.Log.{Log}
use Rattle.scenario.specs.Fields.{Tagged, tagged}
use Rattle.scenario.specs.Sheet.{choices, chosen, antiscenario, matching}
use Rattle.scenario.proofs.Taken.{next-far_end, last-far_end}
use Rattle.scenario.proofs.InOrder.{sheet-denials-in_order}
use Rattle.sheet.specs.Reading.{answer, sheet_in, count_in}
use Rattle.row.specs.Row.{row_in}
use Rattle.sheet.specs.Text.{numbers_of}
use Rattle.sheet.specs.Valid.{ValidSheet, ValidText as ValidSheetText}
use Rattle.sheet.proofs.Theorems.{accepted-sheet}
use Rattle.sheet.proofs.OneText.{Determined, determined}
use Rattle.sheet.proofs.Valid.{accepted-valid as accepted-sheets, ReadAsValid, valid-read}
use Rattle.runlog.specs.Log.{answer as log-answer, run_in}
use Rattle.runlog.specs.Text.{ValidLog}
use Rattle.runlog.specs.Valid.{ValidText as ValidLogText}
use Rattle.runlog.proofs.Theorems.{accepted-valid as accepted-logs, AcceptedLog, accepted-text, OneText, one-text}
use Rattle.antiscenario.specs.Judge.{judge_of}
use Rattle.antiscenario.specs.Plain.{ReadsAs}
use Rattle.antiscenario.specs.Write.{written_text, written_lines}
use Rattle.antiscenario.proofs.Demand.{written-says, written-only, written-rows, written-sections, judge_says}
use Rattle.antiscenario.proofs.InMemory.{written-few}
use Rattle.search.specs.Searching.{search_of}
use Rattle.verdict.specs.Check.{Accepted, check_of}
use Rattle.verdict.specs.Demands.{DemandThree}
use Rattle.verdict.proofs.DemandThree.{demand-bytes}

-- Demand 1. What is refused, with which number, and that lent memory is unchanged then, is in the contract of each of document 01's operations, an equation with
-- its definition (`read_sheet`, `read_log`, `judge`, `write_antiscenario`, `search_antiscenario`, `check`, `show_line`, and the exports of `bench`).
-- Here: the accepted texts are exactly the spellings of valid sheets and of valid logs (sheet/specs/Valid, runlog/specs/Text), each is read as the sheet or log
-- that it spells, with its count, and each is that of its own rows or lines alone.
pub record DemandOne : Type 0 where
  pub sheets : (s : List ℕ) → ((answer s).refusal ≡ 0) ↔ ValidSheetText s
  pub read_sheet : (k : ℕ) (rows : List Tagged) → ValidSheet k rows → ReadAsValid k rows
  pub one-sheet : (s t : List ℕ) → (answer s).refusal ≡ 0 → (answer t).refusal ≡ 0 → Determined s t
  pub logs : (l : List ℕ) → ((log-answer l).refusal ≡ 0) ↔ ValidLogText l
  pub read_log : (l : List ℕ) → (log-answer l).refusal ≡ 0 → AcceptedLog l
  pub one-log : (g : Log) → ValidLog g → OneText g

pub demand-one : DemandOne
demand-one = record { sheets = accepted-sheets; read_sheet = valid-read; one-sheet = determined; logs = accepted-logs; read_log = accepted-text; one-log = one-text }

-- Demand 2, of antiscenario m of an accepted sheet s.
pub record DemandTwo (s : List ℕ) (m : ℕ) : Type 0 where
  -- its text, read by the columns alone, says k and its rows,
  pub says : ReadsAs (written_text s m) (answer s).k (written_lines s m)
  -- "which have no other spelling";
  pub only : (t : List ℕ) → ReadsAs t (answer s).k (written_lines s m) → t ≡ written_text s m
  -- the rows are "the antecedent's rows, then one denial for each consequent in order", "each with the section it came from",
  pub sections : written_lines s m ≡ map numbers_of (tagged 0 ((sheet_in s).antecedent ∷ chosen (sheet_in s) m))
  -- chosen from the list of all denials of that consequent, which is document 01's: which they are, how many and in which order,
  pub denials : (i : ℕ) → i < length (sheet_in s).consequents → (ds : List (List Row))
      → (ds ≡ get_or (choices (far_end (sheet_in s).antecedent) 1 (sheet_in s).consequents) i [])
      ↔ DenialsOf (far_end (sheet_in s).antecedent (get_or (sheet_in s).consequents i [])) (10 * (1 + i) + 9) [] (get_or (sheet_in s).consequents i []) ds
  -- a missing point's far end being that of document 02's sentences (A8): of the antecedent points that they name the lowest, or else the close, the start;
  pub next-ends : (i : ℕ) → i < length (sheet_in s).consequents → (p q set : ℕ) → Memᴰ (next p q set) (get_or (sheet_in s).consequents i [])
      → Taken (EndsNext (sheet_in s).antecedent (get_or (sheet_in s).consequents i []) p q) close_point (far_end (sheet_in s).antecedent (get_or (sheet_in s).consequents i []) (next p q set))
  pub last-ends : (i : ℕ) → i < length (sheet_in s).consequents → (p q set : ℕ) → Memᴰ (last p q set) (get_or (sheet_in s).consequents i [])
      → Taken (EndsLast (sheet_in s).antecedent (get_or (sheet_in s).consequents i []) p q) 0 (far_end (sheet_in s).antecedent (get_or (sheet_in s).consequents i []) (last p q set))
  -- and without the sections they are the antiscenario that the search, judging and demand 3 speak of;
  pub rows : map row_in (written_lines s m) ≡ antiscenario (sheet_in s) m
  -- "At most 58 points and 98 rows."
  pub few : 1 ≤ m → m ≤ count_in s → (length (points (antiscenario (sheet_in s) m)) ≤ 58) × (length (written_lines s m) ≤ 98)
  -- On an accepted log, as many positions as it has points are judged, with a yes exactly when they are a matching of it: "a placement of its points meeting every row".
  pub judged : (l positions : List ℕ) (count : ℕ) → (log-answer l).refusal ≡ 0 → 1 ≤ m → m ≤ count_in s → count ≡ length (points (antiscenario (sheet_in s) m))
      → ((judge_of s l m positions count).refusal ≡ 0) × (((judge_of s l m positions count).met ≡ true) ↔ T (matching (run_in l) (antiscenario (sheet_in s) m) (take count positions)))

pub demand-two : (s : List ℕ) → (answer s).refusal ≡ 0 → (m : ℕ) → DemandTwo s m
demand-two s accepted m = record {
  says = written-says s accepted m;
  only = written-only s accepted m;
  sections = written-sections s m;
  denials = sheet-denials-in_order (sheet_in s) (accepted-sheet s accepted).read;
  next-ends = next-far_end (sheet_in s) (accepted-sheet s accepted).read;
  last-ends = last-far_end (sheet_in s) (accepted-sheet s accepted).read;
  rows = written-rows s m;
  few = written-few s accepted m;
  judged = λ l positions count log_accepted low high right. judge_says s l m positions count right accepted log_accepted low high;
}

-- Demand 3, of every sheet s and log l that are accepted, with N as reading reports it. Its parts stand, sentence by sentence, in specs/Demands.antt:
-- (a) agree: the violating placements are exactly the matchings of antiscenarios 1 to N, cut down to the antecedent's points;
-- (b) keeps, holds, none: the check says "holds" exactly when the sheet holds on the log, exactly when no antiscenario matches,
--     exactly when the search of every m from 1 to N, lent enough places, says "none", whatever the places hold;
-- (c) violating, reached, lowest, smallest: else it says "violated" with the smallest of the placements that the searches find, cut,
--     and every matching of every antiscenario, cut, is that placement or larger;
--     faults: for each consequent it names the first row in sheet order that cannot be met.
-- check_of and search_of are what `check` and the search answer by contract; `check` carries this same record in its own contract.
pub demand-three : (s l : List ℕ) → Accepted s l → DemandThree s l (check_of s l) (search_of s l)
demand-three s l accepted = demand-bytes s l accepted
