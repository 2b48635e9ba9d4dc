-- Sheets and logs that were accepted before document 02's A1, and what they keep: "Old sheets keep their verdicts." What must be believed.
-- Assumes nothing.
use Rattle.std.specs.Prelude.{◌≡◌, List, map, ℕ}
use Rattle.scenario.specs.Log.{Log, run_of}
use Rattle.scenario.specs.Fields.{Tagged}
use Rattle.scenario.specs.Sheet.{Sheet, matching, antiscenario}
use Rattle.scenario.specs.Search.{check, smallest_matching}
use Rattle.scenario.specs.Reading.{All}
use Rattle.scenario.specs.Before.{OldLog, Narrow, fields_before, count_before, antiscenario_before}
use Rattle.row.specs.declared.Line.{Line}
use Rattle.row.specs.Row.{six}
use Rattle.sheet.specs.Reading.{sheet_in, count_in}
use Rattle.sheet.specs.Text.{sheet_text}
use Rattle.sheet.specs.Valid.{ValidSheet, sheet_from}
use Rattle.runlog.specs.Log.{log_of}
use Rattle.runlog.specs.Text.{ValidLog, log_text}
use Rattle.verdict.specs.Check.{Accepted, check_of, verdict_of}

-- a row's six numbers, as document 01 had them
unfoldable pub numbers_before : Tagged → Line
numbers_before t =
    six t.section (fields_before t.row).kind (fields_before t.row).p (fields_before t.row).q (fields_before t.row).a (fields_before t.row).b

-- The bytes are the text, by the old fields, of a valid sheet whose sets one field holds: these were the accepted sheets.
pub record OldSheetText (s : List ℕ) : Type 0 where
  pub k : ℕ
  pub rows : List Tagged
  pub valid : ValidSheet k rows
  pub narrow : All (λ (t : Tagged). Narrow t.row) rows
  pub text : s ≡ sheet_text k (map numbers_before rows)

-- in today's columns: a row whose b is 0, unless it is a limit
abbrev pub NoUpperHalf : Line → Type 0
NoUpperHalf l = (l.kind ≡ 10 → ⊥) → (l.kind ≡ 11 → ⊥) → l.b ≡ 0

-- The bytes are the text of a valid log with events 0 to 31: these were the accepted logs.
pub record OldLogText (l : List ℕ) : Type 0 where
  pub log : Log
  pub valid : ValidLog log
  pub old : OldLog log
  pub text : l ≡ log_text log

-- What such a sheet and log keep of what A1 touches; `sheet` and `log` are what the bytes spell, and the antiscenarios before are those with document 01's denial of
-- EVENT. WITHIN is met as A9 has it on both sides: what A9 changed is said by scenario's specs/Clock.
pub record Kept (s l : List ℕ) (sheet : Sheet) (log : Log) : Type 0 where
  -- both are accepted, and read as they were
  pub accepted : Accepted s l
  pub read_sheet : sheet_in s ≡ sheet
  pub read_log : log_of l ≡ log
  -- the check's whole answer: the verdict, the placement and the rows at fault
  pub checked : check_of s l ≡ verdict_of (run_of log) sheet (check (run_of log) sheet)
  -- N; and of each number the matchings, and what its search finds
  pub count : count_in s ≡ count_before sheet
  pub matchings : (m : ℕ) (zs : List ℕ) → matching (run_of (log_of l)) (antiscenario (sheet_in s) m) zs ≡ matching (run_of log) (antiscenario_before sheet m) zs
  pub searched : (m : ℕ) → smallest_matching (run_of (log_of l)) (antiscenario (sheet_in s) m) ≡ smallest_matching (run_of log) (antiscenario_before sheet m)

abbrev pub OldKept : (s l : List ℕ) → OldSheetText s → OldLogText l → Type 0
OldKept s l S L = Kept s l (sheet_from S.k S.rows) L.log
