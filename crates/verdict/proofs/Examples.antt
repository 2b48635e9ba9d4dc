-- Document 01's starred examples over bytes, with what document 02 changes, in one table: a sheet's text and a log's, and what reading, writing, searching and the check answer.
-- Assumes nothing.
use mathlib.Core.Path.{◌≡◌, refl}
use mathlib.Core.Bool.{Bool, true, false, cond}
use mathlib.Core.List.{List, [], ◌∷◌, ◌++◌, map}
use Prim.Native.Nat.{ℕ}
use lib.ListN.{length, replicate}
use lib.Dec.{eqb}
use borrow.Author.Tests.{eq-eqb}
use Rattle.columns.specs.Number as number
use Rattle.columns.specs.Spell as spelling
use Rattle.scenario.specs.Links as links
use Rattle.scenario.specs.Rows as rows
use Rattle.scenario.specs.Sheet as sheets
use Rattle.scenario.specs.Log as logs
use Rattle.scenario.specs.Walk as walks
use Rattle.scenario.specs.Search as searches
use Rattle.scenario.specs.Fields as fields
use Rattle.row.specs.Row as row
use Rattle.rules.specs.Rules as rules
use Rattle.sheet.specs.Reading as reading
use Rattle.sheet.specs.Text as text
use Rattle.runlog.specs.Log as log
use Rattle.antiscenario.specs.Write as writing
use Rattle.denial.specs.Build as building
use Rattle.antiscenario.specs.Judge as judging
use Rattle.search.specs.Searching as searching
use Rattle.verdict.specs.Check.{front, violated_at, verdict_of, check_of, placement_in, rows_in}

-- The texts

-- a log's text, from ticks and events of its lines: it starts at 0 and closes at the last tick
abbrev lines_text : List (ℕ × ℕ) → List ℕ
lines_text [] = []
lines_text (l ∷ ls) = spelling.spell 11 l.0 ++ (spelling.spell 3 l.1 ++ (10 ∷ lines_text ls))

abbrev last_tick_of : ℕ → List (ℕ × ℕ) → ℕ
last_tick_of t [] = t
last_tick_of t (l ∷ ls) = last_tick_of l.0 ls

abbrev log_text : List (ℕ × ℕ) → List ℕ
log_text ls = spelling.spell 5 (length ls) ++ (spelling.spell 11 0 ++ (spelling.spell 11 (last_tick_of 0 ls) ++ (10 ∷ lines_text ls)))

-- What is answered

pub record Answers : Type 0 where
  -- reading: N
  pub count : ℕ
  -- writing the antiscenario: the refusal or 0, and its text
  pub unwritten : ℕ
  pub written : List ℕ
  -- searching it, three places lent: the refusal or 0, whether it is found, and the places afterwards
  pub unsearched : ℕ
  pub hit : Bool
  pub places : List ℕ
  -- the check: the refusal or 0, the verdict, the antecedent's positions, and the rows at fault
  pub refusal : ℕ
  pub violated : Bool
  pub positions : List ℕ
  pub rows : List ℕ

pub record Example : Type 0 where
  pub sheet : List ℕ
  pub log : List ℕ
  -- the antiscenario that is written and searched
  pub number : ℕ
  pub answers : Answers

abbrev answered : (s l : List ℕ) (m : ℕ) → Answers
answered s l m = record {
  count = reading.count_in s;
  unwritten = (writing.write_of s m 300).refusal;
  written = cond (eqb (writing.write_of s m 300).refusal 0) (writing.written_text s m) [];
  unsearched = (searching.search_of s l m (replicate 3 0)).refusal;
  hit = (searching.search_of s l m (replicate 3 0)).hit;
  places = (searching.search_of s l m (replicate 3 0)).places;
  refusal = (check_of s l).refusal;
  violated = (check_of s l).violated;
  positions = placement_in (check_of s l);
  rows = rows_in (check_of s l);
}

-- The sheets

-- sheet S
abbrev S : List ℕ
S = text.sheet_text 1 (row.six 0 1 1 0 8 0 ∷ row.six 1 3 11 1 4 0 ∷ row.six 1 10 11 1 0 500 ∷ row.six 1 9 11 1 2 0 ∷ [])

-- its antiscenarios: LAST denied, WITHIN denied, and FREE denied in two ways
abbrev S1 : List ℕ
S1 = text.sheet_text 1 (row.six 0 1 1 0 8 0 ∷ row.six 1 9 0 1 4 0 ∷ [])

abbrev S2 : List ℕ
S2 = text.sheet_text 1 (row.six 0 1 1 0 8 0 ∷ row.six 1 3 11 1 4 0 ∷ row.six 1 11 11 1 0 500 ∷ [])

abbrev S3 : List ℕ
S3 = text.sheet_text 1 (row.six 0 1 1 0 8 0 ∷ row.six 1 3 11 1 4 0 ∷ row.six 1 1 19 0 2 0 ∷ row.six 1 6 11 19 0 0 ∷ row.six 1 6 19 1 0 0 ∷ [])

-- points 1 and 2 both with set 8, consequent BEFORE 1 2
abbrev twice : List ℕ
twice = text.sheet_text 1 (row.six 0 1 1 0 8 0 ∷ row.six 0 1 2 0 8 0 ∷ row.six 1 6 1 2 0 0 ∷ [])

abbrev twice1 : List ℕ
twice1 = text.sheet_text 1 (row.six 0 1 1 0 8 0 ∷ row.six 0 1 2 0 8 0 ∷ row.six 1 6 2 1 0 0 ∷ [])

abbrev twice2 : List ℕ
twice2 = text.sheet_text 1 (row.six 0 1 1 0 8 0 ∷ row.six 0 1 2 0 8 0 ∷ row.six 1 8 1 2 0 0 ∷ [])

-- points 1 and 2 both with set 8, consequent WITHIN 1 2; and its antiscenario
abbrev distance : (lo hi : ℕ) → List ℕ
distance lo hi = text.sheet_text 1 (row.six 0 1 1 0 8 0 ∷ row.six 0 1 2 0 8 0 ∷ row.six 1 10 1 2 lo hi ∷ [])

abbrev distance1 : (lo hi : ℕ) → List ℕ
distance1 lo hi = text.sheet_text 1 (row.six 0 1 1 0 8 0 ∷ row.six 0 1 2 0 8 0 ∷ row.six 1 11 1 2 lo hi ∷ [])

-- k = 0 and k = 1, without rows
abbrev bare : ℕ → List ℕ
bare k = text.sheet_text k []

-- document 02, A1: event 33 of a newer board where the sheet asks for event 0; and a rule over events 32, 33, 40 and 63
abbrev upper : List ℕ
upper = text.sheet_text 1 (row.six 0 1 1 0 0 2 ∷ row.six 1 12 1 0 1 0 ∷ [])

abbrev upper1 : List ℕ
upper1 = text.sheet_text 1 (row.six 0 1 1 0 0 2 ∷ row.six 1 12 1 0 4294967294 4294967295 ∷ [])

abbrev board : List ℕ
board = text.sheet_text 1 (row.six 0 1 1 0 0 2 ∷ row.six 1 3 11 1 0 1 ∷ row.six 1 9 11 1 0 256 ∷ row.six 1 2 12 1 0 2147483648 ∷ [])

abbrev board1 : List ℕ
board1 = text.sheet_text 1 (row.six 0 1 1 0 0 2 ∷ row.six 1 9 0 1 0 1 ∷ [])

abbrev board2 : List ℕ
board2 = text.sheet_text 1 (row.six 0 1 1 0 0 2 ∷ row.six 1 3 11 1 0 1 ∷ row.six 1 1 19 0 0 256 ∷ row.six 1 6 11 19 0 0 ∷ row.six 1 6 19 1 0 0 ∷ [])

abbrev board4 : List ℕ
board4 = text.sheet_text 1 (row.six 0 1 1 0 0 2 ∷ row.six 1 9 1 99 0 2147483648 ∷ [])

-- The table

abbrev example : (s l : List ℕ) (m : ℕ) → (count unwritten : ℕ) (written : List ℕ) (unsearched : ℕ) (hit : Bool) (places : List ℕ) (refusal : ℕ) (violated : Bool) (positions rows : List ℕ) → Example
example s l m count unwritten written unsearched hit places refusal violated positions rows = record {
  sheet = s;
  log = l;
  number = m;
  answers = record { count = count; unwritten = unwritten; written = written; unsearched = unsearched; hit = hit; places = places; refusal = refusal; violated = violated; positions = positions; rows = rows };
}

abbrev starred : List Example
starred =
    -- 900: violated at 3, row 3; number 2 found at 3, 1; number 3 is not found
    example S (log_text ((100, 2) ∷ (300, 3) ∷ (900, 3) ∷ [])) 2 4 0 S2 0 true (3 ∷ 1 ∷ 0 ∷ []) 0 true (3 ∷ []) (3 ∷ [])
    ∷ example S (log_text ((100, 2) ∷ (300, 3) ∷ (900, 3) ∷ [])) 3 4 0 S3 0 false (0 ∷ 0 ∷ 0 ∷ []) 0 true (3 ∷ []) (3 ∷ [])
    -- A9: 599 holds; 600 is violated at row 3, and 601
    ∷ example S (log_text ((100, 2) ∷ (300, 3) ∷ (599, 3) ∷ [])) 2 4 0 S2 0 false (0 ∷ 0 ∷ 0 ∷ []) 0 false [] []
    ∷ example S (log_text ((100, 2) ∷ (300, 3) ∷ (600, 3) ∷ [])) 2 4 0 S2 0 true (3 ∷ 1 ∷ 0 ∷ []) 0 true (3 ∷ []) (3 ∷ [])
    ∷ example S (log_text ((100, 2) ∷ (300, 3) ∷ (601, 3) ∷ [])) 2 4 0 S2 0 true (3 ∷ 1 ∷ 0 ∷ []) 0 true (3 ∷ []) (3 ∷ [])
    -- 10 3 alone: violated at 1, row 2
    ∷ example S (log_text ((10, 3) ∷ [])) 1 4 0 S1 0 true (1 ∷ 0 ∷ 0 ∷ []) 0 true (1 ∷ []) (2 ∷ [])
    -- row 4; number 3 at 3, 1, 2
    ∷ example S (log_text ((100, 2) ∷ (200, 1) ∷ (300, 3) ∷ [])) 3 4 0 S3 0 true (3 ∷ 1 ∷ 2 ∷ []) 0 true (3 ∷ []) (4 ∷ [])
    -- n = 0: S holds
    ∷ example S (log_text []) 1 4 0 S1 0 false (0 ∷ 0 ∷ 0 ∷ []) 0 false [] []
    -- k = 0, no rows: N = 1, violated
    ∷ example (bare 0) (log_text []) 1 1 0 (bare 0) 0 true (0 ∷ 0 ∷ 0 ∷ []) 0 true [] []
    ∷ example (bare 0) (log_text ((10, 3) ∷ [])) 1 1 0 (bare 0) 0 true (0 ∷ 0 ∷ 0 ∷ []) 0 true [] []
    -- k = 1, that consequent empty: N = 0, holds
    ∷ example (bare 1) (log_text ((10, 3) ∷ [])) 1 0 31 [] 31 false (0 ∷ 0 ∷ 0 ∷ []) 0 false [] []
    -- one scan: number 1 none, number 2 (SAME) at 1, 1
    ∷ example twice (log_text ((10, 3) ∷ [])) 1 2 0 twice1 0 false (0 ∷ 0 ∷ 0 ∷ []) 0 true (1 ∷ 1 ∷ []) (3 ∷ [])
    ∷ example twice (log_text ((10, 3) ∷ [])) 2 2 0 twice2 0 true (1 ∷ 1 ∷ 0 ∷ []) 0 true (1 ∷ 1 ∷ []) (3 ∷ [])
    -- A9: equal ticks on two lines are two positions, and surely less than a millisecond apart, but not surely none
    ∷ example (distance 0 1) (log_text ((10, 3) ∷ (10, 3) ∷ [])) 1 1 0 (distance1 0 1) 0 false (0 ∷ 0 ∷ 0 ∷ []) 0 false [] []
    ∷ example (distance 0 0) (log_text ((10, 3) ∷ (10, 3) ∷ [])) 1 1 0 (distance1 0 0) 0 true (1 ∷ 2 ∷ 0 ∷ []) 0 true (1 ∷ 2 ∷ []) (3 ∷ [])
    -- A1: violated, and the pattern finds it; a newer board's rule kept, and broken in LAST, FREE and NEXT
    ∷ example upper (log_text ((10, 33) ∷ [])) 1 1 0 upper1 0 true (1 ∷ 0 ∷ 0 ∷ []) 0 true (1 ∷ []) (2 ∷ [])
    ∷ example board (log_text ((10, 32) ∷ (20, 33) ∷ (30, 63) ∷ [])) 4 4 0 board4 0 false (0 ∷ 0 ∷ 0 ∷ []) 0 false [] []
    ∷ example board (log_text ((10, 0) ∷ (20, 33) ∷ (30, 63) ∷ [])) 1 4 0 board1 0 true (2 ∷ 0 ∷ 0 ∷ []) 0 true (2 ∷ []) (2 ∷ [])
    ∷ example board (log_text ((10, 32) ∷ (20, 40) ∷ (30, 33) ∷ (40, 63) ∷ [])) 2 4 0 board2 0 true (3 ∷ 1 ∷ 2 ∷ []) 0 true (3 ∷ []) (3 ∷ [])
    ∷ example board (log_text ((10, 32) ∷ (20, 33) ∷ (30, 31) ∷ [])) 4 4 0 board4 0 true (2 ∷ 0 ∷ 0 ∷ []) 0 true (2 ∷ []) (4 ∷ [])
    ∷ []

pub starred-examples : map (λ (x : Example). answered x.sheet x.log x.number) starred ≡ map (λ (x : Example). x.answers) starred
unfolding number.field_at number.numeral number.scan spelling.spell spelling.left spelling.left_byte spelling.last_byte
    text.sheet_text text.head_text text.rows_text text.row_text
    reading.answer reading.taken reading.closing reading.head_of reading.rows_from reading.row_bytes reading.after reading.sheet_of reading.section reading.sections row.row_in
    row.line_of rules.refusal rules.section_fits rules.refusal_within rules.origin_fits rules.kind_fits rules.p_fits rules.is_due rules.ordinary rules.known rules.q_fits rules.known_but rules.ordinary_but rules.both_ordinary rules.rest_fits rules.set_only rules.both_zero rules.room_fits rules.enter rules.advance
    log.answer log.taken log.closing log.head_of log.lines_from log.line_bytes log.line_of log.log_of
    rows.denials rows.denying_rows rows.denying_free rows.end rows.gather rows.ascends links.leads rows.may_end rows.first_or rows.far_end rows.closure rows.brings rows.elem rows.set_of rows.lower_half rows.upper_half rows.complement rows.meets rows.points rows.clear rows.below rows.between
    fields.decode fields.fields fields.tagged fields.written
    sheets.count sheets.total sheets.choices sheets.choose sheets.chosen sheets.flat sheets.antiscenario sheets.matching sheets.all sheets.is_line sheets.env sheets.lookup
    logs.in_set logs.has_at logs.tick logs.sure logs.near_at walks.placing walks.lowest_above walks.highest_below walks.advance walks.walk
    searches.sweep searches.least searches.smallest_matching searches.is_violating searches.check searches.faults
    writing.write_of writing.written_text writing.written_lines building.line_from text.numbers_of searching.filled judging.refusal_of searching.search_of
    check_of verdict_of violated_at front
starred-examples = refl

-- k = 0, no rows: violated on every log
pub bare-violated : (l : List ℕ) → (log.answer l).refusal ≡ 0 → (check_of (bare 0) l).violated ≡ true
unfolding number.field_at number.numeral number.scan spelling.spell spelling.left spelling.left_byte spelling.last_byte
    text.sheet_text text.head_text text.rows_text
    reading.answer reading.taken reading.closing reading.head_of reading.rows_from reading.sheet_of reading.section reading.sections
    rows.points sheets.count sheets.total sheets.choices sheets.matching sheets.all
    searches.least searches.is_violating searches.check check_of verdict_of violated_at
bare-violated l e = simp (eq-eqb (log.answer l).refusal 0 e)
