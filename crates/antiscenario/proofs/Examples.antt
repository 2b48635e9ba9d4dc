-- Worked examples: antiscenarios as they are written, and placements as they are judged, from the bytes of sheets and logs.
-- Assumes nothing.
use mathlib.Core.Path.{◌≡◌, refl}
use mathlib.Core.Bool.{Bool, true, false}
use mathlib.Core.List.{List, [], ◌∷◌, ◌++◌, map}
use Prim.Native.Nat.{ℕ}
use lib.ListN.{length}
use Rattle.columns.specs.Number.{field_at, numeral, scan}
use Rattle.columns.specs.Spell.{spell, left, left_byte, last_byte}
use Rattle.scenario.specs.Rows.{set_of, lower_half, upper_half, complement, meets, clear, below, between, points, denials, denying_rows, denying_free, end, gather, ascends, may_end, first_or, far_end, closure, brings, elem}
use Rattle.scenario.specs.Links.{leads}
use Rattle.scenario.specs.Fields.{fields, decode, tagged, written}
use Rattle.scenario.specs.Sheet.{lookup, env, all, flat, is_line, matching, count, total, choices, choose, chosen, antiscenario}
use Rattle.scenario.specs.Log.{in_set, has_at, tick, sure, near_at}
use Rattle.row.specs.declared.Line.{Line}
use Rattle.row.specs.Row.{six, line_of, row_in}
use Rattle.rules.specs.Rules.{refusal, section_fits, refusal_within, origin_fits, kind_fits, p_fits, is_due, ordinary, known, q_fits, known_but, ordinary_but, both_ordinary, rest_fits, set_only, both_zero, room_fits, enter, advance}
use Rattle.sheet.specs.Reading.{answer, taken, closing, head_of, rows_from, row_bytes, after, sheet_of, section, sections}
use Rattle.sheet.specs.Text.{sheet_text, head_text, rows_text, row_text, numbers_of}
use Rattle.runlog.specs.Log.{answer as log-answer, taken as log-taken, closing as log-closing, head_of as log-head, lines_from, line_bytes, line_of as log-line, log_of}
use Rattle.antiscenario.specs.Judge.{Judged}
use Rattle.denial.specs.Build.{line_from}
use Rattle.antiscenario.specs.Write.{written_lines, written_text}
use Rattle.antiscenario.specs.Judge.{refusal_of, judge_of}

-- Sheets

-- sheet S of document 01
abbrev S : List ℕ
S = sheet_text 1 (six 0 1 1 0 8 0 ∷ six 1 3 11 1 4 0 ∷ six 1 10 11 1 0 500 ∷ six 1 9 11 1 2 0 ∷ [])

-- "Number 3 is": its bytes, line by line
abbrev S_three : List ℕ
S_three =
    32 ∷ 32 ∷ 49 ∷ 32 ∷ 32 ∷ 53 ∷ 10
    ∷ 32 ∷ 32 ∷ 48 ∷ 32 ∷ 32 ∷ 49 ∷ 32 ∷ 32 ∷ 49 ∷ 32 ∷ 32 ∷ 48 ∷ 32 ∷ 32 ∷ 32 ∷ 32 ∷ 32 ∷ 32 ∷ 32 ∷ 32 ∷ 32 ∷ 32 ∷ 56 ∷ 32 ∷ 32 ∷ 32 ∷ 32 ∷ 32 ∷ 32 ∷ 32 ∷ 32 ∷ 32 ∷ 32 ∷ 48 ∷ 10
    ∷ 32 ∷ 32 ∷ 49 ∷ 32 ∷ 32 ∷ 51 ∷ 32 ∷ 49 ∷ 49 ∷ 32 ∷ 32 ∷ 49 ∷ 32 ∷ 32 ∷ 32 ∷ 32 ∷ 32 ∷ 32 ∷ 32 ∷ 32 ∷ 32 ∷ 32 ∷ 52 ∷ 32 ∷ 32 ∷ 32 ∷ 32 ∷ 32 ∷ 32 ∷ 32 ∷ 32 ∷ 32 ∷ 32 ∷ 48 ∷ 10
    ∷ 32 ∷ 32 ∷ 49 ∷ 32 ∷ 32 ∷ 49 ∷ 32 ∷ 49 ∷ 57 ∷ 32 ∷ 32 ∷ 48 ∷ 32 ∷ 32 ∷ 32 ∷ 32 ∷ 32 ∷ 32 ∷ 32 ∷ 32 ∷ 32 ∷ 32 ∷ 50 ∷ 32 ∷ 32 ∷ 32 ∷ 32 ∷ 32 ∷ 32 ∷ 32 ∷ 32 ∷ 32 ∷ 32 ∷ 48 ∷ 10
    ∷ 32 ∷ 32 ∷ 49 ∷ 32 ∷ 32 ∷ 54 ∷ 32 ∷ 49 ∷ 49 ∷ 32 ∷ 49 ∷ 57 ∷ 32 ∷ 32 ∷ 32 ∷ 32 ∷ 32 ∷ 32 ∷ 32 ∷ 32 ∷ 32 ∷ 32 ∷ 48 ∷ 32 ∷ 32 ∷ 32 ∷ 32 ∷ 32 ∷ 32 ∷ 32 ∷ 32 ∷ 32 ∷ 32 ∷ 48 ∷ 10
    ∷ 32 ∷ 32 ∷ 49 ∷ 32 ∷ 32 ∷ 54 ∷ 32 ∷ 49 ∷ 57 ∷ 32 ∷ 32 ∷ 49 ∷ 32 ∷ 32 ∷ 32 ∷ 32 ∷ 32 ∷ 32 ∷ 32 ∷ 32 ∷ 32 ∷ 32 ∷ 48 ∷ 32 ∷ 32 ∷ 32 ∷ 32 ∷ 32 ∷ 32 ∷ 32 ∷ 32 ∷ 32 ∷ 32 ∷ 48 ∷ 10
    ∷ []

-- an antecedent alone
abbrev alone : List Line
alone = six 0 1 1 0 8 0 ∷ six 0 12 1 0 0 0 ∷ []

-- "Points 1 and 2 both with set 8, consequent BEFORE 1 2"
abbrev two_before : List ℕ
two_before = sheet_text 1 (six 0 1 1 0 8 0 ∷ six 0 1 2 0 8 0 ∷ six 1 6 1 2 0 0 ∷ [])

-- two consequents, of three denials and of two: the last one's choice moves fastest, and a denial brings what its points need in turn
abbrev mixed : List ℕ
mixed =
    sheet_text 2
    (six 0 1 1 0 8 0 ∷ six 1 2 11 1 4 0 ∷ six 1 3 12 1 2 0 ∷ six 1 5 13 11 12 0 ∷ six 1 12 13 0 4 0 ∷ six 2 9 1 99 2 0 ∷ six 2 12 1 0 8 0 ∷ [])

-- document 02, A1: events 33, 32, 40 and 63 of a newer board, in each kind that has a set; EVENT with all of the lower half, and with none
abbrev board : List ℕ
board =
    sheet_text 1
    (six 0 1 1 0 0 2 ∷ six 1 3 11 1 0 1 ∷ six 1 9 11 1 0 256 ∷ six 1 2 12 1 8 2147483648 ∷ six 1 12 12 0 1 2147483648 ∷ six 1 12 1 0 4294967295 0 ∷ six 1 12 1 0 0 0 ∷ [])

-- A8: points 1 and 2 in order; NEXT's point is before 2, LAST's after 1; and the same with no order between 1 and 2
abbrev in_between : (order : List Line) → List ℕ
in_between order = sheet_text 1 ((six 0 1 1 0 2 0 ∷ six 0 1 2 0 2 0 ∷ order) ++ (six 1 2 11 1 8 4 ∷ six 1 6 11 2 0 0 ∷ six 1 3 12 2 16 0 ∷ six 1 6 1 12 0 0 ∷ []))

-- Writing

-- a sheet's bytes, a number m, and the bytes that are written
pub record Case : Type 0 where
  pub sheet : List ℕ
  pub number : ℕ
  pub text : List ℕ

abbrev case : (sheet : List ℕ) (number : ℕ) (text : List ℕ) → Case
case sheet number text = record { sheet = sheet; number = number; text = text }

abbrev table : List Case
table =
    case S 1 (sheet_text 1 (six 0 1 1 0 8 0 ∷ six 1 9 0 1 4 0 ∷ []))
    ∷ case S 2 (sheet_text 1 (six 0 1 1 0 8 0 ∷ six 1 3 11 1 4 0 ∷ six 1 11 11 1 0 500 ∷ []))
    ∷ case S 3 S_three
    ∷ case S 4 (sheet_text 1 (six 0 1 1 0 8 0 ∷ six 1 3 11 1 4 0 ∷ six 1 1 19 0 2 0 ∷ six 1 6 1 19 0 0 ∷ six 1 6 19 11 0 0 ∷ []))
    -- k = 0: the antecedent, under k 0
    ∷ case (sheet_text 0 alone) 1 (sheet_text 0 alone)
    ∷ case (sheet_text 0 []) 1 (32 ∷ 32 ∷ 48 ∷ 32 ∷ 32 ∷ 48 ∷ 10 ∷ [])
    -- BEFORE by the reverse, then by SAME
    ∷ case two_before 1 (sheet_text 1 (six 0 1 1 0 8 0 ∷ six 0 1 2 0 8 0 ∷ six 1 6 2 1 0 0 ∷ []))
    ∷ case two_before 2 (sheet_text 1 (six 0 1 1 0 8 0 ∷ six 0 1 2 0 8 0 ∷ six 1 8 1 2 0 0 ∷ []))
    ∷ case mixed 2 (sheet_text 2 (six 0 1 1 0 8 0 ∷ six 1 9 1 99 4 0 ∷ six 2 12 1 0 4294967287 4294967295 ∷ []))
    ∷ case mixed 5 (sheet_text 2 (six 0 1 1 0 8 0 ∷ six 1 2 11 1 4 0 ∷ six 1 3 12 1 2 0 ∷ six 1 5 13 11 12 0 ∷ six 1 12 13 0 4294967291 4294967295 ∷ six 2 1 29 0 2 0 ∷ six 2 6 1 29 0 0 ∷ []))
    ∷ case mixed 6 (sheet_text 2 (six 0 1 1 0 8 0 ∷ six 1 2 11 1 4 0 ∷ six 1 3 12 1 2 0 ∷ six 1 5 13 11 12 0 ∷ six 1 12 13 0 4294967291 4294967295 ∷ six 2 12 1 0 4294967287 4294967295 ∷ []))
    -- A1: denials carry both halves, and EVENT is denied by taking both from 4,294,967,295
    ∷ case board 1 (sheet_text 1 (six 0 1 1 0 0 2 ∷ six 1 9 0 1 0 1 ∷ []))
    ∷ case board 2 (sheet_text 1 (six 0 1 1 0 0 2 ∷ six 1 3 11 1 0 1 ∷ six 1 1 19 0 0 256 ∷ six 1 6 11 19 0 0 ∷ six 1 6 19 1 0 0 ∷ []))
    ∷ case board 4 (sheet_text 1 (six 0 1 1 0 0 2 ∷ six 1 9 1 99 8 2147483648 ∷ []))
    ∷ case board 5 (sheet_text 1 (six 0 1 1 0 0 2 ∷ six 1 2 12 1 8 2147483648 ∷ six 1 12 12 0 4294967294 2147483647 ∷ []))
    ∷ case board 6 (sheet_text 1 (six 0 1 1 0 0 2 ∷ six 1 12 1 0 0 4294967295 ∷ []))
    ∷ case board 7 (sheet_text 1 (six 0 1 1 0 0 2 ∷ six 1 12 1 0 4294967295 4294967295 ∷ []))
    -- A8: FREE q z a in place of FREE q 99 a, and FREE z q a; without the antecedent's order the long denials stay
    ∷ case (in_between (six 0 6 1 2 0 0 ∷ [])) 1 (sheet_text 1 (six 0 1 1 0 2 0 ∷ six 0 1 2 0 2 0 ∷ six 0 6 1 2 0 0 ∷ six 1 9 1 2 8 4 ∷ []))
    ∷ case (in_between (six 0 6 1 2 0 0 ∷ [])) 4 (sheet_text 1 (six 0 1 1 0 2 0 ∷ six 0 1 2 0 2 0 ∷ six 0 6 1 2 0 0 ∷ six 1 9 1 2 16 0 ∷ []))
    ∷ case (in_between []) 1 (sheet_text 1 (six 0 1 1 0 2 0 ∷ six 0 1 2 0 2 0 ∷ six 1 9 1 99 8 4 ∷ []))
    ∷ case (in_between []) 4 (sheet_text 1 (six 0 1 1 0 2 0 ∷ six 0 1 2 0 2 0 ∷ six 1 9 0 2 16 0 ∷ []))
    ∷ []

pub written-examples : map (λ (c : Case). written_text c.sheet c.number) table ≡ map (λ (c : Case). c.text) table
unfolding complement set_of lower_half upper_half written_text written_lines line_from numbers_of written tagged fields chosen choose count total choices denials denying_rows denying_free end gather ascends leads may_end first_or points far_end closure brings elem decode
    sheet_text head_text rows_text row_text spell left left_byte last_byte field_at numeral scan
    answer taken closing head_of rows_from row_bytes after sheet_of section sections row_in
    line_of refusal section_fits refusal_within origin_fits kind_fits p_fits is_due ordinary known q_fits known_but ordinary_but both_ordinary rest_fits set_only both_zero room_fits enter advance
written-examples = refl

-- Judging

-- a log's bytes: its close tick and its lines
pub record Entry : Type 0 where
  pub tick : ℕ
  pub event : ℕ

abbrev entry : (tick event : ℕ) → Entry
entry tick event = record { tick = tick; event = event }

abbrev entries_text : List Entry → List ℕ
entries_text [] = []
entries_text (e ∷ es) = spell 11 e.tick ++ (spell 3 e.event ++ (10 ∷ entries_text es))

abbrev log_text : (close : ℕ) → List Entry → List ℕ
log_text close es = spell 5 (length es) ++ (spell 11 0 ++ (spell 11 close ++ (10 ∷ entries_text es)))

-- "Lines (tick, event) 100 2, 300 3, 900 3"; "100 2, 200 1, 300 3"; one scan
abbrev late : List ℕ
late = log_text 900 (entry 100 2 ∷ entry 300 3 ∷ entry 900 3 ∷ [])

abbrev injected : List ℕ
injected = log_text 300 (entry 100 2 ∷ entry 200 1 ∷ entry 300 3 ∷ [])

abbrev scan_alone : List ℕ
scan_alone = log_text 10 (entry 10 3 ∷ [])

-- a sheet, a log, m, a table with its number, and what is judged: the refusal or 0, and whether it is a matching
pub record Judging : Type 0 where
  pub sheet : List ℕ
  pub log : List ℕ
  pub number : ℕ
  pub positions : List ℕ
  pub filled : ℕ
  pub judged : Judged

abbrev judging : (sheet log : List ℕ) (number : ℕ) (positions : List ℕ) (filled refusal : ℕ) (met : Bool) → Judging
judging sheet log number positions filled refusal met =
    record { sheet = sheet; log = log; number = number; positions = positions; filled = filled; judged = record { refusal = refusal; met = met } }

abbrev judgings : List Judging
judgings =
    -- the matchings that document 01 names, and their neighbours
    judging S late 2 (3 ∷ 1 ∷ []) 2 0 true
    ∷ judging S late 2 (2 ∷ 1 ∷ []) 2 0 false
    ∷ judging S injected 3 (3 ∷ 1 ∷ 2 ∷ []) 3 0 true
    ∷ judging S injected 3 (3 ∷ 1 ∷ 1 ∷ []) 3 0 false
    ∷ judging two_before scan_alone 1 (1 ∷ 1 ∷ []) 2 0 false
    ∷ judging two_before scan_alone 2 (1 ∷ 1 ∷ []) 2 0 true
    -- positions 0 and n + 1 are a no
    ∷ judging (sheet_text 0 (six 0 1 1 0 8 0 ∷ [])) scan_alone 1 (1 ∷ []) 1 0 true
    ∷ judging (sheet_text 0 (six 0 1 1 0 8 0 ∷ [])) scan_alone 1 (0 ∷ []) 1 0 false
    ∷ judging (sheet_text 0 (six 0 1 1 0 8 0 ∷ [])) scan_alone 1 (2 ∷ []) 1 0 false
    -- A1: event 33 is not the event 0 that the sheet asks for, and EVENT's denial sees it; NEXT's denial does not see event 3 alone
    ∷ judging (sheet_text 1 (six 0 1 1 0 0 2 ∷ six 1 12 1 0 1 0 ∷ [])) (log_text 10 (entry 10 33 ∷ [])) 1 (1 ∷ []) 1 0 true
    ∷ judging board (log_text 10 (entry 10 33 ∷ entry 10 32 ∷ [])) 4 (1 ∷ []) 1 0 true
    ∷ judging board (log_text 10 (entry 10 33 ∷ entry 10 63 ∷ [])) 4 (1 ∷ []) 1 0 false
    -- entries past the number play no part; no points: the rows speak of start and close alone
    ∷ judging S late 2 (3 ∷ 1 ∷ 0 ∷ 77 ∷ []) 2 0 true
    ∷ judging (sheet_text 0 []) (log_text 0 []) 1 (9 ∷ []) 0 0 true
    ∷ judging (sheet_text 0 (six 0 10 0 99 1 5 ∷ [])) (log_text 6 []) 1 [] 0 0 false
    -- A9: the close is 6 after the start, which is surely at most 7 and surely at least 5, and at neither limit 6
    ∷ judging (sheet_text 0 (six 0 10 0 99 5 7 ∷ [])) (log_text 6 []) 1 [] 0 0 true
    ∷ judging (sheet_text 0 (six 0 10 0 99 5 6 ∷ [])) (log_text 6 []) 1 [] 0 0 false
    ∷ judging (sheet_text 0 (six 0 10 0 99 6 7 ∷ [])) (log_text 6 []) 1 [] 0 0 false
    ∷ judging (sheet_text 0 (six 0 11 0 99 6 7 ∷ [])) (log_text 6 []) 1 [] 0 0 true
    -- 34, 31, the log's refusals and the sheet's, in the order of the document
    ∷ judging S late 2 (3 ∷ 1 ∷ []) 1 34 false
    ∷ judging S late 2 (3 ∷ 1 ∷ 1 ∷ []) 3 34 false
    ∷ judging S late 0 [] 0 31 false
    ∷ judging S late 5 (3 ∷ []) 1 31 false
    ∷ judging S (log_text 10 (entry 10 64 ∷ [])) 5 [] 0 25 false
    ∷ judging (sheet_text 7 []) (log_text 10 (entry 10 64 ∷ [])) 5 [] 0 2 false
    ∷ []

pub judged_examples : map (λ (c : Judging). judge_of c.sheet c.log c.number c.positions c.filled) judgings ≡ map (λ (c : Judging). c.judged) judgings
unfolding set_of lower_half upper_half complement judge_of refusal_of antiscenario flat chosen choose count total choices denials denying_rows denying_free end gather ascends leads may_end first_or points far_end closure brings elem decode
    matching all is_line meets env lookup clear below between in_set has_at tick sure near_at
    sheet_text head_text rows_text row_text spell left left_byte last_byte field_at numeral scan
    answer taken closing head_of rows_from row_bytes after sheet_of section sections row_in
    line_of refusal section_fits refusal_within origin_fits kind_fits p_fits is_due ordinary known q_fits known_but ordinary_but both_ordinary rest_fits set_only both_zero room_fits enter advance
    log-answer log-taken log-closing log-head lines_from line_bytes log-line log_of
judged_examples = refl
