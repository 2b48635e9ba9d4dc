-- Worked examples, one table: for every refusal of document 01, and for every rule of kinds, points and fields, the nearest sheet that is accepted, with its N,
-- and the nearest that is refused, with the number and the row it is about.
-- Assumes nothing.
use mathlib.Core.Path.{◌≡◌, refl}
use mathlib.Core.Bool.{Bool, true, ◌&&◌}
use mathlib.Core.List.{List, [], ◌∷◌, ◌++◌}
use Prim.Native.Nat.{ℕ, suc}
use lib.ListN.{length, replicate, set, take}
use lib.Dec.{eqb}
use Rattle.columns.specs.Number.{field_at, numeral, scan}
use Rattle.columns.specs.Spell.{spell, left, left_byte, last_byte}
use Rattle.scenario.specs.Rows.{denials, denying_rows, denying_free, end, far_end, closure, brings, elem}
use Rattle.scenario.specs.Fields.{decode}
use Rattle.scenario.specs.Sheet.{count, total, choices}
use Rattle.row.specs.declared.Line.{Line}
use Rattle.sheet.specs.Reading.{Answer}
use Rattle.row.specs.Row.{six, line_of, row_in}
use Rattle.rules.specs.Rules.{refusal, section_fits, refusal_within, kind_fits, p_fits, is_due, ordinary, known, q_fits, origin_fits, known_but, ordinary_but, both_ordinary, rest_fits, set_only, both_zero, room_fits, enter, advance}
use Rattle.sheet.specs.Reading.{answer, taken, closing, head_of, rows_from, row_bytes, after, sheet_of, section, sections}
use Rattle.sheet.specs.Text.{sheet_text, head_text, rows_text, row_text}

-- What a case says: the accepted bytes and their N, the refused bytes, the refusal and its row (0: the first line).
pub record Case : Type 0 where
  pub accepted : List ℕ
  pub count : ℕ
  pub refused : List ℕ
  pub number : ℕ
  pub row : ℕ

abbrev bytes : (accepted : List ℕ) (count : ℕ) (refused : List ℕ) (number row : ℕ) → Case
bytes accepted count refused number row = record { accepted = accepted; count = count; refused = refused; number = number; row = row }

-- two sheets that differ in their last row
abbrev last : (k : ℕ) (before : List Line) (good : Line) (count : ℕ) (bad : Line) (number : ℕ) → Case
last k before good count bad number =
    bytes (sheet_text k (before ++ (good ∷ []))) count (sheet_text k (before ++ (bad ∷ []))) number (suc (length before))

-- two sheets that differ in one byte
abbrev byte : (k : ℕ) (rows : List Line) (count at value number row : ℕ) → Case
byte k rows count at value number row = bytes (sheet_text k rows) count (set (sheet_text k rows) at value) number row

abbrev says : Answer → (number row count : ℕ) → Bool
says a number row count = eqb a.refusal number && (eqb a.row row && eqb a.count count)

abbrev told : Case → Bool
told c = says (answer c.accepted) 0 0 c.count && says (answer c.refused) c.number c.row 0

abbrev all_told : List Case → Bool
all_told [] = true
all_told (c ∷ cs) = told c && all_told cs

-- sheet S of the document
abbrev S : List Line
S = six 0 1 1 0 8 0 ∷ six 1 3 11 1 4 0 ∷ six 1 10 11 1 0 500 ∷ six 1 9 11 1 2 0 ∷ []

-- one, two and four points in the antecedent
abbrev one : List Line
one = six 0 1 1 0 8 0 ∷ []

abbrev two : List Line
two = six 0 1 1 0 8 0 ∷ six 0 1 2 0 8 0 ∷ []

abbrev three : List Line
three = two ++ (six 0 1 3 0 8 0 ∷ [])

-- seven points in a consequent
abbrev seven : List Line
seven = one ++ (six 1 2 11 1 4 0 ∷ six 1 2 12 1 4 0 ∷ six 1 2 13 1 4 0 ∷ six 1 2 14 1 4 0 ∷ six 1 2 15 1 4 0 ∷ six 1 2 16 1 4 0 ∷ six 1 2 17 1 4 0 ∷ [])

-- a row that any section may have, FREE 0 99
abbrev whole : ℕ → Line
whole s = six s 9 0 99 1 0

-- a consequent of four denials
abbrev four : ℕ → List Line
four s = six s 6 1 2 0 0 ∷ six s 6 2 1 0 0 ∷ []

-- a consequent of six
abbrev denied_six : ℕ → List Line
denied_six s = six s 6 1 2 0 0 ∷ four s

abbrev first_line : List Case
first_line =
    -- 1: short, a field malformed, LF missing
    bytes (sheet_text 0 []) 1 (take 6 (sheet_text 0 [])) 1 0
    ∷ bytes (sheet_text 1 []) 0 [] 1 0
    ∷ byte 1 S 4 2 32 1 0
    ∷ byte 1 S 4 1 48 1 0
    ∷ byte 1 S 4 4 43 1 0
    ∷ byte 1 S 4 6 13 1 0
    -- 2: k over 6, row count over 176, before any talk of length
    ∷ bytes (sheet_text 6 []) 0 (sheet_text 7 []) 2 0
    ∷ bytes (sheet_text 1 S) 4 (head_text 1 177 ++ rows_text S) 2 0
    -- 3: a row too few or too many, a byte too few or too many
    ∷ byte 1 S 4 5 51 3 0
    ∷ byte 1 S 4 5 53 3 0
    ∷ bytes (sheet_text 1 S) 4 (head_text 1 176 ++ rows_text S) 3 0
    ∷ bytes (sheet_text 1 S) 4 (take 146 (sheet_text 1 S)) 3 0
    ∷ bytes (sheet_text 1 S) 4 (sheet_text 1 S ++ (10 ∷ [])) 3 0
    ∷ []

abbrev row_form : List Case
row_form =
    -- 4: a leading zero, a sign, no digit, a number after its column, CR for LF, a field over 4,294,967,295
    byte 1 S 4 8 48 4 1
    ∷ byte 1 S 4 50 45 4 2
    ∷ byte 1 S 4 110 32 4 3
    ∷ byte 1 S 4 128 9 4 4
    ∷ byte 1 S 4 146 13 4 4
    ∷ last 0 [] (six 0 1 1 0 4294967295 0) 1 (six 0 1 1 0 4294967296 0) 4
    ∷ last 0 one (six 0 10 0 1 0 4294967295) 1 (six 0 10 0 1 0 4294967296) 4
    -- 5: a section above k, and one below the preceding row's; sections may be skipped
    ∷ last 1 one (whole 1) 1 (whole 2) 5
    ∷ last 2 (whole 1 ∷ []) (whole 1) 0 (whole 0) 5
    ∷ last 2 (whole 2 ∷ []) (whole 2) 0 (whole 1) 5
    -- 6: kinds 1 to 12; POINT for the antecedent only, 2 to 5 for consequents only
    ∷ last 0 one (six 0 12 1 0 8 0) 1 (six 0 13 1 0 8 0) 6
    ∷ last 0 [] (six 0 1 1 0 8 0) 1 (six 0 0 1 0 8 0) 6
    ∷ last 1 [] (six 0 1 1 0 8 0) 0 (six 1 1 11 0 8 0) 6
    ∷ last 1 one (six 1 2 11 1 4 0) 1 (six 0 2 2 1 4 0) 6
    ∷ last 1 one (six 1 3 11 1 4 0) 1 (six 0 3 2 1 4 0) 6
    ∷ last 1 two (six 1 4 11 1 2 0) 0 (six 0 4 3 1 2 0) 6
    ∷ last 1 two (six 1 5 11 1 2 0) 0 (six 0 5 3 1 2 0) 6
    ∷ []

abbrev point_p : List Case
point_p =
    -- 7: the number due in kinds 1 to 5, none past a section's last
    last 0 [] (six 0 1 1 0 8 0) 1 (six 0 1 2 0 8 0) 7
    ∷ last 0 one (six 0 1 2 0 8 0) 1 (six 0 1 1 0 8 0) 7
    ∷ last 0 three (six 0 1 4 0 8 0) 1 (six 0 1 5 0 8 0) 7
    ∷ bytes (sheet_text 0 (three ++ (six 0 1 4 0 8 0 ∷ []))) 1 (sheet_text 0 (three ++ (six 0 1 4 0 8 0 ∷ six 0 1 5 0 8 0 ∷ []))) 7 5
    ∷ last 1 one (six 1 2 11 1 4 0) 1 (six 1 2 12 1 4 0) 7
    ∷ last 2 one (six 2 3 21 1 4 0) 0 (six 2 3 11 1 4 0) 7
    ∷ last 1 two (six 1 4 11 1 2 0) 0 (six 1 4 3 1 2 0) 7
    ∷ last 1 two (six 1 5 11 1 2 0) 0 (six 1 5 10 1 2 0) 7
    ∷ last 1 seven (six 1 2 18 1 4 0) 8 (six 1 2 19 1 4 0) 7
    ∷ bytes (sheet_text 1 (seven ++ (six 1 2 18 1 4 0 ∷ []))) 8 (sheet_text 1 (seven ++ (six 1 2 18 1 4 0 ∷ six 1 2 19 1 4 0 ∷ []))) 7 10
    -- an ordinary known point in kinds 6 to 8 and 12
    ∷ last 0 two (six 0 6 1 2 0 0) 1 (six 0 6 0 2 0 0) 7
    ∷ last 0 two (six 0 7 1 2 0 0) 1 (six 0 7 99 2 0 0) 7
    ∷ last 0 two (six 0 8 1 2 0 0) 1 (six 0 8 3 2 0 0) 7
    ∷ last 0 two (six 0 12 2 0 8 0) 1 (six 0 12 3 0 8 0) 7
    ∷ last 0 two (six 0 12 1 0 8 0) 1 (six 0 12 0 0 8 0) 7
    ∷ last 0 two (six 0 12 1 0 8 0) 1 (six 0 12 99 0 8 0) 7
    -- any known point in kinds 9 to 11: not one of another consequent, none before it is introduced
    ∷ last 0 one (six 0 9 1 99 8 0) 1 (six 0 9 2 99 8 0) 7
    ∷ last 2 (one ++ (six 1 2 11 1 4 0 ∷ [])) (six 2 10 1 99 0 5) 1 (six 2 10 11 99 0 5) 7
    ∷ last 1 (one ++ (six 1 2 11 1 4 0 ∷ [])) (six 1 11 11 99 0 5) 2 (six 1 11 12 99 0 5) 7
    ∷ []

abbrev point_q : List Case
point_q =
    -- 8: NEXT: q known and not 99; LAST: q known and not 0; not the point being introduced
    last 1 one (six 1 2 11 0 4 0) 1 (six 1 2 11 99 4 0) 8
    ∷ last 1 one (six 1 2 11 1 4 0) 1 (six 1 2 11 11 4 0) 8
    ∷ last 1 one (six 1 2 11 1 4 0) 1 (six 1 2 11 2 4 0) 8
    ∷ last 1 one (six 1 3 11 99 4 0) 1 (six 1 3 11 0 4 0) 8
    ∷ last 1 one (six 1 3 11 1 4 0) 1 (six 1 3 11 11 4 0) 8
    -- EARLIER and LATER: q and a ordinary and different
    ∷ last 1 two (six 1 4 11 1 2 0) 0 (six 1 4 11 1 1 0) 8
    ∷ last 1 two (six 1 4 11 1 2 0) 0 (six 1 4 11 1 0 0) 8
    ∷ last 1 two (six 1 4 11 1 2 0) 0 (six 1 4 11 1 99 0) 8
    ∷ last 1 two (six 1 4 11 1 2 0) 0 (six 1 4 11 0 2 0) 8
    ∷ last 1 two (six 1 4 11 1 2 0) 0 (six 1 4 11 99 2 0) 8
    ∷ last 1 two (six 1 4 11 1 2 0) 0 (six 1 4 11 11 2 0) 8
    ∷ last 1 two (six 1 4 11 1 2 0) 0 (six 1 4 11 1 11 0) 8
    ∷ last 1 two (six 1 5 11 2 1 0) 0 (six 1 5 11 2 2 0) 8
    ∷ last 1 two (six 1 5 11 2 1 0) 0 (six 1 5 11 2 258 0) 8
    ∷ last 1 two (six 1 5 11 2 1 0) 0 (six 1 5 11 2 4294967295 0) 8
    ∷ last 1 two (six 1 5 11 2 1 0) 0 (six 1 5 11 3 1 0) 8
    -- BEFORE, APART, SAME: q ordinary and not p
    ∷ last 0 two (six 0 6 1 2 0 0) 1 (six 0 6 1 1 0 0) 8
    ∷ last 0 two (six 0 6 1 2 0 0) 1 (six 0 6 1 99 0 0) 8
    ∷ last 0 two (six 0 7 1 2 0 0) 1 (six 0 7 1 1 0 0) 8
    ∷ last 0 two (six 0 7 1 2 0 0) 1 (six 0 7 1 0 0 0) 8
    ∷ last 0 two (six 0 8 1 2 0 0) 1 (six 0 8 1 1 0 0) 8
    ∷ last 0 two (six 0 8 1 2 0 0) 1 (six 0 8 1 3 0 0) 8
    -- FREE, WITHIN, OUTSIDE: q known and not p; 0 and 99 in either place
    ∷ last 0 [] (six 0 9 0 99 8 0) 1 (six 0 9 0 0 8 0) 8
    ∷ last 0 [] (six 0 9 99 0 8 0) 1 (six 0 9 99 99 8 0) 8
    ∷ last 0 one (six 0 10 1 0 0 5) 1 (six 0 10 1 1 0 5) 8
    ∷ last 0 one (six 0 11 1 99 0 5) 1 (six 0 11 1 2 0 5) 8
    ∷ last 2 (one ++ (six 1 2 11 1 4 0 ∷ [])) (six 2 9 1 99 8 0) 1 (six 2 9 1 11 8 0) 8
    ∷ []

abbrev fields_used : List Case
fields_used =
    -- 9: an unused field that is not 0: q of POINT and EVENT, b of 4 and 5, a and b of 6 to 8. A1: b of 1, 2, 3, 9 and 12 is the upper half of the set
    last 0 [] (six 0 1 1 0 8 1) 1 (six 0 1 1 1 8 0) 9
    ∷ last 1 two (six 1 4 11 1 2 0) 0 (six 1 4 11 1 2 1) 9
    ∷ last 1 two (six 1 5 11 1 2 0) 0 (six 1 5 11 1 2 1) 9
    ∷ last 0 two (six 0 6 1 2 0 0) 1 (six 0 6 1 2 1 0) 9
    ∷ last 0 two (six 0 6 1 2 0 0) 1 (six 0 6 1 2 0 1) 9
    ∷ last 0 two (six 0 7 1 2 0 0) 1 (six 0 7 1 2 0 1) 9
    ∷ last 0 two (six 0 8 1 2 0 0) 1 (six 0 8 1 2 1 0) 9
    ∷ last 0 two (six 0 8 1 2 0 0) 1 (six 0 8 1 2 0 1) 9
    ∷ last 0 two (six 0 12 1 0 8 1) 1 (six 0 12 1 2 8 0) 9
    ∷ last 0 two (six 0 12 1 0 0 4294967295) 1 (six 0 12 1 2 0 1) 9
    -- an empty set, which EVENT alone may have; a set in either half
    ∷ last 0 [] (six 0 1 1 0 1 0) 1 (six 0 1 1 0 0 0) 9
    ∷ last 0 [] (six 0 1 1 0 0 1) 1 (six 0 1 1 1 0 1) 9
    ∷ last 1 one (six 1 2 11 1 1 0) 1 (six 1 2 11 1 0 0) 9
    ∷ last 1 one (six 1 2 11 1 0 2147483648) 1 (six 1 2 11 1 0 0) 9
    ∷ last 1 one (six 1 3 11 1 1 0) 1 (six 1 3 11 1 0 0) 9
    ∷ last 1 one (six 1 3 11 1 0 256) 1 (six 1 3 11 1 0 0) 9
    ∷ last 0 [] (six 0 9 0 99 1 0) 1 (six 0 9 0 99 0 0) 9
    ∷ last 0 [] (six 0 9 0 99 0 1) 1 (six 0 9 0 99 0 0) 9
    ∷ last 0 one (six 0 12 1 0 0 0) 1 (six 0 9 0 1 0 0) 9
    -- a above b
    ∷ last 0 [] (six 0 10 0 99 5 5) 1 (six 0 10 0 99 6 5) 9
    ∷ last 0 [] (six 0 11 0 99 5 5) 1 (six 0 11 0 99 6 5) 9
    ∷ []

abbrev room_and_count : List Case
room_and_count =
    -- 10: 32 rows in the antecedent, 24 in a consequent; the row that is one too many, before any later one
    bytes (sheet_text 0 (replicate 32 (whole 0))) 1 (sheet_text 0 (replicate 33 (whole 0))) 10 33
    ∷ bytes (sheet_text 1 (replicate 24 (whole 1))) 24 (sheet_text 1 (replicate 25 (whole 1) ++ (six 1 0 0 0 0 0 ∷ []))) 10 25
    -- six consequents of four denials, and one of them with five (document 01's example of 11, which document 02 takes away)
    ∷ bytes (sheet_text 6 (two ++ (four 1 ++ (four 2 ++ (four 3 ++ (four 4 ++ (four 5 ++ four 6))))))) 4096 (sheet_text 7 []) 2 0
    ∷ bytes (sheet_text 6 (two ++ (four 1 ++ (four 2 ++ (four 3 ++ (four 4 ++ (four 5 ++ (four 6 ++ (whole 6 ∷ []))))))))) 5120 (sheet_text 7 []) 2 0
    -- a factor 0 makes N 0, whatever the others are
    ∷ bytes (sheet_text 6 (two ++ (denied_six 1 ++ (denied_six 2 ++ (denied_six 3 ++ (denied_six 4 ++ denied_six 5)))))) 0 (sheet_text 7 []) 2 0
    ∷ bytes (sheet_text 5 (two ++ (denied_six 1 ++ (denied_six 2 ++ (denied_six 3 ++ (denied_six 4 ++ denied_six 5)))))) 7776 (sheet_text 7 []) 2 0
    -- without consequents N is 1, with an empty one 0; FREE has two denials, one at an end
    ∷ bytes (sheet_text 0 []) 1 (sheet_text 7 []) 2 0
    ∷ bytes (sheet_text 1 []) 0 (sheet_text 7 []) 2 0
    ∷ bytes (sheet_text 1 (two ++ (six 1 9 1 2 8 0 ∷ []))) 2 (sheet_text 1 (two ++ (six 1 9 1 1 8 0 ∷ []))) 8 3
    ∷ []

-- Rows with faults one behind the other: the refusals in their order.
abbrev order_of_refusals : List Case
order_of_refusals =
    last 1 one (six 1 12 1 0 8 0) 1 (six 2 13 9 9 0 4294967296) 4
    ∷ last 1 one (six 1 12 1 0 8 0) 1 (six 2 13 9 9 0 1) 5
    ∷ last 1 one (six 1 12 1 0 8 0) 1 (six 1 13 9 9 0 1) 6
    ∷ last 1 one (six 1 2 11 1 8 0) 1 (six 1 2 9 9 0 1) 7
    ∷ last 1 one (six 1 2 11 1 8 0) 1 (six 1 2 11 9 0 1) 8
    ∷ bytes (sheet_text 1 (replicate 24 (whole 1))) 24 (sheet_text 1 (replicate 24 (whole 1) ++ (six 1 9 0 99 0 0 ∷ []))) 9 25
    ∷ []

abbrev table : List Case
table = first_line ++ (row_form ++ (point_p ++ (point_q ++ (fields_used ++ (room_and_count ++ order_of_refusals)))))

pub the_table_size : length table ≡ 112
the_table_size = refl

pub the_table : all_told table ≡ true
unfolding answer taken closing head_of field_at numeral scan sheet_text head_text rows_text row_text spell left left_byte last_byte rows_from row_bytes line_of refusal section_fits refusal_within kind_fits p_fits is_due ordinary known q_fits origin_fits known_but ordinary_but both_ordinary rest_fits set_only both_zero room_fits enter advance after sheet_of section sections row_in decode count total choices denials denying_rows denying_free end far_end closure brings elem
the_table = refl
