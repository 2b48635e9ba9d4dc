-- Document 01's examples that need no bytes, with what document 02 changes, as one table, computed by the definitions.
-- Assumes nothing.
use mathlib.Core.Path.{◌≡◌, refl}
use mathlib.Core.Bool.{Bool, true, false, ◌&&◌}
use mathlib.Core.List.{List, [], ◌∷◌, ◌++◌, map}
use Prim.Native.Nat.{ℕ}
use native.Mathlib.Omega.{arith}
use lib.ListN.{length, get_or}
use lib.Dec.{eqb}
use Rattle.scenario.specs.Rows.{Row, Run, point, next, last, earlier, before, same, free, within, event, set_of, lower_half, upper_half, complement, between, below, clear, meets, points, elem, brings, closure, end, denying_free, gather, ascends, may_end, first_or, far_end, denying_rows, denials}
use Rattle.scenario.specs.Links.{leads}
use Rattle.scenario.specs.Sheet.{Sheet, lookup, env, all, flat, is_line, matching, choices, total, choose, count, chosen, antiscenario, Answer, nothing, found, Demand}
use Rattle.scenario.specs.Log.{Log, in_set, has_at, tick, sure, near_at, run_of}
use Rattle.scenario.specs.Walk.{placing, lowest_above, highest_below, advance, walk}
use Rattle.scenario.specs.Search.{sweep, least, smallest_matching, is_violating, check, faults}
use Rattle.scenario.specs.Fields.{fields, Tagged, tagged, written}
use Rattle.scenario.specs.Reading.{LogRead, SheetRead, antecedent, own}
use Rattle.scenario.proofs.Final.{demand-three}

-- Sheets and logs. Events: 1 injection, 2 correction, 3 scan.

S : Sheet
S = record { antecedent = point 1 8 ∷ []; consequents = (last 11 1 4 ∷ within 11 1 0 500 ∷ free 11 1 2 ∷ []) ∷ [] }

-- k = 0, no rows; and k = 1, that consequent empty
no_rows : Sheet
no_rows = record { antecedent = []; consequents = [] }

empty_consequent : Sheet
empty_consequent = record { antecedent = []; consequents = [] ∷ [] }

-- points 1 and 2 both with set 8, consequent BEFORE 1 2
two_scans : Sheet
two_scans = record { antecedent = point 1 8 ∷ point 2 8 ∷ []; consequents = (before 1 2 ∷ []) ∷ [] }

-- six consequents, five of four denials
four-denials : List Row
four-denials = before 1 2 ∷ before 2 1 ∷ []

five-denials : List Row
five-denials = same 1 2 ∷ four-denials

six : (consequent : List Row) → Sheet
six c = record { antecedent = point 1 8 ∷ point 2 8 ∷ []; consequents = four-denials ∷ four-denials ∷ four-denials ∷ four-denials ∷ four-denials ∷ c ∷ [] }

-- a consequent whose EVENT rows use 12, which needs nothing of the section, and 13, which needs 11 and 12
chained : Sheet
chained = record {
  antecedent = point 1 8 ∷ [];
  consequents = (next 11 1 4 ∷ next 12 1 2 ∷ earlier 13 11 12 ∷ next 14 1 1 ∷ event 12 4 ∷ event 13 4 ∷ []) ∷ [];
}

-- A1: event 33 of a newer board, which has not event 0; and a rule with the upper half in each kind that has a set: events 32, 33, 40 and 63
upper-event : Sheet
upper-event = record { antecedent = point 1 8589934592 ∷ []; consequents = (event 1 1 ∷ []) ∷ [] }

newer_board : Sheet
newer_board = record {
  antecedent = point 1 8589934592 ∷ [];
  consequents = (last 11 1 4294967296 ∷ free 11 1 1099511627776 ∷ next 12 1 9223372036854775808 ∷ event 12 9223372036854775809 ∷ []) ∷ [];
}

-- two consequents of two denials
two-by-two : Sheet
two-by-two = record { antecedent = point 1 8 ∷ point 2 8 ∷ []; consequents = (before 1 2 ∷ []) ∷ (before 2 1 ∷ []) ∷ [] }

-- A8: points 1 to n of the antecedent with further rows, and a consequent. A NEXT row's p is before 2, with and without the antecedent's BEFORE 1 2, and with the
-- consequent's own order of 1 and 2; LAST the other way round.
injections : (n : ℕ) (order consequent : List Row) → Sheet
injections n order consequent = record { antecedent = get_or ([] ∷ (point 1 2 ∷ []) ∷ (point 1 2 ∷ point 2 2 ∷ []) ∷ (point 1 2 ∷ point 2 2 ∷ point 3 2 ∷ []) ∷ []) n [] ++ order; consequents = consequent ∷ [] }

next-before : (order : List Row) → Sheet
next-before order = injections 2 order (next 11 1 2 ∷ before 11 2 ∷ [])

last-after : (order : List Row) → Sheet
last-after order = injections 2 order (last 11 2 2 ∷ before 1 11 ∷ [])

order-of_consequent : Sheet
order-of_consequent = injections 2 [] (next 11 1 2 ∷ before 1 11 ∷ before 11 2 ∷ before 1 2 ∷ [])

-- q is 0, q is 99: no order is wanted
from_start : Sheet
from_start = injections 1 [] (next 11 0 2 ∷ before 11 1 ∷ [])

to-close : Sheet
to-close = injections 1 [] (last 11 99 2 ∷ before 1 11 ∷ [])

-- BEFORE rows lead to 1, 2 and 3, of which 3 alone is the antecedent's after 2; of 1 and 3, both after 2, the lowest; to q alone
third-alone : Sheet
third-alone = injections 3 (before 2 3 ∷ []) (next 11 2 2 ∷ before 11 1 ∷ before 11 2 ∷ before 11 3 ∷ [])

first-and-third : Sheet
first-and-third = injections 3 (before 2 3 ∷ before 2 1 ∷ []) (next 11 2 2 ∷ before 11 3 ∷ before 11 1 ∷ [])

to-q : Sheet
to-q = injections 2 (before 2 1 ∷ []) (next 11 2 2 ∷ before 11 2 ∷ [])

-- in steps, through 12 and through q, in a circle, the rows of both sections in no order
in_steps : Sheet
in_steps = injections 3 (before 1 3 ∷ before 2 1 ∷ []) (next 11 2 2 ∷ next 12 2 2 ∷ before 2 3 ∷ before 12 2 ∷ before 11 12 ∷ before 12 11 ∷ [])

-- to 3 by rows of both sections only, from p and from q; q is the consequent's own
by_both : Sheet
by_both = injections 3 (before 1 3 ∷ before 2 3 ∷ []) (next 11 1 2 ∷ before 11 2 ∷ [])

by_both_from_q : Sheet
by_both_from_q = injections 3 (before 1 2 ∷ []) (next 11 1 2 ∷ before 11 3 ∷ before 2 3 ∷ [])

own-q : Sheet
own-q = injections 2 (before 1 2 ∷ []) (next 11 1 4 ∷ next 12 11 2 ∷ before 11 2 ∷ before 12 2 ∷ [])

-- a log that starts at 0 and closes at a given tick
log : (close : ℕ) (ticks events : List ℕ) → Log
log c ts es = record { start = 0; close = c; ticks = ts; events = es }

three-lines : (tick : ℕ) → Log
three-lines t = log t (100 ∷ 300 ∷ t ∷ []) (2 ∷ 3 ∷ 3 ∷ [])

one-scan : Log
one-scan = log 10 (10 ∷ []) (3 ∷ [])

one-upper : Log
one-upper = log 10 (10 ∷ []) (33 ∷ [])

board-kept : Log
board-kept = log 40 (10 ∷ 20 ∷ 30 ∷ 40 ∷ []) (40 ∷ 32 ∷ 33 ∷ 63 ∷ [])

board_broken : Log
board_broken = log 40 (10 ∷ 20 ∷ 30 ∷ 40 ∷ []) (32 ∷ 40 ∷ 33 ∷ 63 ∷ [])

no_lines : Log
no_lines = log 0 [] []

injected : Log
injected = log 300 (100 ∷ 200 ∷ 300 ∷ []) (2 ∷ 1 ∷ 3 ∷ [])

-- a scan comes at most 100, 200 or 201 after the start; and a log that starts at 1000, with a scan 200 after it
soon : (limit : ℕ) → Sheet
soon limit = record { antecedent = point 1 8 ∷ []; consequents = (within 0 1 0 limit ∷ []) ∷ [] }

late-start : Log
late-start = record { start = 1000; close = 1200; ticks = 1050 ∷ 1200 ∷ []; events = 3 ∷ 3 ∷ [] }

-- A9: two scans are surely lo to hi apart; equal ticks on two lines. The whole run surely takes lo to hi; a run without lines that takes the longest time.
scans_apart : (lo hi : ℕ) → Sheet
scans_apart lo hi = record { antecedent = point 1 8 ∷ point 2 8 ∷ []; consequents = (within 1 2 lo hi ∷ []) ∷ [] }

equal_ticks : Log
equal_ticks = log 10 (10 ∷ 10 ∷ []) (3 ∷ 3 ∷ [])

run_takes : (lo hi : ℕ) → Sheet
run_takes lo hi = record { antecedent = []; consequents = (within 0 99 lo hi ∷ []) ∷ [] }

longest : Log
longest = log 4294967295 [] []

three_injections : Log
three_injections = log 3 (1 ∷ 2 ∷ 3 ∷ []) (1 ∷ 1 ∷ 1 ∷ [])

-- What is asked, and the answer as lines of numbers

data Question : Type 0 where
  count_of : Sheet → Question
  rows_of : Sheet → (m : ℕ) → Question
  last-row_of : Sheet → (m : ℕ) → Question
  search_of_lem : Sheet → (m : ℕ) → Log → Question
  check_of_lem : Sheet → Log → Question

-- of lines, the last
last_line : List (List ℕ) → List (List ℕ)
last_line [] = []
last_line (l ∷ []) = l ∷ []
last_line (k ∷ l ∷ ls) = last_line (l ∷ ls)

-- section kind p q a b
row_line : Tagged → List ℕ
row_line t = let f = fields t.row in t.section ∷ f.kind ∷ f.p ∷ f.q ∷ f.a ∷ f.b ∷ []

-- nothing for none
search_lines : Answer → List (List ℕ)
search_lines nothing = []
search_lines (found zs) = zs ∷ []

-- 0 for holds; 1 for violated, then the positions, then the rows at fault
check-lines : Run → Sheet → Answer → List (List ℕ)
check-lines run sheet nothing = (0 ∷ []) ∷ []
check-lines run sheet (found xs) = (1 ∷ []) ∷ xs ∷ faults run sheet xs (length sheet.antecedent) sheet.consequents ∷ []

answer : Question → List (List ℕ)
answer (count_of sheet) = (count sheet ∷ []) ∷ []
answer (rows_of sheet m) = map row_line (written sheet m)
answer (last-row_of sheet m) = last_line (map row_line (written sheet m))
answer (search_of_lem sheet m g) = search_lines (smallest_matching (run_of g) (antiscenario sheet m))
answer (check_of_lem sheet g) = check-lines (run_of g) sheet (check (run_of g) sheet)

record Case : Type 0 where
  pub question : Question
  pub expected : List (List ℕ)

is : Question → List (List ℕ) → Case
is q l = record { question = q; expected = l }

cases : List Case
cases =
    is (count_of S) ((4 ∷ []) ∷ [])
    ∷ is (rows_of S 3)
    ((0 ∷ 1 ∷ 1 ∷ 0 ∷ 8 ∷ 0 ∷ [])
    ∷ (1 ∷ 3 ∷ 11 ∷ 1 ∷ 4 ∷ 0 ∷ [])
    ∷ (1 ∷ 1 ∷ 19 ∷ 0 ∷ 2 ∷ 0 ∷ [])
    ∷ (1 ∷ 6 ∷ 11 ∷ 19 ∷ 0 ∷ 0 ∷ [])
    ∷ (1 ∷ 6 ∷ 19 ∷ 1 ∷ 0 ∷ 0 ∷ [])
    ∷ [])
    ∷ is (rows_of S 4)
    ((0 ∷ 1 ∷ 1 ∷ 0 ∷ 8 ∷ 0 ∷ [])
    ∷ (1 ∷ 3 ∷ 11 ∷ 1 ∷ 4 ∷ 0 ∷ [])
    ∷ (1 ∷ 1 ∷ 19 ∷ 0 ∷ 2 ∷ 0 ∷ [])
    ∷ (1 ∷ 6 ∷ 1 ∷ 19 ∷ 0 ∷ 0 ∷ [])
    ∷ (1 ∷ 6 ∷ 19 ∷ 11 ∷ 0 ∷ 0 ∷ [])
    ∷ [])
    ∷ is (check_of_lem S (three-lines 900)) ((1 ∷ []) ∷ (3 ∷ []) ∷ (3 ∷ []) ∷ [])
    ∷ is (search_of_lem S 2 (three-lines 900)) ((3 ∷ 1 ∷ []) ∷ [])
    ∷ is (check_of_lem S (three-lines 599)) ((0 ∷ []) ∷ [])
    ∷ is (search_of_lem S 2 (three-lines 599)) []
    ∷ is (check_of_lem S (three-lines 600)) ((1 ∷ []) ∷ (3 ∷ []) ∷ (3 ∷ []) ∷ [])
    ∷ is (search_of_lem S 2 (three-lines 600)) ((3 ∷ 1 ∷ []) ∷ [])
    ∷ is (check_of_lem S (three-lines 601)) ((1 ∷ []) ∷ (3 ∷ []) ∷ (3 ∷ []) ∷ [])
    ∷ is (check_of_lem S one-scan) ((1 ∷ []) ∷ (1 ∷ []) ∷ (2 ∷ []) ∷ [])
    ∷ is (check_of_lem S injected) ((1 ∷ []) ∷ (3 ∷ []) ∷ (4 ∷ []) ∷ [])
    ∷ is (search_of_lem S 3 injected) ((3 ∷ 1 ∷ 2 ∷ []) ∷ [])
    ∷ is (check_of_lem S no_lines) ((0 ∷ []) ∷ [])
    ∷ is (count_of no_rows) ((1 ∷ []) ∷ [])
    ∷ is (check_of_lem no_rows no_lines) ((1 ∷ []) ∷ [] ∷ [] ∷ [])
    ∷ is (count_of empty_consequent) ((0 ∷ []) ∷ [])
    ∷ is (check_of_lem empty_consequent one-scan) ((0 ∷ []) ∷ [])
    ∷ is (search_of_lem two_scans 1 one-scan) []
    ∷ is (search_of_lem two_scans 2 one-scan) ((1 ∷ 1 ∷ []) ∷ [])
    ∷ is (check_of_lem two_scans one-scan) ((1 ∷ []) ∷ (1 ∷ 1 ∷ []) ∷ (3 ∷ []) ∷ [])
    ∷ is (count_of (six four-denials)) ((4096 ∷ []) ∷ [])
    ∷ is (count_of (six five-denials)) ((5120 ∷ []) ∷ [])
    ∷ is (check_of_lem (soon 100) late-start) ((1 ∷ []) ∷ (2 ∷ []) ∷ (2 ∷ []) ∷ [])
    ∷ is (search_of_lem (soon 100) 1 late-start) ((2 ∷ []) ∷ [])
    ∷ is (check_of_lem (soon 200) late-start) ((1 ∷ []) ∷ (2 ∷ []) ∷ (2 ∷ []) ∷ [])
    ∷ is (check_of_lem (soon 201) late-start) ((0 ∷ []) ∷ [])
    ∷ is (rows_of two-by-two 2)
    ((0 ∷ 1 ∷ 1 ∷ 0 ∷ 8 ∷ 0 ∷ []) ∷ (0 ∷ 1 ∷ 2 ∷ 0 ∷ 8 ∷ 0 ∷ []) ∷ (1 ∷ 6 ∷ 2 ∷ 1 ∷ 0 ∷ 0 ∷ []) ∷ (2 ∷ 8 ∷ 2 ∷ 1 ∷ 0 ∷ 0 ∷ []) ∷ [])
    ∷ is (count_of chained) ((5 ∷ []) ∷ [])
    ∷ is (rows_of chained 4) ((0 ∷ 1 ∷ 1 ∷ 0 ∷ 8 ∷ 0 ∷ []) ∷ (1 ∷ 2 ∷ 12 ∷ 1 ∷ 2 ∷ 0 ∷ []) ∷ (1 ∷ 12 ∷ 12 ∷ 0 ∷ 4294967291 ∷ 4294967295 ∷ []) ∷ [])
    ∷ is (rows_of chained 5)
    ((0 ∷ 1 ∷ 1 ∷ 0 ∷ 8 ∷ 0 ∷ [])
    ∷ (1 ∷ 2 ∷ 11 ∷ 1 ∷ 4 ∷ 0 ∷ [])
    ∷ (1 ∷ 2 ∷ 12 ∷ 1 ∷ 2 ∷ 0 ∷ [])
    ∷ (1 ∷ 4 ∷ 13 ∷ 11 ∷ 12 ∷ 0 ∷ [])
    ∷ (1 ∷ 12 ∷ 13 ∷ 0 ∷ 4294967291 ∷ 4294967295 ∷ [])
    ∷ [])
    ∷ is (rows_of upper-event 1) ((0 ∷ 1 ∷ 1 ∷ 0 ∷ 0 ∷ 2 ∷ []) ∷ (1 ∷ 12 ∷ 1 ∷ 0 ∷ 4294967294 ∷ 4294967295 ∷ []) ∷ [])
    ∷ is (check_of_lem upper-event one-upper) ((1 ∷ []) ∷ (1 ∷ []) ∷ (2 ∷ []) ∷ [])
    ∷ is (search_of_lem upper-event 1 one-upper) ((1 ∷ []) ∷ [])
    ∷ is (rows_of newer_board 1) ((0 ∷ 1 ∷ 1 ∷ 0 ∷ 0 ∷ 2 ∷ []) ∷ (1 ∷ 9 ∷ 0 ∷ 1 ∷ 0 ∷ 1 ∷ []) ∷ [])
    ∷ is (rows_of newer_board 2)
    ((0 ∷ 1 ∷ 1 ∷ 0 ∷ 0 ∷ 2 ∷ [])
    ∷ (1 ∷ 3 ∷ 11 ∷ 1 ∷ 0 ∷ 1 ∷ [])
    ∷ (1 ∷ 1 ∷ 19 ∷ 0 ∷ 0 ∷ 256 ∷ [])
    ∷ (1 ∷ 6 ∷ 11 ∷ 19 ∷ 0 ∷ 0 ∷ [])
    ∷ (1 ∷ 6 ∷ 19 ∷ 1 ∷ 0 ∷ 0 ∷ [])
    ∷ [])
    ∷ is (rows_of newer_board 4) ((0 ∷ 1 ∷ 1 ∷ 0 ∷ 0 ∷ 2 ∷ []) ∷ (1 ∷ 9 ∷ 1 ∷ 99 ∷ 0 ∷ 2147483648 ∷ []) ∷ [])
    ∷ is (rows_of newer_board 5)
    ((0 ∷ 1 ∷ 1 ∷ 0 ∷ 0 ∷ 2 ∷ []) ∷ (1 ∷ 2 ∷ 12 ∷ 1 ∷ 0 ∷ 2147483648 ∷ []) ∷ (1 ∷ 12 ∷ 12 ∷ 0 ∷ 4294967294 ∷ 2147483647 ∷ []) ∷ [])
    ∷ is (check_of_lem (scans_apart 0 0) one-scan) ((0 ∷ []) ∷ [])
    ∷ is (check_of_lem (scans_apart 0 0) equal_ticks) ((1 ∷ []) ∷ (1 ∷ 2 ∷ []) ∷ (3 ∷ []) ∷ [])
    ∷ is (search_of_lem (scans_apart 0 0) 1 equal_ticks) ((1 ∷ 2 ∷ []) ∷ [])
    ∷ is (check_of_lem (scans_apart 0 1) equal_ticks) ((0 ∷ []) ∷ [])
    ∷ is (check_of_lem (scans_apart 1 500) one-scan) ((1 ∷ []) ∷ (1 ∷ 1 ∷ []) ∷ (3 ∷ []) ∷ [])
    ∷ is (check_of_lem (run_takes 0 0) no_lines) ((1 ∷ []) ∷ [] ∷ (1 ∷ []) ∷ [])
    ∷ is (check_of_lem (run_takes 0 1) no_lines) ((0 ∷ []) ∷ [])
    ∷ is (check_of_lem (run_takes 0 4294967295) longest) ((1 ∷ []) ∷ [] ∷ (1 ∷ []) ∷ [])
    ∷ is (search_of_lem (run_takes 0 4294967295) 1 longest) ([] ∷ [])
    ∷ is (check_of_lem (run_takes 599 601) (three-lines 600)) ((0 ∷ []) ∷ [])
    ∷ is (check_of_lem (run_takes 600 602) (three-lines 600)) ((1 ∷ []) ∷ [] ∷ (1 ∷ []) ∷ [])
    ∷ is (check_of_lem newer_board board-kept) ((0 ∷ []) ∷ [])
    ∷ is (check_of_lem newer_board board_broken) ((1 ∷ []) ∷ (3 ∷ []) ∷ (3 ∷ []) ∷ [])
    ∷ is (search_of_lem newer_board 2 board_broken) ((3 ∷ 1 ∷ 2 ∷ []) ∷ [])
    ∷ is (count_of (next-before (before 1 2 ∷ []))) ((3 ∷ []) ∷ [])
    ∷ is (rows_of (next-before (before 1 2 ∷ [])) 1)
    ((0 ∷ 1 ∷ 1 ∷ 0 ∷ 2 ∷ 0 ∷ []) ∷ (0 ∷ 1 ∷ 2 ∷ 0 ∷ 2 ∷ 0 ∷ []) ∷ (0 ∷ 6 ∷ 1 ∷ 2 ∷ 0 ∷ 0 ∷ []) ∷ (1 ∷ 9 ∷ 1 ∷ 2 ∷ 2 ∷ 0 ∷ []) ∷ [])
    ∷ is (search_of_lem (next-before (before 1 2 ∷ [])) 1 three_injections) ((1 ∷ 2 ∷ []) ∷ [])
    ∷ is (check_of_lem (next-before (before 1 2 ∷ [])) three_injections) ((1 ∷ []) ∷ (1 ∷ 2 ∷ []) ∷ (5 ∷ []) ∷ [])
    ∷ is (last-row_of (next-before []) 1) ((1 ∷ 9 ∷ 1 ∷ 99 ∷ 2 ∷ 0 ∷ []) ∷ [])
    ∷ is (search_of_lem (next-before []) 1 three_injections) ((3 ∷ 1 ∷ []) ∷ [])
    ∷ is (check_of_lem (next-before []) three_injections) ((1 ∷ []) ∷ (1 ∷ 1 ∷ []) ∷ (4 ∷ []) ∷ [])
    ∷ is (last-row_of (last-after (before 1 2 ∷ [])) 1) ((1 ∷ 9 ∷ 1 ∷ 2 ∷ 2 ∷ 0 ∷ []) ∷ [])
    ∷ is (last-row_of (last-after []) 1) ((1 ∷ 9 ∷ 0 ∷ 2 ∷ 2 ∷ 0 ∷ []) ∷ [])
    ∷ is (last-row_of order-of_consequent 1) ((1 ∷ 9 ∷ 1 ∷ 99 ∷ 2 ∷ 0 ∷ []) ∷ [])
    ∷ is (last-row_of from_start 1) ((1 ∷ 9 ∷ 0 ∷ 1 ∷ 2 ∷ 0 ∷ []) ∷ [])
    ∷ is (last-row_of to-close 1) ((1 ∷ 9 ∷ 1 ∷ 99 ∷ 2 ∷ 0 ∷ []) ∷ [])
    ∷ is (last-row_of third-alone 1) ((1 ∷ 9 ∷ 2 ∷ 3 ∷ 2 ∷ 0 ∷ []) ∷ [])
    ∷ is (last-row_of first-and-third 1) ((1 ∷ 9 ∷ 2 ∷ 1 ∷ 2 ∷ 0 ∷ []) ∷ [])
    ∷ is (last-row_of to-q 1) ((1 ∷ 9 ∷ 2 ∷ 99 ∷ 2 ∷ 0 ∷ []) ∷ [])
    ∷ is (last-row_of in_steps 1) ((1 ∷ 9 ∷ 2 ∷ 3 ∷ 2 ∷ 0 ∷ []) ∷ [])
    ∷ is (last-row_of by_both 1) ((1 ∷ 9 ∷ 1 ∷ 99 ∷ 2 ∷ 0 ∷ []) ∷ [])
    ∷ is (last-row_of by_both_from_q 1) ((1 ∷ 9 ∷ 1 ∷ 99 ∷ 2 ∷ 0 ∷ []) ∷ [])
    ∷ is (rows_of own-q 2)
    ((0 ∷ 1 ∷ 1 ∷ 0 ∷ 2 ∷ 0 ∷ []) ∷ (0 ∷ 1 ∷ 2 ∷ 0 ∷ 2 ∷ 0 ∷ []) ∷ (0 ∷ 6 ∷ 1 ∷ 2 ∷ 0 ∷ 0 ∷ []) ∷ (1 ∷ 2 ∷ 11 ∷ 1 ∷ 4 ∷ 0 ∷ []) ∷ (1 ∷ 9 ∷ 11 ∷ 99 ∷ 2 ∷ 0 ∷ []) ∷ [])
    ∷ []

same_line : (xs ys : List ℕ) → Bool
same_line [] [] = true
same_line [] (y ∷ ys) = false
same_line (x ∷ xs) [] = false
same_line (x ∷ xs) (y ∷ ys) = eqb x y && same_line xs ys

same_lines : (a b : List (List ℕ)) → Bool
same_lines [] [] = true
same_lines [] (y ∷ ys) = false
same_lines (x ∷ xs) [] = false
same_lines (x ∷ xs) (y ∷ ys) = same_line x y && same_lines xs ys

passes : Case → Bool
passes c = same_lines (answer c.question) c.expected

-- Every case of the table is as document 01 says.
examples : all passes cases ≡ true
unfolding cases passes same_lines same_line is answer check-lines search_lines row_line S no_rows empty_consequent two_scans four-denials five-denials six two-by-two chained upper-event newer_board injections next-before last-after
    order-of_consequent from_start to-close third-alone first-and-third to-q in_steps by_both by_both_from_q own-q three_injections last_line
    log three-lines one-scan one-upper board-kept board_broken no_lines injected soon late-start scans_apart equal_ticks run_takes longest fields tagged written count chosen antiscenario choose flat total choices denials gather ascends leads may_end first_or far_end denying_rows denying_free end
    closure brings elem complement set_of lower_half upper_half smallest_matching check is_violating faults walk advance placing lowest_above highest_below least sweep
    matching all is_line meets env lookup points clear below between in_set has_at tick sure near_at
examples = refl

-- k = 0 and no rows: violated on every log; an empty consequent: holds on every log.
violated_without_rows : (g : Log) → check (run_of g) no_rows ≡ found []
unfolding no_rows check is_violating least matching all points env
violated_without_rows g = refl

holds_with_empty : (g : Log) → check (run_of g) empty_consequent ≡ nothing
unfolding empty_consequent check is_violating walk least matching all points env
holds_with_empty g = refl

-- S is a sheet that reading checks, so demand 3 holds of it on the logs of three lines.
S-read : SheetRead S
unfolding S points
S-read = record {
  numbers = (refl, tt);
  few = omega arith;
  uses = (tt, tt);
  consequents = (
    (
      record { valid = tt; due = ((refl, omega arith), tt); known = (antecedent (omega arith) (omega arith), tt) },
      (
        record { valid = tt; due = tt; known = (own (omega arith) (omega arith), (antecedent (omega arith) (omega arith), tt)) },
        (record { valid = tt; due = tt; known = (own (omega arith) (omega arith), (antecedent (omega arith) (omega arith), tt)) }, tt),
      ),
    ),
    tt,
  );
  count = omega arith;
}

S-demand : (t : ℕ) → Demand (run_of (three-lines t)) S (check (run_of (three-lines t)) S) (λ m. smallest_matching (run_of (three-lines t)) (antiscenario S m))
unfolding three-lines log
S-demand t = demand-three (three-lines t) (omega arith, (omega arith, (omega arith, tt))) S S-read

-- A1: "so event 32 is accepted and 64 is not".
event_32 : LogRead (log 0 (0 ∷ []) (32 ∷ []))
unfolding log
event_32 = (omega arith, tt)

event_64 : LogRead (log 0 (0 ∷ []) (64 ∷ [])) → ⊥
unfolding log
event_64 h = omega (arith, h.0)
