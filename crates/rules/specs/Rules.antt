-- The rules of one row: refusals 5 to 10, in the order of document 01. What must be believed.
-- Assumes nothing.
use Rattle.std.specs.Prelude.{Bool, true, not, ◌&&◌, ◌||◌, cond, ℕ, ◌+◌, ◌*◌, ltb, leb, eqb}
use Rattle.rules.specs.Numbers.{most_antecedent_rows, most_consequent_rows, wrong_section, wrong_kind, wrong_p, wrong_q, wrong_field, section_too_long}
use Rattle.scenario.specs.Rows.{close_point}
use Rattle.row.specs.declared.Line.{Line}
use Rattle.rules.specs.declared.Stand.{Stand}

-- Where a reading stands: the preceding row's section, how many rows that section has so far, how many points the antecedent has introduced, and
-- how many that section has if it is a consequent.
abbrev pub stand : (section rows antecedent own : ℕ) → Stand
stand section rows antecedent own = record { section = section; rows = rows; antecedent = antecedent; own = own }

abbrev pub start : Stand
start = stand 0 0 0 0

-- as a row of section s finds it: a new section has no rows and no points
unfoldable pub enter : Stand → ℕ → Stand
enter at s = cond (eqb at.section s) at (stand s 0 at.antecedent 0)

-- after a row of this kind: 1 introduces a point of the antecedent, 2 to 5 one of the consequent
unfoldable pub advance : Stand → ℕ → Stand
advance at kind =
    cond (eqb kind 1) (stand at.section (at.rows + 1) (at.antecedent + 1) at.own)
    (cond (leb 2 kind && leb kind 5) (stand at.section (at.rows + 1) at.antecedent (at.own + 1))
    (stand at.section (at.rows + 1) at.antecedent at.own))

-- "A row may use points introduced in earlier rows of its own section or of the antecedent": 1 to antecedent, and 10s + 1 to 10s + own
unfoldable pub ordinary : (s antecedent own m : ℕ) → Bool
ordinary s antecedent own m = (leb 1 m && leb m antecedent) || (ltb (10 * s) m && leb m (10 * s + own))

-- "0 is the start and 99 the close, always known"
unfoldable pub known : (s antecedent own m : ℕ) → Bool
known s antecedent own m = eqb m 0 || (eqb m close_point || ordinary s antecedent own m)

-- 5 "section above k or below the preceding row's"
unfoldable pub section_fits : (k preceding s : ℕ) → Bool
section_fits k preceding s = leb preceding s && leb s k

-- 6 "kind unknown or not for this section": "1 POINT, antecedent only", "2 NEXT, consequents only (as 3, 4, 5)", 6 to 12 in both
unfoldable pub kind_fits : (s kind : ℕ) → Bool
kind_fits s kind =
    cond (eqb kind 1) (eqb s 0)
    (cond (leb kind 5) (leb 2 kind && ltb 0 s)
    (leb kind 12))

-- the number due after first and count more; "none is due past a section's last", which is first + last
unfoldable pub is_due : (first last count p : ℕ) → Bool
is_due first last count p = ltb count last && eqb p (first + count + 1)

-- 7 "p not the number due (kinds 1 to 5) or not a permitted known point": 1 up to 4, 2 to 5 up to 10s + 8; 6 to 8 and 12 ordinary; "in kinds 9 to 11 either
-- may be 0 or 99"
unfoldable pub p_fits : (kind s antecedent own p : ℕ) → Bool
p_fits kind s antecedent own p =
    cond (eqb kind 1) (is_due 0 4 antecedent p)
    (cond (leb kind 5) (is_due (10 * s) 8 own p)
    (cond (leb kind 8) (ordinary s antecedent own p)
    (cond (leb kind 11) (known s antecedent own p)
    (ordinary s antecedent own p))))

-- a known point, or an ordinary one, that is not the other: "Pairs are of two different points"
unfoldable pub known_but : (s antecedent own q other : ℕ) → Bool
known_but s antecedent own q other = not (eqb q other) && known s antecedent own q

unfoldable pub ordinary_but : (s antecedent own q other : ℕ) → Bool
ordinary_but s antecedent own q other = not (eqb q other) && ordinary s antecedent own q

-- "Both points ordinary and different."
unfoldable pub both_ordinary : (s antecedent own q other : ℕ) → Bool
both_ordinary s antecedent own q other = ordinary_but s antecedent own q other && ordinary s antecedent own other

-- the points that p's position comes from: NEXT "q is not 99", LAST "q is not 0", EARLIER and LATER q "and point number a"
unfoldable pub origin_fits : (kind s antecedent own q a : ℕ) → Bool
origin_fits kind s antecedent own q a =
    cond (eqb kind 2) (known_but s antecedent own q close_point)
    (cond (eqb kind 3) (known_but s antecedent own q 0)
    (both_ordinary s antecedent own q a))

-- 8 "q, or a in kinds 4 and 5, not a permitted known point or not different"; 1 and 12 have no q, so that theirs is 9's
unfoldable pub q_fits : (kind s antecedent own p q a : ℕ) → Bool
q_fits kind s antecedent own p q a =
    cond (leb kind 1) true
    (cond (leb kind 5) (origin_fits kind s antecedent own q a)
    (cond (leb kind 8) (ordinary_but s antecedent own q p)
    (cond (leb kind 11) (known_but s antecedent own q p)
    true)))

unfoldable pub both_zero : (a b : ℕ) → Bool
both_zero a b = eqb a 0 && eqb b 0

-- "Sets are non-empty", and q is 0. Document 02, A1: the set "is empty when both are 0".
unfoldable pub set_only : (q a b : ℕ) → Bool
set_only q a b = eqb q 0 && not (both_zero a b)

-- 9 "an unused field not 0, an empty set, or a above b in kinds 10 and 11": 1 and 12 use no q, 4 and 5 no b, 6 to 8 neither a nor b; sets are those of 1, 2, 3, 9,
-- and of 12, which alone may be empty. A1: "Refusal 9 no longer wants b to be 0 in these kinds."
unfoldable pub rest_fits : (kind q a b : ℕ) → Bool
rest_fits kind q a b =
    cond (eqb kind 1) (set_only q a b)
    (cond (leb kind 3) (set_only 0 a b)
    (cond (leb kind 5) (eqb b 0)
    (cond (leb kind 8) (both_zero a b)
    (cond (eqb kind 9) (set_only 0 a b)
    (cond (leb kind 11) (leb a b)
    (eqb q 0))))))

-- 10 "section too long": "Section 0 is the antecedent (at most 32 rows), sections 1 to k the consequents (at most 24 rows each)"; rows stand before this one
unfoldable pub room_fits : (s rows : ℕ) → Bool
room_fits s rows = cond (eqb s 0) (ltb rows most_antecedent_rows) (ltb rows most_consequent_rows)

-- what comes next, or the refusal where the test fails
abbrev pub unless : Bool → (refusal next : ℕ) → ℕ
unless ok refusal next = cond ok next refusal

-- the row's refusal from 6 on, or 0, within its section: `here` is where the reading stands in it
unfoldable pub refusal_within : (here : Stand) → Line → ℕ
refusal_within here l =
    unless (kind_fits l.section l.kind) wrong_kind
    (unless (p_fits l.kind l.section here.antecedent here.own l.p) wrong_p
    (unless (q_fits l.kind l.section here.antecedent here.own l.p l.q l.a) wrong_q
    (unless (rest_fits l.kind l.q l.a l.b) wrong_field
    (unless (room_fits l.section here.rows) section_too_long 0))))

-- the row's refusal, 5 to 10, or 0
unfoldable pub refusal : (k : ℕ) (at : Stand) → Line → ℕ
refusal k at l = unless (section_fits k at.section l.section) wrong_section (refusal_within (enter at l.section) l)
