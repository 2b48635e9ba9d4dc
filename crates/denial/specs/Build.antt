-- Antiscenario m in memory, as the code goes: rows by their numbers, six to a row. Inner vocabulary.
-- Assumes nothing.
use Rattle.std.specs.Prelude.{cond, List, [], ◌∷◌, ◌++◌, map, ℕ, zero, suc, ◌+◌, ◌*◌, ◌-◌, ◌/◌, ◌%◌, get_or, replicate, ltb, eqb}
use Rattle.scenario.specs.Rows.{Row, denying_rows}
use Rattle.row.specs.declared.Line.{Line}
use Rattle.row.specs.Row.{six, row_in}
use Rattle.sheet.specs.Text.{numbers_of}
use Rattle.sheet.specs.Count.{edge, weigh_line, product}
use Rattle.row.specs.Memory.{line_in, lines_in}
use Rattle.order.specs.Ending.{far_in}
use Rattle.introduction.specs.Bringing.{brought, marked, uses}

-- a row's numbers, with its section
unfoldable pub line_from : ℕ → Row → Line
line_from s r = numbers_of (record { section = s; row = r })

-- the own rows of denial v of a row whose far end is given
unfoldable pub own : (far : ℕ) → Line → ℕ → List Line
own far l v = map (line_from l.section) (get_or (denying_rows far (10 * l.section + 9) (row_in l)) v [])

-- a row of BEFORE's two denials, and the row beside an end of FREE's
abbrev pub before_of : (s p q v : ℕ) → Line
before_of s p q v = cond (eqb v 0) (six s 6 q p 0 0) (six s 8 p q 0 0)

abbrev pub inside_of : (s r e p : ℕ) → Line
inside_of s r e p = cond (eqb e 0) (six s 6 r p 0 0) (six s 6 p r 0 0)

-- FREE's own rows, r being the spare point
abbrev pub free_rows : (s r p q a b v : ℕ) → List Line
free_rows s r p q a b v =
    six s 1 r 0 a b
    ∷ cond (edge p) (cond (edge q) [] (inside_of s r p q ∷ []))
    (cond (edge q) (inside_of s r q p ∷ [])
    (cond (eqb v 0) (six s 6 p r 0 0 ∷ six s 6 r q 0 0 ∷ []) (six s 6 q r 0 0 ∷ six s 6 r p 0 0 ∷ [])))

-- denial v of row i, of n rows
unfoldable pub denied : (m : List ℕ) (n i v : ℕ) → List Line
denied m n i v = brought m (line_in m i).section (marked (replicate 100 0) (uses (line_in m i))) i ++ own (far_in m n (line_in m i)) (line_in m i) v

-- denial j of section s, from row i on
unfoldable pub denial_from : (m : List ℕ) (n s i left j : ℕ) → List Line
denial_from m n s i zero j = []
denial_from m n s i (suc left) j =
    cond (ltb j (weigh_line s (line_in m i))) (denied m n i j) (denial_from m n s (suc i) left (j - weigh_line s (line_in m i)))

-- way j of choosing one denial of each of the sections s, s + 1, ..
unfoldable pub chosen_from : (m : List ℕ) (n s left j : ℕ) → List Line
chosen_from m n s zero j = []
chosen_from m n s (suc left) j =
    denial_from m n s 0 n (j / product (suc s) left (lines_in m 0 n)) ++ chosen_from m n (suc s) left (j % product (suc s) left (lines_in m 0 n))

-- the lines of section s
unfoldable pub of_section : ℕ → List Line → List Line
of_section s [] = []
of_section s (l ∷ ls) = cond (eqb l.section s) (l ∷ of_section s ls) (of_section s ls)

-- way j, from 0, with the antecedent's rows before it
unfoldable pub built : (m : List ℕ) (n k j : ℕ) → List Line
built m n k j = of_section 0 (lines_in m 0 n) ++ chosen_from m n 1 k j
