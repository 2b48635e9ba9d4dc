-- N as a product over rows in memory. Inner vocabulary.
-- Assumes nothing.
use Rattle.std.specs.Prelude.{◌≡◌, Bool, cond, ◌||◌, ◌&&◌, List, [], ◌∷◌, ℕ, zero, suc, ◌+◌, ◌*◌, ◌≤◌, ◌<◌, length, get_or, leb, eqb}
use Rattle.row.specs.declared.Line.{Line}
use Rattle.scenario.specs.Rows.{close_point}

-- "0 is the start and 99 the close"
unfoldable pub edge : ℕ → Bool
edge p = eqb p 0 || eqb p close_point

-- how many denials FREE p q has ("If p or q is 0 or 99 there is one denial"), and a row of each kind ("EARLIER, LATER: none. BEFORE p q: two denials")
unfoldable pub weight_free : (p q : ℕ) → ℕ
weight_free p q = cond (edge p) (cond (eqb p q) 0 1) (cond (edge q) 1 2)

unfoldable pub weight : (kind p q : ℕ) → ℕ
weight kind p q =
    cond (eqb kind 1) 0
    (cond (leb 4 kind && leb kind 5) 0
    (cond (eqb kind 6) 2
    (cond (eqb kind 9) (weight_free p q) 1)))

-- the denials of a row, where it is of section i
unfoldable pub weigh_line : ℕ → Line → ℕ
weigh_line i l = cond (eqb l.section i) (weight l.kind l.p l.q) 0

-- the denials of section i
unfoldable pub weighed : ℕ → List Line → ℕ
weighed i [] = 0
weighed i (l ∷ ls) = weigh_line i l + weighed i ls

-- how many denials the sections 0 to 6 have, by their numbers; none has more than two for each of 176 rows
pub record Weighed (denials : List ℕ) (ls : List Line) : Type 0 where
  pub long : length denials ≡ 7
  pub denials_of : (s : ℕ) → s < 7 → get_or denials s 0 ≡ weighed s ls
  pub few : (s : ℕ) → s < 7 → get_or denials s 0 ≤ 352

-- "the product of the denials per consequent", sections i, i + 1, ..
unfoldable pub product : (i left : ℕ) → List Line → ℕ
product i zero ls = 1
product i (suc left) ls = weighed i ls * product (suc i) left ls
