-- The walk over a consequent as it goes: positions in an array by point number, rows in memory, six numbers to a row. Inner vocabulary.
-- Assumes nothing.
use Rattle.std.specs.Prelude.{◌≡◌, Bool, true, false, cond, List, [], ◌∷◌, ℕ, zero, suc, ◌-◌, min, max, length, get_or, set, replicate, eqb, Option as Answer, Some, None}
use Rattle.std.proofs.Math.Option.{Option, none, some}
use Rattle.scenario.specs.Rows.{Row, point, next, last, earlier, later, before, apart, same, free, within, outside, event, Run, meets, introduced}
use Rattle.scenario.specs.Walk.{lowest_above, highest_below}
use Rattle.scenario.specs.Fields.{Tagged}
use Rattle.scenario.specs.Reading.{All}
use Rattle.pattern.specs.Placing.{by}

-- p at the position found, if there is one
abbrev pub onto_in : List ℕ → ℕ → Option ℕ → Option (List ℕ)
onto_in E p none = none
onto_in E p (some x) = some (set E p x)

-- the same as the code has it: p is moved where there is one
abbrev pub moved_to : List ℕ → ℕ → Answer ℕ → List ℕ
moved_to E p None = E
moved_to E p (Some x) = set E p x

abbrev pub stay_in : Bool → List ℕ → Option (List ℕ)
stay_in t E = cond t (some E) none

-- one row further, or it cannot be met: the scenario's advance over an array
unfoldable pub advance_in : Run → List ℕ → Row → Option (List ℕ)
advance_in run E (point p s) = none
advance_in run E (next p q s) = onto_in E p (lowest_above (run.has s) (get_or E q 0) (run.lines - get_or E q 0))
advance_in run E (last p q s) = onto_in E p (highest_below (run.has s) (get_or E q 0))
advance_in run E (earlier p q a) = some (set E p (min (get_or E q 0) (get_or E a 0)))
advance_in run E (later p q a) = some (set E p (max (get_or E q 0) (get_or E a 0)))
advance_in run E (before p q) = stay_in (meets run (by E) (before p q)) E
advance_in run E (apart p q) = stay_in (meets run (by E) (apart p q)) E
advance_in run E (same p q) = stay_in (meets run (by E) (same p q)) E
advance_in run E (free p q s) = stay_in (meets run (by E) (free p q s)) E
advance_in run E (within p q lo hi) = stay_in (meets run (by E) (within p q lo hi)) E
advance_in run E (outside p q lo hi) = stay_in (meets run (by E) (outside p q lo hi)) E
advance_in run E (event p s) = stay_in (meets run (by E) (event p s)) E

abbrev pub is_some : Option (List ℕ) → Bool
is_some none = false
is_some (some E) = true

abbrev pub or_keep : List ℕ → Option (List ℕ) → List ℕ
or_keep E none = E
or_keep E (some E') = E'

abbrev pub onward : Option (List ℕ) → ℕ → (List ℕ → ℕ) → ℕ
onward none stop go = stop
onward (some E) stop go = go E

-- The number, from 1, of the first row of section i that cannot be met, of the rows ts with j rows before them; 0: all are met.
unfoldable pub fault_in : Run → (i : ℕ) → List ℕ → (j : ℕ) → List Tagged → ℕ
fault_in run i E j [] = 0
fault_in run i E j (t ∷ ts) =
    cond (eqb t.section i) (onward (advance_in run E t.row) (suc j) (λ E'. fault_in run i E' (suc j) ts)) (fault_in run i E (suc j) ts)

-- The rows at fault, one to a consequent, where each has one; else the first consequent that has none, from 1, and 0 where each has one.
pub record Faults : Type 0 where
  pub rows : List ℕ
  pub met : ℕ

abbrev pub faulty : (met : ℕ) → List ℕ → Faults
faulty met rows = record { met = met; rows = rows }

-- the same of the consequents from c + 1 on, `left` of them, with those so far; where one is met, it is told which, and there are no rows
unfoldable pub faults_in : Run → List Tagged → List ℕ → (c left : ℕ) → List ℕ → Faults
faults_in run ts E c zero rows = faulty 0 rows
faults_in run ts E c (suc left) rows =
    cond (eqb (fault_in run (suc c) E 0 ts) 0) (faulty (suc c) (replicate 6 0)) (faults_in run ts E (suc c) left (set rows c (fault_in run (suc c) E 0 ts)))

-- that consequent as the code answers it
abbrev pub consequent_of : ℕ → Answer ℕ
consequent_of zero = None
consequent_of (suc c) = Some (suc c)

-- Where t is a row of a consequent, it does not introduce the point m.
abbrev pub Elsewhere : ℕ → Tagged → Type 0
Elsewhere m t = (t.section ≡ 0 → ⊥) → All (λ (p : ℕ). m ≡ p → ⊥) (introduced t.row)

-- E' has the positions that E has, but for those of points that consequents introduce.
pub record Kept (ts : List Tagged) (E E' : List ℕ) : Type 0 where
  pub size : length E' ≡ length E
  pub same : (m : ℕ) → All (Elsewhere m) ts → get_or E' m 0 ≡ get_or E m 0
