-- Whether antiscenario m is impossible, over bytes: the answer, and what document 02, A6, wants of it. What must be believed.
-- Assumes nothing.
use Rattle.std.specs.Prelude.{Bool, Result, Ok, Err, ◌≡◌, ◌↔◌, true, false, cond, List, ℕ, ◌≤◌, length, eqb}
use Rattle.scenario.specs.Rows.{points}
use Rattle.scenario.specs.Sheet.{antiscenario}
use Rattle.sheet.specs.Reading.{sheet_in}
use Rattle.runlog.specs.Log.{answer as log-answer}
use Rattle.antiscenario.specs.Numbers.{text_refusal}
use Rattle.search.specs.Searching.{Matches, SaysNone, search_of}
use Rattle.refusal.specs.declared.Refusal.{Refusal}
use Rattle.refusal.specs.Refusal.{number}
use Rattle.impossibility.specs.Impossible.{Impossible, impossible}

-- What the operation says: the refusal, or 0 and whether the antiscenario is impossible.
pub record Ruled : Type 0 where
  pub refusal : ℕ
  pub impossible : Bool

abbrev pub unruled : ℕ → Ruled
unruled refusal = record { refusal = refusal; impossible = false }

-- the answer of the code, with its refusal by number
abbrev pub numbered : Result Bool Refusal → Ruled
numbered (Ok b) = record { refusal = 0; impossible = b }
numbered (Err r) = unruled (number r)

-- "Its refusals are the sheet's and 31."
unfoldable pub impossible_of : (s : List ℕ) (number : ℕ) → Ruled
impossible_of s number =
    cond (eqb (text_refusal s number) 0) (record { refusal = 0; impossible = impossible (antiscenario (sheet_in s) number) }) (unruled (text_refusal s number))

-- What an answer that is not a refusal says of antiscenario m of the sheet s
pub record RulingSays (s : List ℕ) (m : ℕ) (r : Ruled) : Type 0 where
  -- it is impossible by the three rules, "and in no case but these three"
  pub rules : (r.impossible ≡ true) ↔ Impossible (antiscenario (sheet_in s) m)
  -- "An impossible pattern must match no accepted log at all",
  pub never : r.impossible ≡ true → (l : List ℕ) → (log-answer l).refusal ≡ 0 → (zs : List ℕ) → Matches s l m zs → ⊥
  -- so that its search, lent enough places, says "none", whatever they hold
  pub none : r.impossible ≡ true → (l : List ℕ) → (log-answer l).refusal ≡ 0 → (places : List ℕ) → length (points (antiscenario (sheet_in s) m)) ≤ length places
      → SaysNone (search_of s l m places) places
