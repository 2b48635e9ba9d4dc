-- Valid sheets: k, and rows each of which document 01 permits after the rows before it. What must be believed.
-- Assumes nothing.
use Rattle.std.specs.Prelude.{◌≡◌, ◌⊎◌, cond, List, [], ◌∷◌, ◌++◌, map, ℕ, zero, suc, ◌+◌, ◌*◌, ◌≤◌, length, T, eqb}
use Rattle.scenario.specs.Rows.{Row, point, next, last, earlier, later, before, apart, same, free, within, outside, event, full_set, points, elem}
use Rattle.scenario.specs.Fields.{Tagged}
use Rattle.scenario.specs.Sheet.{Sheet}
use Rattle.scenario.specs.Reading.{Ordinary, Counted}
use Rattle.sheet.specs.Text.{numbers_of, sheet_text}

-- Sections

-- "Rows, numbered from 1: section, kind, ..": a list of rows, each with its section, in sheet order; here those of section i
unfoldable pub rows_of : ℕ → List Tagged → List Row
rows_of i [] = []
rows_of i (t ∷ ts) = cond (eqb t.section i) (t.row ∷ rows_of i ts) (rows_of i ts)

-- sections i, i + 1, ..
unfoldable pub sections_of : (i left : ℕ) → List Tagged → List (List Row)
sections_of i zero ts = []
sections_of i (suc left) ts = rows_of i ts ∷ sections_of (suc i) left ts

-- "Section 0 is the antecedent, sections 1 to k the consequents."
unfoldable pub sheet_from : (k : ℕ) → List Tagged → Sheet
sheet_from k ts = record { antecedent = rows_of 0 ts; consequents = sections_of 1 k ts }

-- the last row's section, or s where there is no row
unfoldable pub preceding : (s : ℕ) → List Tagged → ℕ
preceding s [] = s
preceding s (t ∷ ts) = preceding t.section ts

-- Points, where the rows `front` stand before a row of section i

-- "A row may use points introduced in earlier rows of its own section or of the antecedent."
abbrev pub Introduced : (front : List Tagged) (i m : ℕ) → Type 0
Introduced front i m = T (elem m (points (rows_of i front))) ⊎ T (elem m (points (rows_of 0 front)))

-- "All others are ordinary and known once introduced."
pub record OrdinaryPoint (front : List Tagged) (i m : ℕ) : Type 0 where
  pub ordinary : Ordinary m
  pub introduced : Introduced front i m

-- "0 is the start and 99 the close, always known."
pub data KnownPoint (front : List Tagged) (i m : ℕ) : Type 0 where
  the_start : m ≡ 0 → KnownPoint front i m
  the_close : m ≡ 99 → KnownPoint front i m
  an_ordinary : OrdinaryPoint front i m → KnownPoint front i m

-- "The antecedent introduces 1, 2, .. up to 4 in that order; consequent i introduces 10i + 1, 10i + 2, .. up to 10i + 8."
unfoldable pub last_point : ℕ → ℕ
last_point zero = 4
last_point (suc i) = 10 * suc i + 8

-- p comes next: the section's points so far and p are those numbers, in that order
pub record Due (front : List Tagged) (i p : ℕ) : Type 0 where
  pub in_order : Counted (10 * i) (points (rows_of i front) ++ (p ∷ []))
  pub up_to : p ≤ last_point i

-- "Pairs are of two different points"
pub record Pair (Permitted : ℕ → Type 0) (p q : ℕ) : Type 0 where
  pub different : q ≡ p → ⊥
  pub first : Permitted p
  pub second : Permitted q

-- Sets and limits

-- "Sets are non-empty, except in EVENT." They are of the events that there are.
pub record SomeEvents (s : ℕ) : Type 0 where
  pub fits : s ≤ full_set
  pub non_empty : s ≡ 0 → ⊥

-- "from a to b, both included": not "a above b"; and "a field of 11 columns is well formed up to 4,294,967,295"
pub record Limits (lo hi : ℕ) : Type 0 where
  pub ascend : lo ≤ hi
  pub fits : hi ≤ 4294967295

-- Kinds

-- "Kinds of row": a row of section i that may stand after the rows `front`. Fields that its kind does not mention it does not have; they are written as 0.
abbrev pub Permitted : (front : List Tagged) (i : ℕ) → Row → Type 0
-- "1 POINT, antecedent only: introduces p; the event at p is in set a."
Permitted front i (point p s) = (i ≡ 0) × Due front i p × SomeEvents s
-- "2 NEXT, consequents only (as 3, 4, 5): introduces p; p is after q, its event is in a, .. q is not 99."
Permitted front i (next p q s) = (1 ≤ i) × Due front i p × KnownPoint front i q × (q ≡ 99 → ⊥) × SomeEvents s
-- "3 LAST: the same with p before q. q is not 0."
Permitted front i (last p q s) = (1 ≤ i) × Due front i p × KnownPoint front i q × (q ≡ 0 → ⊥) × SomeEvents s
-- "4 EARLIER: introduces p at the lower of the positions of q and of point number a. 5 LATER: the higher. Both points ordinary and different."
Permitted front i (earlier p q a) = (1 ≤ i) × Due front i p × Pair (OrdinaryPoint front i) q a
Permitted front i (later p q a) = (1 ≤ i) × Due front i p × Pair (OrdinaryPoint front i) q a
-- "6 BEFORE .. 7 APART .. 8 SAME .. Ordinary points."
Permitted front i (before p q) = Pair (OrdinaryPoint front i) p q
Permitted front i (apart p q) = Pair (OrdinaryPoint front i) p q
Permitted front i (same p q) = Pair (OrdinaryPoint front i) p q
-- "9 FREE: no event of set a is between p and q." "In kinds 9 to 11 either may be 0 or 99."
Permitted front i (free p q s) = Pair (KnownPoint front i) p q × SomeEvents s
-- "10 WITHIN: the distance .. is from a to b, both included. 11 OUTSIDE: it is not."
Permitted front i (within p q lo hi) = Pair (KnownPoint front i) p q × Limits lo hi
Permitted front i (outside p q lo hi) = Pair (KnownPoint front i) p q × Limits lo hi
-- "12 EVENT: the event at ordinary p is in a."
Permitted front i (event p s) = OrdinaryPoint front i p × (s ≤ full_set)

-- Rows and sheets

pub record ValidRow (k : ℕ) (front : List Tagged) (t : Tagged) : Type 0 where
  -- "sections 1 to k the consequents": not "section above k"
  pub top : t.section ≤ k
  -- not "below the preceding row's"
  pub order : preceding 0 front ≤ t.section
  pub permitted : Permitted front t.section t.row

pub record ValidSheet (k : ℕ) (rows : List Tagged) : Type 0 where
  -- "consequents k (3 columns, at most 6), row count (3, at most 176)"
  pub few_consequents : k ≤ 6
  pub few_rows : length rows ≤ 176
  -- each row, by the rows before it
  pub each : (front : List Tagged) (t : Tagged) (back : List Tagged) → rows ≡ front ++ (t ∷ back) → ValidRow k front t
  -- "Section 0 is the antecedent (at most 32 rows), sections 1 to k the consequents (at most 24 rows each)."
  pub antecedent_rows : length (rows_of 0 rows) ≤ 32
  pub consequent_rows : (i : ℕ) → 1 ≤ i → length (rows_of i rows) ≤ 24

-- "First line: consequents k, row count. Rows: ..": the text, every field in its columns, "fields a kind doesn't mention are 0"
unfoldable pub rows_spelt : (k : ℕ) → List Tagged → List ℕ
rows_spelt k rows = sheet_text k (map numbers_of rows)

-- the bytes are the text of a valid sheet
pub record ValidText (s : List ℕ) : Type 0 where
  pub k : ℕ
  pub rows : List Tagged
  pub valid : ValidSheet k rows
  pub text : s ≡ rows_spelt k rows
