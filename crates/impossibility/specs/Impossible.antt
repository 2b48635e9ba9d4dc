-- Antiscenarios that no run can meet: when rows contradict each other, in the request's words and as tests. What must be believed.
-- Document 02, A6: "Points joined by SAME rows count as one. It is impossible when .., and in no case but these three."
-- Assumes nothing.
use Rattle.std.specs.Prelude.{Bool, false, not, ◌||◌, ℕ, ◌<◌, T}
use mathlib.Core.List.{List, [], ◌∷◌, ◌++◌, Memᴰ}
use Rattle.scenario.specs.Links.{Link, link, leads}
use Rattle.scenario.specs.Rows.{Row, point, next, last, earlier, later, before, apart, same, free, within, outside, event, event_count, below, gather}
use Rattle.scenario.specs.Log.{in_set}
use Rattle.scenario.specs.Sheet.{all}

-- In words

-- "Points joined by SAME rows count as one": both ways, in chains, and every point with itself
pub data Joined (rows : List Row) : ℕ → ℕ → Type 0 where
  self : (p : ℕ) → Joined rows p p
  row : {p q : ℕ} → Memᴰ (same p q) rows → Joined rows p q
  back : {p q : ℕ} → Joined rows p q → Joined rows q p
  chain : {p q z : ℕ} → Joined rows p q → Joined rows q z → Joined rows p z

-- "BEFORE, NEXT and LAST rows, read as "lower than", lead from" one point to another, in one step or more, joined points counting as one
pub data Lower (rows : List Row) : ℕ → ℕ → Type 0 where
  by_before : {p q : ℕ} → Memᴰ (before p q) rows → Lower rows p q
  by_next : {p q s : ℕ} → Memᴰ (next p q s) rows → Lower rows q p
  by_last : {p q s : ℕ} → Memᴰ (last p q s) rows → Lower rows p q
  from_joined : {p q z : ℕ} → Joined rows p q → Lower rows q z → Lower rows p z
  to_joined : {p q z : ℕ} → Lower rows p q → Joined rows q z → Lower rows p z
  on : {p q z : ℕ} → Lower rows p q → Lower rows q z → Lower rows p z

-- a POINT, NEXT, LAST or EVENT row for point p has the set s
pub data Asks (rows : List Row) (p s : ℕ) : Type 0 where
  a_point : Memᴰ (point p s) rows → Asks rows p s
  a_next : {q : ℕ} → Memᴰ (next p q s) rows → Asks rows p s
  a_last : {q : ℕ} → Memᴰ (last p q s) rows → Asks rows p s
  an_event : Memᴰ (event p s) rows → Asks rows p s

-- event x is not in all of the sets for the points joined to p
pub record Lacks (rows : List Row) (p x : ℕ) : Type 0 where
  pub at : ℕ
  pub set : ℕ
  pub asks : Asks rows at set
  pub joined : Joined rows p at
  pub out : T (not (in_set set x))

pub data Impossible (rows : List Row) : Type 0 where
  -- "when the sets of its POINT, NEXT, LAST and EVENT rows for one such point have no event in common (a point with no such row passes)"
  no_event : {p s : ℕ} → Asks rows p s → ((x : ℕ) → x < event_count → Lacks rows p x) → Impossible rows
  -- "when an APART row lies inside one such point"
  parted : {p q : ℕ} → Memᴰ (apart p q) rows → Joined rows p q → Impossible rows
  -- "when BEFORE, NEXT and LAST rows, read as "lower than", lead from a point back to itself"
  circle : {p : ℕ} → Lower rows p p → Impossible rows

-- As tests: proofs/Exact shows that they are the same

-- a set that a row asks of a point
pub record SetFor : Type 0 where
  pub at : ℕ
  pub set : ℕ

abbrev pub set_for : ℕ → ℕ → SetFor
set_for p s = record { at = p; set = s }

-- What a row says for the three rules: which points it joins, both ways, which is lower than which, which it has apart, and the set that it asks of a point
pub record Part : Type 0 where
  pub joins : List Link
  pub lowers : List Link
  pub aparts : List Link
  pub sets : List SetFor

abbrev part_of : (joins lowers aparts : List Link) → List SetFor → Part
part_of joins lowers aparts sets = record { joins = joins; lowers = lowers; aparts = aparts; sets = sets }

abbrev pub part : Row → Part
part (point p s) = part_of [] [] [] (set_for p s ∷ [])
part (next p q s) = part_of [] (link q p ∷ []) [] (set_for p s ∷ [])
part (last p q s) = part_of [] (link p q ∷ []) [] (set_for p s ∷ [])
part (earlier p q a) = part_of [] [] [] []
part (later p q a) = part_of [] [] [] []
part (before p q) = part_of [] (link p q ∷ []) [] []
part (apart p q) = part_of [] [] (link p q ∷ []) []
part (same p q) = part_of (link p q ∷ link q p ∷ []) [] [] []
part (free p q s) = part_of [] [] [] []
part (within p q lo hi) = part_of [] [] [] []
part (outside p q lo hi) = part_of [] [] [] []
part (event p s) = part_of [] [] [] (set_for p s ∷ [])

-- and what all rows say
abbrev pub joins : List Row → List Link
joins = gather (λ row. (part row).joins)

abbrev pub lowers : List Row → List Link
lowers = gather (λ row. (part row).lowers)

abbrev pub aparts : List Row → List Link
aparts = gather (λ row. (part row).aparts)

abbrev pub sets : List Row → List SetFor
sets = gather (λ row. (part row).sets)

module _ {A : Type 0} where
  -- some member passes the test
  unfoldable pub any : (A → Bool) → List A → Bool
  any f [] = false
  any f (x ∷ xs) = f x || any f xs

-- p and q are joined by SAME rows, or one point
unfoldable pub joined : List Row → (p q : ℕ) → Bool
joined rows = leads (joins rows)

-- event x is in every set for the points joined to p
unfoldable pub shared : List Row → (p x : ℕ) → Bool
shared rows p x = all (λ h. not (joined rows p h.at) || in_set h.set x) (sets rows)

unfoldable pub no_common_event : List Row → Bool
no_common_event rows = any (λ h. not (below (shared rows h.at) event_count)) (sets rows)

unfoldable pub apart_inside : List Row → Bool
apart_inside rows = any (λ l. joined rows l.from l.to) (aparts rows)

unfoldable pub circular : List Row → Bool
circular rows = any (λ l. leads (lowers rows ++ joins rows) l.to l.from) (lowers rows)

unfoldable pub impossible : List Row → Bool
impossible rows = no_common_event rows || (apart_inside rows || circular rows)
