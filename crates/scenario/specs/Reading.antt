-- What reading has checked of a sheet and of a log: all that demand 3 needs. And the patterns that a search takes. What must be believed.
-- Assumes nothing.
use Rattle.std.specs.Prelude.{◌≡◌, List, [], ◌∷◌, ◌++◌, ℕ, suc, ◌+◌, ◌*◌, ◌≤◌, ◌<◌, length, T}
use Rattle.scenario.specs.Rows.{Row, point, next, last, earlier, later, before, apart, same, free, within, outside, event, event_count, full_set, points, introduced, needs, elem, close_point}
use Rattle.scenario.specs.Log.{Log}
use Rattle.scenario.specs.Sheet.{Sheet}

module _ {A : Type 0} where
  -- each member has the property
  abbrev pub All : (A → Type 0) → List A → Type 0
  All P [] = Unit {0}
  All P (x ∷ xs) = P x × All P xs

-- no number stands twice
abbrev pub Distinct : List ℕ → Type 0
Distinct [] = Unit {0}
Distinct (p ∷ ps) = (T (elem p ps) → ⊥) × Distinct ps

-- document 02, A1: "Refusal 25 is for events over 63", and was not given
abbrev pub LogRead : Log → Type 0
LogRead log = All (λ (e : ℕ). e < event_count) log.events

-- a set of events that two fields can hold, a half in each
unfoldable pub IsEvents : ℕ → Type 0
IsEvents s = s ≤ full_set

-- "0 is the start and 99 the close .. All others are ordinary"
pub record Ordinary (m : ℕ) : Type 0 where
  pub not_start : m ≡ 0 → ⊥
  pub not_close : m ≡ close_point → ⊥

-- a consequent's row, besides its points being known: "not for this section", "both points ordinary", "the event at ordinary p"
abbrev pub Valid : Row → Type 0
Valid (point p s) = ⊥
Valid (next p q s) = Unit {0}
Valid (last p q s) = Unit {0}
Valid (earlier p q a) = Ordinary q × Ordinary a
Valid (later p q a) = Ordinary q × Ordinary a
Valid (before p q) = Unit {0}
Valid (apart p q) = Unit {0}
Valid (same p q) = Unit {0}
Valid (free p q s) = Unit {0}
Valid (within p q lo hi) = Unit {0}
Valid (outside p q lo hi) = Unit {0}
Valid (event p s) = Ordinary p × IsEvents s

-- "introduces 1, 2, .. in that order": the numbers b + 1, b + 2, ..
abbrev pub Counted : ℕ → List ℕ → Type 0
Counted b [] = Unit {0}
Counted b (p ∷ ps) = (p ≡ suc b) × Counted (suc b) ps

-- "A row may use points introduced in earlier rows of its own section or of the antecedent": m is 0, 99, one of the antecedent's 1 to a,
-- or one of the c that section i has introduced so far.
pub data Seen (a i c m : ℕ) : Type 0 where
  first : m ≡ 0 → Seen a i c m
  final : m ≡ close_point → Seen a i c m
  antecedent : 1 ≤ m → m ≤ a → Seen a i c m
  own : 10 * i < m → m ≤ 10 * i + c → Seen a i c m

-- "consequent i introduces 10i + 1, 10i + 2, .. up to 10i + 8": a row of section i when c of its points are introduced; and its rows
pub record RowRead (a i c : ℕ) (k : Row) : Type 0 where
  pub valid : Valid k
  pub due : All (λ (p : ℕ). (p ≡ 10 * i + c + 1) × (c < 8)) (introduced k)
  pub known : All (Seen a i c) (needs k)

abbrev pub RowsRead : (a i c : ℕ) → List Row → Type 0
RowsRead a i c [] = Unit {0}
RowsRead a i c (k ∷ rows) = RowRead a i c k × RowsRead a i (length (introduced k) + c) rows

abbrev pub SectionsRead : (a i : ℕ) → List (List Row) → Type 0
SectionsRead a i [] = Unit {0}
SectionsRead a i (c ∷ cs) = RowsRead a i 0 c × SectionsRead a (suc i) cs

-- a sheet
pub record SheetRead (sheet : Sheet) : Type 0 where
  pub numbers : Counted 0 (points sheet.antecedent)
  pub few : length (points sheet.antecedent) ≤ 4
  pub uses : All (λ (k : Row). All (Seen (length (points sheet.antecedent)) 0 0) (needs k)) sheet.antecedent
  pub consequents : SectionsRead (length (points sheet.antecedent)) 1 sheet.consequents
  pub count : length sheet.consequents ≤ 6

-- "At most 58 points", with numbers below 100
abbrev pub most_points : ℕ
most_points = 58

abbrev pub point_numbers : ℕ
point_numbers = 100

-- rows that are searched: each uses points that the rows introduce, each point is introduced once, and there are "at most 58 points"
pub record Pattern (rows : List Row) : Type 0 where
  pub known : All (λ (k : Row). (m : ℕ) → T (elem m (introduced k ++ needs k)) → (m ≡ 0 → ⊥) → (m ≡ close_point → ⊥) → T (elem m (points rows))) rows
  pub once : Distinct (points rows)
  pub plain : All (λ (m : ℕ). Ordinary m × (m < point_numbers)) (points rows)
  pub few : length (points rows) ≤ most_points
