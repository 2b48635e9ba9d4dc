-- Consequents in another order: rearrangements, the rearranged sheet, and the numbers of its antiscenarios. Document 02, A11. What must be believed.
-- Assumes nothing.
use Rattle.std.specs.Prelude.{◌≡◌, List, [], ◌∷◌, ℕ, zero, suc, ◌+◌, ◌-◌, ◌*◌, ◌/◌, ◌%◌, ◌≤◌, ◌<◌, length, get_or}
use Rattle.scenario.specs.Rows.{Row, far_end}
use Rattle.scenario.specs.Sheet.{Sheet, total, choices, count, chosen}
use Rattle.scenario.specs.Renumber.{moved}

-- "every rearrangement", of k things: at place i comes what stood at place old i, and what stood at place j comes to place new j.
pub record Rearrangement (k : ℕ) : Type 0 where
  pub old : ℕ → ℕ
  pub new : ℕ → ℕ
  pub old_low : (i : ℕ) → i < k → old i < k
  pub new_low : (j : ℕ) → j < k → new j < k
  pub new_old : (i : ℕ) → i < k → new (old i) ≡ i
  pub old_new : (j : ℕ) → j < k → old (new j) ≡ j

-- the list of f 0, .., f (k - 1)
unfoldable pub table : {A : Type 0} (k : ℕ) → (ℕ → A) → List A
table zero f = []
table (suc k) f = f 0 ∷ table k (λ i. f (suc i))

-- A part for each of k consequents, in the new order, "points renumbered to fit": what was of section 1 + old i is of section 1 + i.
unfoldable pub reordered : (k : ℕ) (old : ℕ → ℕ) → List (List Row) → List (List Row)
reordered k old parts = table k (λ i. moved (suc (old i)) (suc i) (get_or parts (old i) []))

-- the sheet with its consequents in the new order
unfoldable pub rearranged : Sheet → (old : ℕ → ℕ) → Sheet
rearranged sheet old = record { antecedent = sheet.antecedent; consequents = reordered (length sheet.consequents) old sheet.consequents }

-- Numbers of antiscenarios

module _ {A : Type 0} where
  -- "in mixed counting, the last consequent's choice moving fastest": the choice that way number j, from 0, makes at place p
  unfoldable pub choice : List (List A) → (j p : ℕ) → ℕ
  choice [] j p = 0
  choice (l ∷ ls) j zero = j / total ls
  choice (l ∷ ls) j (suc p) = choice ls (j % total ls) p

  -- and the way that makes these choices
  unfoldable pub way : List (List A) → (choice-at : ℕ → ℕ) → ℕ
  way [] choice-at = 0
  way (l ∷ ls) choice-at = choice-at 0 * total ls + way ls (λ p. choice-at (suc p))

-- the denials that an antiscenario is chosen from, consequent by consequent
abbrev pub denials_of : Sheet → List (List (List Row))
denials_of sheet = choices (far_end sheet.antecedent) 1 sheet.consequents

-- "under moved numbers": antiscenario m has in the rearranged sheet the number that makes its choices, in the new order
unfoldable pub renumbered : Sheet → (old : ℕ → ℕ) → (m : ℕ) → ℕ
renumbered sheet old m = suc (way (denials_of (rearranged sheet old)) (λ i. choice (denials_of sheet) (m - 1) (old i)))

-- "The antiscenarios are the same patterns up to the order of their parts, each as often, under moved numbers."
pub record SamePatterns (sheet : Sheet) (old : ℕ → ℕ) : Type 0 where
  -- there are as many
  pub as_many : count (rearranged sheet old) ≡ count sheet
  -- each number has one of the others, and no two have the same: so every one of them is reached
  pub low : (m : ℕ) → 1 ≤ m → m ≤ count sheet → 1 ≤ renumbered sheet old m
  pub high : (m : ℕ) → 1 ≤ m → m ≤ count sheet → renumbered sheet old m ≤ count sheet
  pub once : (m n : ℕ) → 1 ≤ m → m ≤ count sheet → 1 ≤ n → n ≤ count sheet → renumbered sheet old m ≡ renumbered sheet old n → m ≡ n
  pub every : (n : ℕ) → 1 ≤ n → n ≤ count sheet → (m : ℕ) × (1 ≤ m) × (m ≤ count sheet) × (renumbered sheet old m ≡ n)
  -- its denials are those of m, in the new order
  pub parts : (m : ℕ) → 1 ≤ m → m ≤ count sheet → chosen (rearranged sheet old) (renumbered sheet old m) ≡ reordered (length sheet.consequents) old (chosen sheet m)
