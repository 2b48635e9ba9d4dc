-- Sheets: placements, matchings, when a sheet holds, antiscenarios and their numbers, the order of placements, and demand 3. What must be believed.
-- Assumes nothing.
use Rattle.std.specs.Prelude.{◌≡◌, ◌↔◌, Bool, true, false, ◌&&◌, ◌||◌, cond, List, [], ◌∷◌, ◌++◌, ℕ, suc, ◌+◌, ◌-◌, ◌*◌, ◌/◌, ◌%◌, ◌≤◌, ◌<◌, length, get_or, take, ltb, leb, eqb, T}
use Rattle.scenario.specs.Rows.{Row, Run, Env, meets, points, far_end, denials, close_point}

-- "Section 0 is the antecedent, sections 1 to k the consequents": consequent number i stands at place i - 1 of the list. 000's conditional scenario (3.1.3), which
-- repeats the antecedent in each consequent and has at least one; k = 0 is ours.
pub record Sheet : Type 0 where
  pub antecedent : List Row
  pub consequents : List (List Row)

-- Placements and matchings

-- the position that the point m has, at its place among the points ps
unfoldable pub lookup : (ps xs : List ℕ) → ℕ → ℕ
lookup [] xs m = 0
lookup (p ∷ ps) [] m = 0
lookup (p ∷ ps) (x ∷ xs) m = cond (eqb m p) x (lookup ps xs m)

-- "A placement gives each introduced point a position; points may share one; 0 and 99 have theirs fixed": a placement is the list xs of the positions of
-- the points ps, in order of introduction, and this is its environment.
unfoldable pub env : Run → (ps xs : List ℕ) → Env
env run ps xs m = cond (eqb m 0) 0 (cond (eqb m close_point) (suc run.lines) (lookup ps xs m))

module _ {A : Type 0} where
  -- every member passes the test
  unfoldable pub all : (A → Bool) → List A → Bool
  all f [] = true
  all f (x ∷ xs) = f x && all f xs

  -- lists, one after the other
  unfoldable pub flat : List (List A) → List A
  flat [] = []
  flat (l ∷ ls) = l ++ flat ls

-- "a position 1 to n"
unfoldable pub is_line : Run → ℕ → Bool
is_line run x = leb 1 x && leb x run.lines

-- "A matching of a list of rows is a placement of its points meeting every row." 000's definition 2.3.4, not injective either; an antiscenario matches
-- when it has one (2.3.5).
unfoldable pub matching : Run → List Row → List ℕ → Bool
matching run rows xs = eqb (length xs) (length (points rows)) && all (is_line run) xs && all (meets run (env run (points rows) xs)) rows

-- "Cut down to the antecedent's points, a placement keeps the positions it gives these and no others"
unfoldable pub cut : Sheet → List ℕ → List ℕ
cut sheet zs = take (length (points sheet.antecedent)) zs

-- zs is a matching of the rows, "unchanged on the antecedent's points" from xs
pub record Over (run : Run) (sheet : Sheet) (rows : List Row) (xs zs : List ℕ) : Type 0 where
  pub matches : T (matching run rows zs)
  pub same : cut sheet zs ≡ xs

-- xs "extends to a matching of antecedent and some one consequent", the one at a place (from 0) of the list
pub record Extends (run : Run) (sheet : Sheet) (xs : List ℕ) : Type 0 where
  pub place : ℕ
  pub inside : place < length sheet.consequents
  pub placement : List ℕ
  pub over : Over run sheet (sheet.antecedent ++ get_or sheet.consequents place []) xs placement

-- "A sheet holds on a log when each matching of the antecedent extends, unchanged on its points, to a matching of antecedent and some one consequent."
-- 000's definition 3.1.4.
abbrev pub Holds : Run → Sheet → Type 0
Holds run sheet = (xs : List ℕ) → T (matching run sheet.antecedent xs) → Extends run sheet xs

-- "An antecedent matching that extends to none is called violating."
pub record Violating (run : Run) (sheet : Sheet) (xs : List ℕ) : Type 0 where
  pub matches : T (matching run sheet.antecedent xs)
  pub none : (i : ℕ) → i < length sheet.consequents → (zs : List ℕ) → Over run sheet (sheet.antecedent ++ get_or sheet.consequents i []) xs zs → ⊥

-- Antiscenarios

-- the denials of each consequent, from number i on, by the far ends of its rows
unfoldable pub choices : (far : (consequent : List Row) → Row → ℕ) → ℕ → List (List Row) → List (List (List Row))
choices far i [] = []
choices far i (c ∷ cs) = denials (far c) (10 * i + 9) [] c ∷ choices far (suc i) cs

module _ {A : Type 0} where
  -- how many ways there are to choose one of each list: one where there is no list
  unfoldable pub total : List (List A) → ℕ
  total [] = 1
  total (l ∷ ls) = length l * total ls

  -- "in mixed counting, the last consequent's choice moving fastest": way number j, from 0; d is what a place outside a list would give
  unfoldable pub choose : A → List (List A) → ℕ → List A
  choose d [] j = []
  choose d (l ∷ ls) j = get_or l (j / total ls) d ∷ choose d ls (j % total ls)

-- "Their count N is the product of the denials per consequent; with k = 0, N is 1"
unfoldable pub count : Sheet → ℕ
count sheet = total (choices (far_end sheet.antecedent) 1 sheet.consequents)

-- "Number m: m − 1 in mixed counting": its denials, one for each consequent
unfoldable pub chosen : Sheet → ℕ → List (List Row)
chosen sheet m = choose [] (choices (far_end sheet.antecedent) 1 sheet.consequents) (m - 1)

-- "An antiscenario is the antecedent's rows, then one denial for each consequent in order." 000 has a fusion here (4.1.1).
unfoldable pub antiscenario : Sheet → ℕ → List Row
antiscenario sheet m = sheet.antecedent ++ flat (chosen sheet m)

-- some antiscenario has a matching that, cut down to the antecedent's points, is xs
pub record Denied (run : Run) (sheet : Sheet) (xs : List ℕ) : Type 0 where
  pub number : ℕ
  pub low : 1 ≤ number
  pub high : number ≤ count sheet
  pub place : List ℕ
  pub over : Over run sheet (antiscenario sheet number) xs place

-- Order and answers

-- "Placements compare by the positions of their points in order of introduction, lower first."
unfoldable pub no_larger : (xs ys : List ℕ) → Bool
no_larger [] ys = true
no_larger (x ∷ xs) [] = false
no_larger (x ∷ xs) (y ∷ ys) = ltb x y || (eqb x y && no_larger xs ys)

-- xs is the smallest with the property
pub record Smallest (P : List ℕ → Type 0) (xs : List ℕ) : Type 0 where
  pub has : P xs
  pub least : (ys : List ℕ) → P ys → T (no_larger xs ys)

-- what a search and a check answer
pub data Answer : Type 0 where
  nothing : Answer
  found : List ℕ → Answer

-- the smallest with the property, or "none", "exactly if" there is none
abbrev pub Says : (List ℕ → Type 0) → Answer → Type 0
Says P nothing = (xs : List ℕ) → P xs → ⊥
Says P (found xs) = Smallest P xs

-- "Search antiscenario m .. gives the smallest matching, or "none""
abbrev pub SearchSays : Run → Sheet → ℕ → Answer → Type 0
SearchSays run sheet m = Says (λ zs. T (matching run (antiscenario sheet m) zs))

-- "Check .. gives holds, or violated with the smallest antecedent matching that extends to no consequent"
abbrev pub CheckSays : Run → Sheet → Answer → Type 0
CheckSays run sheet = Says (Violating run sheet)

-- Demand 3, of the check's answer c and the searches' answers f m: a placement is violating exactly when it is denied; c is "holds" exactly when the sheet holds,
-- and exactly when no antiscenario matches, which is when every search answers "none"; a placement of the check is a found one, cut, and the smallest such.
-- 000's theorem 4.2.7 says the second of these, of runs and not of placements.
pub record Demand (run : Run) (sheet : Sheet) (c : Answer) (f : ℕ → Answer) : Type 0 where
  pub agree : (xs : List ℕ) → Violating run sheet xs ↔ Denied run sheet xs
  pub keeps : (c ≡ nothing) ↔ Holds run sheet
  pub holds : (c ≡ nothing) ↔ ((m : ℕ) → 1 ≤ m → m ≤ count sheet → (zs : List ℕ) → T (matching run (antiscenario sheet m) zs) → ⊥)
  pub none : ((m : ℕ) → 1 ≤ m → m ≤ count sheet → (zs : List ℕ) → T (matching run (antiscenario sheet m) zs) → ⊥) ↔ ((m : ℕ) → 1 ≤ m → m ≤ count sheet → f m ≡ nothing)
  pub reached : (xs : List ℕ) → c ≡ found xs → (m : ℕ) × (zs : List ℕ) × (1 ≤ m) × (m ≤ count sheet) × (f m ≡ found zs) × (cut sheet zs ≡ xs)
  pub smallest : (xs : List ℕ) → c ≡ found xs → (m : ℕ) (zs : List ℕ) → 1 ≤ m → m ≤ count sheet → T (matching run (antiscenario sheet m) zs) → T (no_larger xs (cut sheet zs))
