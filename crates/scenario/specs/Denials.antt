-- What a denial is, by document 01's sentence, and the far end of a missing point, by document 02's (A8): the laws that `denials` and `far_end` keep. What must be believed.
-- "The introducing rows of the points used by the row, and of the points those need in turn, within the section and in sheet order; then the rows here."
-- Assumes nothing.
use Rattle.std.specs.Prelude.{◌≡◌, ◌⊎◌, ℕ, ◌≤◌, T}
use mathlib.Core.List.{List, [], ◌∷◌, ◌++◌, Memᴰ}
use Rattle.scenario.specs.Rows.{Row, before, introduced, needs, points, elem, denying_rows, close_point}

-- the point m is used, or a row that introduces a needed point needs it in turn
pub data Needed (rows : List Row) (uses : List ℕ) : ℕ → Type 0 where
  used : {m : ℕ} → T (elem m uses) → Needed rows uses m
  in_turn : {m : ℕ} (k : Row) (p : ℕ) → Memᴰ k rows → T (elem p (introduced k)) → Needed rows uses p → T (elem m (needs k)) → Needed rows uses m

-- the row introduces a needed point
pub record Introduces (rows : List Row) (uses : List ℕ) (k : Row) : Type 0 where
  pub at : ℕ
  pub own : T (elem at (introduced k))
  pub need : Needed rows uses at

-- of the rows, all those that are such and no others, each once and in their order
pub data Picked (Such : Row → Type 0) : (rows picked : List Row) → Type 0 where
  done : Picked Such [] []
  taken : {k : Row} {rows picked : List Row} → Such k → Picked Such rows picked → Picked Such (k ∷ rows) (k ∷ picked)
  passed : {k : Row} {rows picked : List Row} → (Such k → ⊥) → Picked Such rows picked → Picked Such (k ∷ rows) picked

-- d is a denial of one of the consequent's rows, those before it in front
pub record Denial (far_end : Row → ℕ) (r : ℕ) (consequent d : List Row) : Type 0 where
  pub front : List Row
  pub row : Row
  pub back : List Row
  pub brought : List Row
  pub own : List Row
  pub place : consequent ≡ front ++ (row ∷ back)
  pub closed : Picked (Introduces front (needs row)) front brought
  pub denying : Memᴰ own (denying_rows (far_end row) r row)
  pub joined : d ≡ brought ++ own

-- The far end of a missing point

-- "BEFORE rows lead, in one or more steps, from" x "to" y
pub data Leads (rows : List Row) : (x y : ℕ) → Type 0 where
  step : {x y : ℕ} → Memᴰ (before x y) rows → Leads rows x y
  on : {x y z : ℕ} → Leads rows x y → Leads rows y z → Leads rows x z

-- z is "an antecedent point", beyond the missing point, "z is not q", and q is the edge or q and z are in order
pub record Ends (antecedent : List Row) (Beyond Ordered : ℕ → Type 0) (q edge z : ℕ) : Type 0 where
  pub point : T (elem z (points antecedent))
  pub beyond : Beyond z
  pub other : z ≡ q → ⊥
  pub ordered : (q ≡ edge) ⊎ Ordered z

-- "Suppose BEFORE rows of the same consequent lead, in one or more steps, from a NEXT row's p to an antecedent point z. Suppose also that z is not q, and that q is 0
-- or BEFORE rows of the antecedent lead from q to z."
abbrev pub EndsNext : (antecedent consequent : List Row) (p q z : ℕ) → Type 0
EndsNext antecedent consequent p q = Ends antecedent (Leads consequent p) (Leads antecedent q) q 0

-- "For LAST, again with z not q, the consequent's BEFORE rows lead from z to p, q is 99 or the antecedent's rows lead from z to q"
abbrev pub EndsLast : (antecedent consequent : List Row) (p q z : ℕ) → Type 0
EndsLast antecedent consequent p q = Ends antecedent (λ z. Leads consequent z p) (λ z. Leads antecedent z q) q close_point

-- "Of several z the lowest number is taken"; and where there is none, "the long denial stays", to the point d
pub data Taken (Such : ℕ → Type 0) (d : ℕ) : ℕ → Type 0 where
  short : {z : ℕ} → Such z → ((y : ℕ) → Such y → z ≤ y) → Taken Such d z
  long : ((y : ℕ) → Such y → ⊥) → Taken Such d d
