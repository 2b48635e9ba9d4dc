-- All denials of a consequent, in their order: which list they are. What must be believed.
-- Assumes nothing.
use Rattle.std.specs.Prelude.{◌≡◌, List, [], ◌∷◌, ◌++◌, map, ℕ}
use Rattle.scenario.specs.Rows.{Row, needs, denying_rows}
use Rattle.scenario.specs.Denials.{Introduces, Picked}

-- The denials of one row, the section's rows `front` before it. "A denial is: the introducing rows of the points used by the row, and of the points those need
-- in turn, within the section and in sheet order; then the rows here": the same rows are brought into each, and there are as many as the row has below, in that order.
pub record RowDenials (far_end : Row → ℕ) (r : ℕ) (front : List Row) (row : Row) (ds : List (List Row)) : Type 0 where
  pub brought : List Row
  pub closed : Picked (Introduces front (needs row)) front brought
  pub are : ds ≡ map (λ own. brought ++ own) (denying_rows (far_end row) r row)

-- "Each consequent row gives the denials below, rows in sheet order": those of the first of the rows, then those of the others
pub data DenialsOf (far_end : Row → ℕ) (r : ℕ) : (front rows : List Row) (ds : List (List Row)) → Type 0 where
  none : {front : List Row} → DenialsOf far_end r front [] []
  more : {front : List Row} {row : Row} {rows : List Row} {ds es : List (List Row)}
      → RowDenials far_end r front row ds → DenialsOf far_end r (front ++ (row ∷ [])) rows es → DenialsOf far_end r front (row ∷ rows) (ds ++ es)
