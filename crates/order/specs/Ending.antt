-- The far end of a missing point, as the code goes: by places, over rows in memory. Inner vocabulary.
-- Assumes nothing.
use Rattle.std.specs.Prelude.{◌≡◌, Bool, true, false, not, ◌&&◌, ◌||◌, cond, List, [], ◌∷◌, ℕ, ◌<◌, eqb}
use Rattle.scenario.specs.Links.{leads}
use Rattle.scenario.specs.Rows.{close_point, may_end, first_or}
use Rattle.scenario.specs.Log.{in_set}
use Rattle.row.specs.declared.Line.{Line}
use Rattle.order.specs.Leading.{places, place, links_in}

-- the numbers that the antecedent's points may have, in order
abbrev pub antecedent_points : List ℕ
antecedent_points = 1 ∷ 2 ∷ 3 ∷ 4 ∷ []

-- both sets have z, and it is not q
unfoldable pub may_end_in : (beyond ordered q z : ℕ) → Bool
may_end_in beyond ordered q z = in_set beyond z && not (eqb z q) && in_set ordered z

-- a set has the places in order with q
abbrev pub InOrder : (set : ℕ) (m : List ℕ) (n : ℕ) (upward : Bool) (q edge : ℕ) → Type 0
InOrder set m n upward q edge = (z : ℕ) → z < places → in_set set z ≡ (eqb q edge || leads (links_in m 0 upward 0 n) (place q) z)

-- the far end of a row's missing point, upward or downward
unfoldable pub end_in : (m : List ℕ) (n : ℕ) (l : Line) (upward : Bool) (edge long : ℕ) → ℕ
end_in m n l upward edge long =
    first_or long (may_end (leads (links_in m l.section upward 0 n) (place l.p)) (leads (links_in m 0 upward 0 n) (place l.q)) l.q edge) antecedent_points

-- by the row's kind
unfoldable pub far_in : (m : List ℕ) (n : ℕ) (l : Line) → ℕ
far_in m n l = cond (eqb l.kind 2) (end_in m n l true 0 close_point) (cond (eqb l.kind 3) (end_in m n l false close_point 0) 0)
