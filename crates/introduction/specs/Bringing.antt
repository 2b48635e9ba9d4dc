-- The introducing rows that a denial brings, as the code goes: rows by their numbers, six to a row. Inner vocabulary.
-- Assumes nothing.
use Rattle.std.specs.Prelude.{◌≡◌, Bool, cond, ◌&&◌, List, [], ◌∷◌, ◌++◌, ℕ, zero, suc, ◌<◌, get_or, set, leb, eqb}
use Rattle.row.specs.declared.Line.{Line}
use Rattle.row.specs.Memory.{line_in}

-- the points that a row uses, without the one it introduces, by its kind
unfoldable pub uses : Line → List ℕ
uses l =
    cond (leb l.kind 1) []
    (cond (leb l.kind 3) (l.q ∷ [])
    (cond (leb l.kind 5) (l.q ∷ l.a ∷ [])
    (cond (leb l.kind 11) (l.p ∷ l.q ∷ []) (l.p ∷ []))))

-- marks by point number, with those of the list
unfoldable pub marked : (marks ps : List ℕ) → List ℕ
marked marks [] = marks
marked marks (p ∷ ps) = marked (set marks p 1) ps

-- none of the rows before number `from` is of section s
abbrev pub NoneBefore : (m : List ℕ) (s from : ℕ) → Type 0
NoneBefore m s from = (i : ℕ) → i < from → (line_in m i).section ≡ s → ⊥

-- a row of section s that introduces a marked point
unfoldable pub wanted : (marks : List ℕ) (s : ℕ) → Line → Bool
wanted marks s l = eqb l.section s && (leb 1 l.kind && leb l.kind 5 && eqb (get_or marks l.p 0) 1)

-- of the first i rows those of section s that introduce marked points, and the points those need in turn
unfoldable pub brought : (m : List ℕ) (s : ℕ) (marks : List ℕ) (i : ℕ) → List Line
brought m s marks zero = []
brought m s marks (suc i) =
    cond (wanted marks s (line_in m i)) (brought m s (marked marks (uses (line_in m i))) i ++ (line_in m i ∷ [])) (brought m s marks i)
