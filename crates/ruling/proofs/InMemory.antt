-- What is known of an antiscenario in memory: its rows are of the twelve kinds, and each of their points has a place.
-- Assumes nothing.
use mathlib.Core.Path.{◌≡◌, sym, subst}
use mathlib.Core.Logic.{⊎_elim}
use mathlib.Core.List.{List, [], ◌∷◌, ◌++◌, map}
use Prim.Native.Nat.{ℕ, zero, suc, ◌+◌, ◌≤◌, ◌<◌}
use native.Mathlib.Omega.{arith}
use lib.Dec.{T, eqb, eqb→eq}
use Rattle.scenario.specs.Rows.{Row, point, next, last, earlier, later, before, apart, same, free, within, outside, event, introduced, needs, points, elem}
use Rattle.scenario.specs.Fields.{Tagged, fields, written}
use Rattle.scenario.specs.Reading.{All, Pattern}
use Rattle.scenario.proofs.Base.{tell, all_map, all-elem, elem_at, neqb→neq}
use Rattle.scenario.proofs.Patterns.{Numbered, of_antecedent, of_consequent, antiscenario-numbers}
use Rattle.row.specs.declared.Line.{Line}
use Rattle.row.specs.Memory.{line_in, lines_in, kind_at, rows_of}
use Rattle.sheet.specs.Reading.{sheet_in}
use Rattle.sheet.specs.Text.{numbers_of}
use Rattle.sheet.proofs.Theorems.{accepted-sheet}
use Rattle.antiscenario.specs.Held.{TextHeld}
use Rattle.contradiction.specs.Table.{Here, start, close, of_antecedent as here-antecedent, of_consequent as here-consequent, Placed, KnownKinds}

-- Kinds

abbrev Known : ℕ → Type 0
Known kind = (1 ≤ kind) × (kind ≤ 12)

field-kind : (k : Row) → Known (fields k).kind
unfolding fields
field-kind (point p s) = (omega arith, omega arith)
field-kind (next p q s) = (omega arith, omega arith)
field-kind (last p q s) = (omega arith, omega arith)
field-kind (earlier p q a) = (omega arith, omega arith)
field-kind (later p q a) = (omega arith, omega arith)
field-kind (before p q) = (omega arith, omega arith)
field-kind (apart p q) = (omega arith, omega arith)
field-kind (same p q) = (omega arith, omega arith)
field-kind (free p q s) = (omega arith, omega arith)
field-kind (within p q lo hi) = (omega arith, omega arith)
field-kind (outside p q lo hi) = (omega arith, omega arith)
field-kind (event p s) = (omega arith, omega arith)

written_kinds : (ts : List Tagged) → All (λ (l : Line). Known l.kind) (map numbers_of ts)
unfolding numbers_of
written_kinds [] = tt
written_kinds (t ∷ ts) = (field-kind t.row, written_kinds ts)

kinds_at : (rows : List ℕ) (i left : ℕ) → All (λ (l : Line). Known l.kind) (lines_in rows i left) → (j : ℕ) → i ≤ j → j < i + left → Known (kind_at rows j)
unfolding lines_in line_in
kinds_at rows i zero h j l u = absurd (omega arith)
kinds_at rows i (suc left) h j l u =
    ⊎_elim (λ t. subst (λ (k : ℕ). Known (kind_at rows k)) (eqb→eq i j t) h.0)
    (λ n. let d = neqb→neq i j n in kinds_at rows (suc i) left h.1 j (omega arith) (omega arith)) (tell (eqb i j))

-- Points

numbered-here : (p : ℕ) → Numbered p → Here p
numbered-here p (of_antecedent l h) = here-antecedent l h
numbered-here p (of_consequent l h n) = here-consequent l h n

rows-placed : (rows : List Row) → Pattern rows → All Numbered (points rows) → All Placed rows
rows-placed rows P N = all_map (λ k known. all-elem Here (introduced k ++ needs k) (λ m t. here m (known m t))) rows P.known
  where
    here : (m : ℕ) → ((m ≡ 0 → ⊥) → (m ≡ 99 → ⊥) → T (elem m (points rows))) → Here m
    here m h =
        ⊎_elim (λ t. start (eqb→eq m 0 t))
        (λ n. ⊎_elim (λ t. close (eqb→eq m 99 t)) (λ k. numbered-here m (elem_at Numbered m (points rows) (h (neqb→neq m 0 n) (neqb→neq m 99 k)) N)) (tell (eqb m 99)))
        (tell (eqb m 0))

-- Of an antiscenario of a sheet's text
module _ (s : List ℕ) (number : ℕ) (rows : List ℕ) (k n : ℕ) (H : TextHeld s number rows k n) where
  pub known_kinds : KnownKinds rows n
  known_kinds j h =
      kinds_at rows 0 n (subst (All (λ (l : Line). Known l.kind)) (sym H.rows_held.lines_are) (written_kinds (written (sheet_in s) number))) j (omega arith) (omega arith)

  pub all_placed : All Placed (rows_of rows n)
  all_placed =
      let S = accepted-sheet s H.accepted in
      rows-placed (rows_of rows n) H.rows_held.pattern
      (subst (λ (ks : List Row). All Numbered (points ks)) (sym H.rows_held.rows_are)
      (antiscenario-numbers (sheet_in s) S.read number H.low (omega (arith, H.high, S.count))))
