-- The denials of a consequent are the paper's as a list: which, how many and in which order. `Closure` says of each what it is.
-- Assumes nothing.
use mathlib.Core.Path.{◌≡◌, refl, sym, ap, ap₂, ◌∙◌, subst}
use mathlib.Core.Logic.{◌↔◌}
use mathlib.Core.List.{List, [], ◌∷◌, ◌++◌, map, append_assoc, reverse, reverse_aux}
use Prim.Native.Nat.{ℕ, ◌+◌, ◌*◌, ◌<◌}
use lib.ListN.{length, get_or}
use Rattle.scenario.specs.Rows.{Row, needs, closure, far_end, denying_rows, denials}
use Rattle.scenario.specs.Denials.{Introduces}
use Rattle.scenario.specs.DenialsInOrder.{DenialsOf, none, more}
use Rattle.scenario.specs.Sheet.{Sheet, choices}
use Rattle.scenario.specs.Reading.{SheetRead}
use Rattle.scenario.proofs.Section.{Ready}
use Rattle.scenario.proofs.Agreement.{Base}
use Rattle.scenario.proofs.Reading.{sound}
use Rattle.scenario.proofs.Glue.{section_at_lem}
use Rattle.scenario.proofs.Closure.{picked_once, closure-is, choices-at}

reverse-last : (x : Row) (l r : List Row) → reverse_aux (l ++ (x ∷ [])) r ≡ x ∷ reverse_aux l r
reverse-last x [] r = refl
reverse-last x (y ∷ l) r = reverse-last x l (y ∷ r)

module _ (far : Row → ℕ) (r : ℕ) where
  -- there is one such list
  once : {front rows : List Row} {ds es : List (List Row)} → DenialsOf far r front rows ds → DenialsOf far r front rows es → ds ≡ es
  once none none = refl
  once (more {front} {row} a d) (more b e) =
      let q : a.brought ≡ b.brought = picked_once (Introduces front (needs row)) a.closed b.closed in
      ap₂ (λ (x y : List (List Row)). x ++ y)
      (a.are ∙ ap (λ (l : List Row). map (λ (own : List Row). l ++ own) (denying_rows (far row) r row)) q ∙ sym b.are) (once d e)

  module _ (base : ℕ → Type 0) where
    in_order : (rows front : List Row) → Ready base r [] (front ++ rows) → DenialsOf far r front rows (denials far r (reverse front) rows)
    unfolding denials
    in_order [] front f = none
    in_order (x ∷ rows) front f =
        more (record { brought = closure (reverse front) (needs x); closed = closure-is base r front x rows f; are = refl })
        (subst (λ (passed : List Row). DenialsOf far r (front ++ (x ∷ [])) rows (denials far r passed rows)) (reverse-last x front [])
        (in_order rows (front ++ (x ∷ [])) (subst (Ready base r []) (sym (append_assoc front (x ∷ []) rows)) f)))

-- For a sheet that is read: the list that consequent number i + 1 is chosen from, and no other.
pub sheet-denials-in_order : (sheet : Sheet) → SheetRead sheet → (i : ℕ) → i < length sheet.consequents → (ds : List (List Row))
    → (ds ≡ get_or (choices (far_end sheet.antecedent) 1 sheet.consequents) i [])
    ↔ DenialsOf (far_end sheet.antecedent (get_or sheet.consequents i [])) (10 * (1 + i) + 9) [] (get_or sheet.consequents i []) ds
sheet-denials-in_order sheet R i h ds =
    let c = get_or sheet.consequents i [] in
    let far = far_end sheet.antecedent c in
    let e = choices-at sheet.antecedent 1 sheet.consequents i h in
    let D = in_order far (10 * (1 + i) + 9) (Base sheet) c [] (section_at_lem (Base sheet) 1 sheet.consequents (sound sheet R).sections i h).ready in
    (λ q. subst (DenialsOf far (10 * (1 + i) + 9) [] c) (sym (q ∙ e)) D, λ d. once far (10 * (1 + i) + 9) d D ∙ sym e)
