-- Fields one after another, at any widths: the rest of a text past its fields, and what a field that is read is.
-- Assumes nothing.
use mathlib.Core.Path.{◌≡◌, refl, sym, ap, ◌∙◌}
use mathlib.Core.Bool.{Bool, true, false, cond, ◌&&◌}
use mathlib.Core.List.{List, ◌++◌}
use Prim.Native.Nat.{ℕ, ◌+◌, ◌≤◌}
use native.Mathlib.Omega.{arith}
use lib.ListN.{length, take, drop, take-append-drop}
use lib.Seq.{drop-append_seam, drop-drop}
use lib.Dec.{leb}
use borrow.Author.Tests.{leb-true}
use Rattle.columns.specs.Number.{after_spaces, all_digits, decimal, well_led, scan, numeral, field_at}
use Rattle.columns.specs.Spell.{spell}
use Rattle.std.specs.Prelude.{Some, None}
use Rattle.columns.proofs.Padded.{bad_not}
use Rattle.columns.proofs.Spelling.{spell-length, only_spelling}

module _ (w v : ℕ) where
  spell-drop : (rest : List ℕ) → drop w (spell w v ++ rest) ≡ rest
  spell-drop rest = ap (λ (n : ℕ). drop n (spell w v ++ rest)) (sym (spell-length w v)) ∙ drop-append_seam (spell w v) rest

  -- past a field
  pub past : (m : ℕ) (rest : List ℕ) → drop (w + m) (spell w v ++ rest) ≡ drop m rest
  past m rest = sym (drop-drop m w (spell w v ++ rest)) ∙ ap (drop m) (spell-drop rest)

  -- a field that is read is its spelling, and the rest follows
  pub peel : (t : List ℕ) → field_at t w ≡ Some v → t ≡ spell w v ++ drop w t
  peel t e = sym (take-append-drop w t) ∙ ap (λ (x : List ℕ). x ++ drop w t) (only_spelling t w v e).1

-- a field that is read is at most 4,294,967,295
pub value_fits : (s : List ℕ) (w v : ℕ) → field_at s w ≡ Some v → v ≤ 4294967295
unfolding field_at numeral scan
value_fits s w v e = go (leb w (length s)) (well_led (after_spaces (take w s))) (all_digits (after_spaces (take w s))) (leb (decimal 0 (after_spaces (take w s))) 4294967295) refl e
  where
    go : (a b c d : Bool) → leb (decimal 0 (after_spaces (take w s))) 4294967295 ≡ d
        → cond a (cond b (cond (c && d) (Some (decimal 0 (after_spaces (take w s)))) None) None) None ≡ Some v → v ≤ 4294967295
    go true true true true x e =
        let h = leb-true (decimal 0 (after_spaces (take w s))) 4294967295 x in
        let z : decimal 0 (after_spaces (take w s)) ≡ v = cc in
        omega arith
    go true true true false x e = absurd (bad_not v e)
    go true true false d x e = absurd (bad_not v e)
    go true false c d x e = absurd (bad_not v e)
    go false b c d x e = absurd (bad_not v e)
