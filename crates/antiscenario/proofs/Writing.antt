-- The answers of writing, case by case.
-- Assumes nothing.
use mathlib.Core.Path.{◌≡◌, refl, sym, ap, ap₂, ◌∙◌}
use mathlib.Core.Bool.{Bool, true, false, cond, not, ◌&&◌}
use mathlib.Core.List.{List, ◌++◌}
use Prim.Native.Nat.{ℕ, ◌+◌, ◌*◌, ◌≤◌, ◌<◌}
use native.Mathlib.Omega.{arith}
use lib.ListN.{length, drop}
use lib.Dec.{leb, eqb}
use borrow.Author.Tests.{eq-eqb, le-leb, lt-leb}
use Rattle.row.specs.Memory.{lines_in}
use Rattle.sheet.specs.Reading.{answer}
use Rattle.sheet.specs.Text.{sheet_text}
use Rattle.sheet.proofs.Texts.{sheet_text-length}
use Rattle.antiscenario.specs.Write.{Written}
use Rattle.antiscenario.specs.Numbers.{no_such_number, text_refusal}
use Rattle.antiscenario.specs.Held.{TextHeld}
use Rattle.antiscenario.specs.Write.{no_text, written_lines, written_text, write_of, after_write}
use Rattle.text.proofs.Ink.{lines-length}

-- of a sheet's text s and a number, of which loading gave the refusal q, and a lent buffer
module _ (s : List ℕ) (number q : ℕ) (e : q ≡ text_refusal s number) (buf : List ℕ) where
  pub not_written : (q ≡ 0 → ⊥) → (no_text q ≡ write_of s number (length buf)) × (buf ≡ after_write s number buf)
  unfolding write_of after_write text_refusal
  not_written n = go (eqb (answer s).refusal 0) (leb 1 number && leb number (answer s).count) _ _ refl e
    where
      go : (a b : Bool) (w : Written) (t : List ℕ) → eqb (answer s).refusal 0 ≡ a → q ≡ cond (not a) (answer s).refusal (cond (not b) no_such_number 0)
          → (no_text q ≡ cond a (cond b w (no_text no_such_number)) (no_text (answer s).refusal)) × (buf ≡ cond (eqb (cond a (cond b w (no_text no_such_number)) (no_text (answer s).refusal)).refusal 0) t buf)
      go true true w t f g = absurd (n g)
      go true false w t f g = (ap no_text g, refl)
      go false b w t f g = (ap no_text g, sym (ap (λ (c : Bool). cond c t buf) f))

  -- and of the antiscenario's rows in memory
  module _ (out : List ℕ) (k n : ℕ) (H : TextHeld s number out k n) where
    taken : leb 1 number && leb number (answer s).count ≡ true
    taken = simp (le-leb 1 number H.low, le-leb number (answer s).count H.high)

    text-is : sheet_text k (lines_in out 0 n) ≡ written_text s number
    unfolding written_text written_lines
    text-is = ap₂ sheet_text H.consequents H.rows_held.lines_are

    size_is : 7 + 35 * n ≡ length (written_text s number)
    size_is = ap (λ (c : ℕ). 7 + 35 * c) (sym (lines-length out n 0)) ∙ sym (sheet_text-length k (lines_in out 0 n)) ∙ ap length text-is

    pub too_short : length buf < 7 + 35 * n → (no_text 32 ≡ write_of s number (length buf)) × (buf ≡ after_write s number buf)
    unfolding write_of after_write
    too_short h = simp (eq-eqb (answer s).refusal 0 H.accepted, taken, lt-leb (length (written_text s number)) (length buf) (omega (arith, size_is))) (refl, refl)

    pub done : (c : List ℕ) → 7 + 35 * n ≤ length buf → c ≡ sheet_text k (lines_in out 0 n) ++ drop (7 + 35 * n) buf
        → (record { refusal = 0; length = 7 + 35 * n } ≡ write_of s number (length buf)) × (c ≡ after_write s number buf)
    unfolding write_of after_write
    done c h p =
        simp (eq-eqb (answer s).refusal 0 H.accepted, taken, le-leb (length (written_text s number)) (length buf) (omega (arith, size_is)))
        (ap (λ (x : ℕ). record { refusal = 0; length = x }) size_is, p ∙ ap₂ (λ (x : List ℕ) (y : ℕ). x ++ drop y buf) text-is size_is)
