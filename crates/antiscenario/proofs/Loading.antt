-- An antiscenario loaded from a sheet's text: by how reading and the number end.
-- Assumes nothing.
use mathlib.Core.Path.{◌≡◌, sym, ap, ◌∙◌}
use mathlib.Core.Bool.{Bool, true, false, not, ◌&&◌, cond}
use mathlib.Core.List.{List}
use Prim.Native.Nat.{ℕ, ◌≤◌}
use native.Mathlib.Omega.{arith}
use lib.Dec.{T, leb, leb→le}
use borrow.Author.Tests.{eq-eqb, ne_eqb}
use Rattle.scenario.proofs.Base.{both}
use Rattle.sheet.specs.Reading.{Answer}
use Rattle.sheet.specs.Reading.{sheet_in, answer}
use Rattle.antiscenario.specs.Numbers.{no_such_number, number_refusal, text_refusal}
use Rattle.antiscenario.specs.Held.{AntiscenarioHeld, TextHeld}

-- a number that is not refused is in 1 to N
taken : (count number : ℕ) → number_refusal count number ≡ 0 → (1 ≤ number) × (number ≤ count)
taken count number e = let b = both (leb 1 number) (leb number count) (go (leb 1 number && leb number count) e) in (leb→le 1 number b.0, leb→le number count b.1)
  where
    go : (b : Bool) → cond (not b) no_such_number 0 ≡ 0 → T b
    go true e = tt
    go false e = absurd (omega arith)

-- reading gave the answer r
module _ (s : List ℕ) (number : ℕ) (r : Answer) (e : r ≡ answer s) where
  pub text-refused : (r.refusal ≡ 0 → ⊥) → r.refusal ≡ text_refusal s number
  unfolding text_refusal
  text-refused n = rw (sym e) (simp (ne_eqb r.refusal 0 n))

  module _ (z : r.refusal ≡ 0) (q : ℕ) (eq : q ≡ number_refusal r.count number) where
    pub number_of_text : q ≡ text_refusal s number
    unfolding text_refusal
    number_of_text = rw (sym e) (simp (eq-eqb r.refusal 0 z) eq)

    pub text-held : (out : List ℕ) (n : ℕ) → r.k ≤ 6 → q ≡ 0 → AntiscenarioHeld (sheet_in s) number out n → TextHeld s number out r.k n
    text-held out n few none A =
        let t = taken (answer s).count number (sym (eq ∙ ap (λ (a : Answer). number_refusal a.count number) e) ∙ none) in
        record {
          accepted = sym (ap (λ (a : Answer). a.refusal) e) ∙ z;
          low = t.0;
          high = t.1;
          consequents = ap (λ (a : Answer). a.k) e;
          few_consequents = few;
          rows_held = A;
        }
