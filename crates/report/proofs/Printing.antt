-- The lines that the program prints, written field by field; and that they fit, each number its columns and all of them the text.
-- Carried by `inked-more` (one text after another), and by `Few`, a bound of all that a check names.
-- Assumes nothing.
use mathlib.Core.Path.{◌≡◌, refl, sym, ap, ap₂, ◌∙◌, subst}
use mathlib.Core.Bool.{Bool, true, false}
use mathlib.Core.List.{List, [], ◌∷◌, ◌++◌, append-nil}
use Prim.Native.Nat.{ℕ, zero, suc, ◌+◌, ◌-◌, ◌^◌, ◌≤◌, ◌<◌}
use native.Mathlib.Nat.{sub-zero}
use native.Mathlib.Numerals.{add-one}
use native.Mathlib.Omega.{arith}
use lib.ListN.{length, get_or, take, drop, replicate, set, length-append, drop_of_length-le}
use lib.Seq.{drop-cons}
use Rattle.scenario.specs.Reading.{All}
use Rattle.scenario.proofs.Base.{all_map, all_get_d}
use Rattle.columns.specs.Spell.{spell, fits_in}
use Rattle.columns.proofs.Fits.{parts-fit}
use Rattle.columns.proofs.Spelling.{spell-length}
use Rattle.columns.specs.Ink.{inked}
use Rattle.columns.proofs.Inked.{after, inked-length, number-inked, byte-inked}
use Rattle.verdict.specs.Check.{Checked}
use Rattle.report.specs.declared.Report.{Report}
use Rattle.verdict.specs.Check.{front, placement_in, rows_in, check_of}
use Rattle.report.specs.Printing.{InColumns, line_text, verdict_number, report_text, report_of}
use Rattle.std.specs.Int.{from_bool}
use Rattle.verdict.proofs.Few.{Few, few}

-- One line

module _ (width : ℕ) (vs : List ℕ) (i : ℕ) where
  pub field_fits : i < length vs → InColumns width vs → fits_in width (get_or vs i 0) ≡ true
  field_fits h A = all_get_d (λ (v : ℕ). fits_in width v ≡ true) 0 vs A i h

  pub field_next : i < length vs → line_text width (drop i vs) ≡ spell width (get_or vs i 0) ++ line_text width (drop (i + 1) vs)
  unfolding line_text
  field_next h = rw (drop-cons vs i 0 h, add-one i)

  pub field-size : i < length vs → length (line_text width (drop i vs)) ≡ width + length (line_text width (drop (i + 1) vs))
  field-size h =
      ap length (field_next h)
      ∙ length-append (spell width (get_or vs i 0)) (line_text width (drop (i + 1) vs))
      ∙ ap (λ (n : ℕ). n + length (line_text width (drop (i + 1) vs))) (spell-length width (get_or vs i 0))

  pub field-on : (at : ℕ) (b c : List ℕ) → i < length vs → at ≤ length b → c ≡ take at b ++ (spell width (get_or vs i 0) ++ drop (at + width) b)
      → inked (at + width) (line_text width (drop (i + 1) vs)) c ≡ inked at (line_text width (drop i vs)) b
  field-on at b c h r e =
      after at width (at + width) (spell width (get_or vs i 0)) (line_text width (drop (i + 1) vs)) b c _ (spell-length width (get_or vs i 0)) refl r (e ∙ number-inked at width (get_or vs i 0) b) refl
      ∙ ap (λ (z : List ℕ). inked at z b) (sym (field_next h))

  pub line-end : length vs ≤ i → line_text width (drop i vs) ≡ 10 ∷ []
  unfolding line_text
  line-end h = let e : length vs ≤ i = h in rw (drop_of_length-le vs {i = i} e)

  pub end_on : (at : ℕ) (b : List ℕ) → length vs ≤ i → at < length b → set b at 10 ≡ inked at (line_text width (drop i vs)) b
  end_on at b h r = byte-inked b at 10 r ∙ ap (λ (z : List ℕ). inked at z b) (sym (line-end h))

  pub end-size : length vs ≤ i → length (line_text width (drop i vs)) ≡ 1
  end-size h = ap length (line-end h)

-- How long lines are

room : (width fields : ℕ) → ℕ
room width zero = 1
room width (suc k) = width + room width k

line-short : (width k : ℕ) (vs : List ℕ) → length vs ≤ k → length (line_text width vs) ≤ room width k
unfolding line_text room
line-short width zero [] h = omega arith
line-short width (suc k) [] h = omega (arith, line-short width k [] (omega arith))
line-short width zero (v ∷ vs) h = absurd (omega arith)
line-short width (suc k) (v ∷ vs) h =
    omega (arith, length-append (spell width v) (line_text width vs), spell-length width v, line-short width k vs (omega arith))

take_short : (n : ℕ) (l : List ℕ) → length (take n l) ≤ n
take_short zero l = omega arith
take_short (suc n) [] = omega arith
take_short (suc n) (x ∷ l) = omega (arith, take_short n l)

-- what is lent of an array, as a list
pub lent : (n : ℕ) (l : List ℕ) → take (n - 0) l ≡ take n l
lent n l = rw sub-zero

pub within : (n room : ℕ) (l : List ℕ) → n ≤ room → length l ≡ room → n ≤ length l
within n room l h e = omega arith

-- numbers up to a bound that fits
up_to_in_columns : (w most : ℕ) (vs : List ℕ) → 1 ≤ w → most < 10 ^ w → All (λ (x : ℕ). x ≤ most) vs → InColumns w vs
up_to_in_columns w most vs h k A = all_map (λ v b. parts-fit w v h (omega (arith, b, k))) vs A

-- the verdict's number, from the flag
pub verdict_of : (b : Bool) → from_bool b ≡ verdict_number b
verdict_of true = refl
verdict_of false = refl

verdict_low : (b : Bool) → verdict_number b ≤ 1
verdict_low true = omega arith
verdict_low false = omega arith

-- The whole text, line by line: c is what the check answers, q the verdict's number

abbrev report : List ℕ → ℕ → Report
report text length = record { text = text; length = length }

module _ (s l : List ℕ) (c : Checked) (e : c ≡ check_of s l) where
  abbrev bounds : Few c
  bounds = few s l c e

  module _ (q : ℕ) (eq : q ≡ verdict_number c.violated) where
    abbrev pub first : List ℕ
    first = c.refusal ∷ q ∷ []

    first_short : length (line_text 3 first) ≤ 7
    unfolding room
    first_short = line-short 3 2 first (omega arith)

    positions-short : length (line_text 5 (placement_in c)) ≤ 21
    unfolding room
    positions-short = line-short 5 4 (placement_in c) (omega (arith, bounds.points, take_short c.points c.positions))

    rows_short : length (line_text 4 (rows_in c)) ≤ 25
    unfolding room
    rows_short = line-short 4 6 (rows_in c) (omega (arith, bounds.consequents, take_short c.consequents c.rows))

    -- a line fits: each number its columns, and the line what is left of the text
    pub first_fits : InColumns 3 first × (0 + length (line_text 3 first) ≤ 64)
    first_fits = (up_to_in_columns 3 27 first (omega arith) (omega arith) (bounds.refusal, (omega (arith, eq, verdict_low c.violated), tt)), omega (arith, first_short))

    text_made : (t : List ℕ) (n : ℕ) (u : List ℕ) → report_text c ≡ u → n ≡ length u → t ≡ inked 0 u (replicate 64 0) → report t n ≡ report_of s l
    unfolding report_of front inked
    text_made t n u eu en et =
        let z : 0 + length u ≡ length u = omega arith in
        rw (sym e, eu, en, et) (ap (λ (k : ℕ). report (u ++ drop k (replicate 64 0)) (length u)) z)

    text-one : c.violated ≡ false → report_text c ≡ line_text 3 first
    unfolding report_text
    text-one v = rw (eq, v) (append-nil (line_text 3 (c.refusal ∷ 0 ∷ [])))

    text-three : c.violated ≡ true → report_text c ≡ line_text 3 first ++ (line_text 5 (placement_in c) ++ line_text 4 (rows_in c))
    unfolding report_text
    text-three v = rw (eq, v)

    -- holds, or refused: one line
    pub one_line : c.violated ≡ false → (t : List ℕ) (n : ℕ) → n ≡ 0 + length (line_text 3 first) → t ≡ inked 0 (line_text 3 first) (replicate 64 0) → report t n ≡ report_of s l
    one_line v t n en et = text_made t n (line_text 3 first) (text-one v) (en ∙ omega arith) et

    pub one-fits : (n : ℕ) → n ≡ 0 + length (line_text 3 first) → n ≤ 64
    one-fits n en = omega (arith, en, first_short)

    -- violated: three lines, of the positions P and the rows R
    module _ (P R : List ℕ) (e_p : P ≡ placement_in c) (e_r : R ≡ rows_in c) (n₁ : ℕ) (a₁ : n₁ ≡ 0 + length (line_text 3 first)) where
      second_short : length (line_text 5 P) ≤ 21
      second_short = subst (λ (z : List ℕ). length (line_text 5 z) ≤ 21) (sym e_p) positions-short

      third-short : length (line_text 4 R) ≤ 25
      third-short = subst (λ (z : List ℕ). length (line_text 4 z) ≤ 25) (sym e_r) rows_short

      pub second_fits : InColumns 5 P × (n₁ + length (line_text 5 P) ≤ 64)
      second_fits = (subst (InColumns 5) (sym e_p) (up_to_in_columns 5 4000 (placement_in c) (omega arith) (omega arith) bounds.positions), omega (arith, a₁, first_short, second_short))

      module _ (n₂ : ℕ) (a₂ : n₂ ≡ n₁ + length (line_text 5 P)) where
        pub third-fits : InColumns 4 R × (n₂ + length (line_text 4 R) ≤ 64)
        third-fits = (subst (InColumns 4) (sym e_r) (up_to_in_columns 4 176 (rows_in c) (omega arith) (omega arith) bounds.rows), omega (arith, a₁, a₂, first_short, second_short, third-short))

        module _ (n₃ : ℕ) (a₃ : n₃ ≡ n₂ + length (line_text 4 R)) where
          pub three-fits : n₃ ≤ 64
          three-fits = omega (arith, a₃, third-fits.1)

          pub three-lines : c.violated ≡ true → (t₁ t₂ t₃ : List ℕ)
              → t₁ ≡ inked 0 (line_text 3 first) (replicate 64 0) → t₂ ≡ inked n₁ (line_text 5 P) t₁ → t₃ ≡ inked n₂ (line_text 4 R) t₂ → report t₃ n₃ ≡ report_of s l
          three-lines v t₁ t₂ t₃ b₁ b₂ b₃ =
              let A = line_text 3 first in
              let B = line_text 5 P in
              let C = line_text 4 R in
              let z : length {A = ℕ} (replicate 64 0) ≡ 64 = refl in
              let k₁ : length t₁ ≡ 64 = ap length b₁ ∙ inked-length 0 A (replicate 64 0) (omega (arith, first_short)) in
              text_made t₃ n₃ (A ++ (B ++ C)) (text-three v ∙ ap₂ (λ (x y : List ℕ). A ++ (line_text 5 x ++ line_text 4 y)) (sym e_p) (sym e_r))
              (omega (arith, a₁, a₂, a₃, length-append A (B ++ C), length-append B C))
              (after 0 (length A) n₁ A (B ++ C) (replicate 64 0) t₁ t₃ refl (sym a₁) (omega arith) b₁
              (after n₁ (length B) n₂ B C t₁ t₂ t₃ refl (sym a₂) (omega (arith, first_short, k₁, a₁)) b₂ b₃))
