-- Rows one after another: what is left to read from a row on is the whole.
-- Assumes nothing.
use mathlib.Core.Path.{◌≡◌, sym, ap, ◌∙◌}
use mathlib.Core.Bool.{Bool, true, false, cond, ◌&&◌}
use mathlib.Core.List.{List, ◌++◌, append_assoc}
use Prim.Native.Nat.{ℕ, suc, ◌+◌, ◌*◌, ◌-◌, ◌≤◌, ◌<◌}
use native.Mathlib.Nat.{sub-zero}
use native.Mathlib.Numerals.{add-one}
use native.Mathlib.Omega.{arith}
use lib.ListN.{length, take, drop, length-take, length-drop, length-append}
use lib.Seq.{drop-drop, length-take-le, take-append_seam, drop-append_seam}
use Rattle.std.proofs.lemmas.List.{take-append-drop}
use lib.Dec.{eqb, leb}
use borrow.Author.Tests.{ne_eqb}
use Rattle.row.specs.declared.Line.{Line}
use Rattle.rules.specs.declared.Stand.{Stand}
use Rattle.std.specs.Prelude.{Some, None}
use Rattle.rules.specs.Rules.{stand, start, enter, advance, refusal}
use Rattle.row.specs.Row.{line_of}
use Rattle.sheet.specs.Reading.{Taken, stop, more, on_line, after, row_bytes, rows_from}
use Rattle.row.specs.Memory.{put, lay}

-- Where a reading stands after i rows, no number is above i.
pub record Within (at : Stand) (i : ℕ) : Type 0 where
  pub rows : at.rows ≤ i
  pub antecedent : at.antecedent ≤ i
  pub own : at.own ≤ i

within_if : (b : Bool) (x y : Stand) (i : ℕ) → Within x i → Within y i → Within (cond b x y) i
within_if true x y i h k = h
within_if false x y i h k = k

pub within-start : Within start 0
within-start = record { rows = omega arith; antecedent = omega arith; own = omega arith }

module _ (at : Stand) (i : ℕ) (w : Within at i) where
  pub within-enter : (s : ℕ) → Within (enter at s) i
  unfolding enter
  within-enter s = within_if (eqb at.section s) at (stand s 0 at.antecedent 0) i w (record { rows = omega arith; antecedent = w.antecedent; own = omega arith })

  pub within-advance : (kind : ℕ) → Within (advance at kind) (i + 1)
  unfolding advance
  within-advance kind =
      let up = stand at.section (at.rows + 1) in
      within_if (eqb kind 1) (up (at.antecedent + 1) at.own) (cond (leb 2 kind && leb kind 5) (up at.antecedent (at.own + 1)) (up at.antecedent at.own)) (i + 1)
      (record { rows = omega arith; antecedent = omega arith; own = omega arith })
      (within_if (leb 2 kind && leb kind 5) (up at.antecedent (at.own + 1)) (up at.antecedent at.own) (i + 1)
      (record { rows = omega arith; antecedent = omega arith; own = omega arith }) (record { rows = omega arith; antecedent = omega arith; own = omega arith }))

pub within-after : (at : Stand) (i : ℕ) → Within at i → (l : Line) → Within (after at l) (i + 1)
unfolding after
within-after at i w l = within-advance (enter at l.section) i (within-enter at i w l.section) l.kind

module _ (k : ℕ) (s : List ℕ) (i n : ℕ) (at : Stand) (h : i < n) where
  step : rows_from k s i (n - i) at
      ≡ on_line (line_of (row_bytes s i)) (stop 4 (i + 1)) (λ l. cond (eqb (refusal k at l) 0) (more l (rows_from k s (i + 1) (n - (i + 1)) (after at l))) (stop (refusal k at l) (i + 1)))
  unfolding rows_from
  step = let e : n - i ≡ suc (n - (i + 1)) = omega arith in rw (e, add-one i)

  pub step_bad : line_of (row_bytes s i) ≡ None → rows_from k s i (n - i) at ≡ stop 4 (i + 1)
  step_bad e = step ∙ rw e

  pub step-refused : (l : Line) (r : ℕ) → line_of (row_bytes s i) ≡ Some l → r ≡ refusal k at l → (r ≡ 0 → ⊥) → rows_from k s i (n - i) at ≡ stop r (i + 1)
  step-refused l r e q ne = step ∙ rw e (rw (sym q) (simp (ne_eqb _ _ ne)))

  pub step-on : (l : Line) → line_of (row_bytes s i) ≡ Some l → 0 ≡ refusal k at l → rows_from k s i (n - i) at ≡ more l (rows_from k s (i + 1) (n - (i + 1)) (after at l))
  step-on l e q = step ∙ rw e (rw (sym q))

-- What is left from row i + 1 on, with the memory so far, is the whole.
pub record Left (k : ℕ) (s : List ℕ) (n i : ℕ) (at : Stand) (rows rows₀ : List ℕ) : Type 0 where
  pub number : (rows_from k s i (n - i) at).number ≡ (rows_from k s 0 n start).number
  pub row : (rows_from k s i (n - i) at).row ≡ (rows_from k s 0 n start).row
  pub memory : lay i (rows_from k s i (n - i) at).lines rows ≡ lay 0 (rows_from k s 0 n start).lines rows₀

-- The answers at an end: the refusal, its row and the memory.
abbrev pub Ends : (k : ℕ) (s : List ℕ) (n r m : ℕ) (rows rows₀ : List ℕ) → Type 0
Ends k s n r m rows rows₀ =
    ((r ≡ (rows_from k s 0 n start).number) × (m ≡ (rows_from k s 0 n start).row)) × (rows ≡ lay 0 (rows_from k s 0 n start).lines rows₀)

module _ (k : ℕ) (s : List ℕ) (n : ℕ) (rows₀ : List ℕ) where
  pub left-start : Left k s n 0 start rows₀ rows₀
  left-start = record { number = rw sub-zero; row = rw sub-zero; memory = rw sub-zero }

  module _ (i : ℕ) (at : Stand) (rows : List ℕ) (L : Left k s n i at rows rows₀) where
    pub left-on : (l : Line) → i < n → line_of (row_bytes s i) ≡ Some l → 0 ≡ refusal k at l → Left k s n (i + 1) (after at l) (put i l rows) rows₀
    unfolding lay
    left-on l h e q =
        let o = step-on k s i n at h l e q in
        record {
          number = sym (ap (λ (t : Taken). t.number) o) ∙ L.number;
          row = sym (ap (λ (t : Taken). t.row) o) ∙ L.row;
          memory = rw (add-one i) (sym (ap (λ (t : Taken). lay i t.lines rows) o ∙ rw (add-one i)) ∙ L.memory);
        }

    pub left-stop : (r m : ℕ) → rows_from k s i (n - i) at ≡ stop r m → Ends k s n r m rows rows₀
    unfolding lay
    left-stop r m o = (
      (sym (ap (λ (t : Taken). t.number) o) ∙ L.number, sym (ap (λ (t : Taken). t.row) o) ∙ L.row),
      sym (ap (λ (t : Taken). lay i t.lines rows) o) ∙ L.memory,
    )

    pub left-none : n ≤ i → Ends k s n 0 0 rows rows₀
    unfolding rows_from
    left-none h = let e : n - i ≡ 0 = omega arith in left-stop 0 0 (rw e)

-- The bytes of the rows from row i + 1 on, of n rows: behind them comes what follows the last.
pub record Rest (s : List ℕ) (n i : ℕ) (rest : List ℕ) : Type 0 where
  pub text : drop (7 + 35 * i) s ≡ rest ++ drop (7 + 35 * n) s
  pub long : length rest + 35 * i ≡ 35 * n

pub rest_first : (s : List ℕ) (n : ℕ) → 7 + 35 * n ≤ length s → (m : ℕ) → m ≡ 35 * n → Rest s n 0 (take m (drop 7 s))
rest_first s n h m e =
    rw e (record {
      text = sym (take-append-drop (35 * n) (drop 7 s)) ∙ ap (λ (t : List ℕ). take (35 * n) (drop 7 s) ++ t) (drop-drop (35 * n) 7 s);
      long = omega (arith, length-take-le (35 * n) (drop 7 s) (omega (arith, length-drop 7 s)));
    })

pub rest_none : (s : List ℕ) (n i : ℕ) (rest : List ℕ) → Rest s n i rest → length rest < 35 → n ≤ i
rest_none s n i rest R h = omega (arith, R.long)

-- a row more: it stands in front of the rest
module _ (s : List ℕ) (n i : ℕ) (rest bytes behind : List ℕ) (R : Rest s n i rest) (cut : rest ≡ bytes ++ behind) (whole : length bytes ≡ 35) where
  cut_text : drop (7 + 35 * i) s ≡ bytes ++ (behind ++ drop (7 + 35 * n) s)
  cut_text = R.text ∙ ap (λ (t : List ℕ). t ++ drop (7 + 35 * n) s) cut ∙ append_assoc bytes behind (drop (7 + 35 * n) s)

  lengths : length rest ≡ 35 + length behind
  lengths = omega (arith, ap length cut, length-append bytes behind, whole)

  pub row-left : i < n
  row-left = omega (arith, R.long, lengths)

  pub row-there : bytes ≡ row_bytes s i
  unfolding row_bytes
  row-there =
      let seam = take-append_seam bytes (behind ++ drop (7 + 35 * n) s) in
      sym (ap (take 35) cut_text ∙ ap (λ (k : ℕ). take k (bytes ++ (behind ++ drop (7 + 35 * n) s))) (sym whole) ∙ seam)

  pub rest_next : Rest s n (i + 1) behind
  rest_next =
      let ys = behind ++ drop (7 + 35 * n) s in
      let k : 7 + 35 * (i + 1) ≡ 7 + 35 * i + 35 = omega arith in
      record {
        text = ap (λ (j : ℕ). drop j s) k ∙ sym (drop-drop 35 (7 + 35 * i) s) ∙ ap (drop 35) cut_text ∙ ap (λ (j : ℕ). drop j (bytes ++ ys)) (sym whole) ∙ drop-append_seam bytes ys;
        long = omega (arith, R.long, lengths);
      }

pub row-length : (s : List ℕ) (i n : ℕ) → i < n → 7 + 35 * n ≤ length s → length (row_bytes s i) ≡ 35
unfolding row_bytes
row-length s i n h l = simp (length-take, length-drop) (omega arith)
