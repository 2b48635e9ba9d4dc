-- What reading leaves in memory: as many rows as the first line says.
-- Assumes nothing.
use mathlib.Core.Path.{◌≡◌, refl, ap}
use mathlib.Core.Bool.{Bool, true, false, cond, not}
use mathlib.Core.List.{List}
use Prim.Native.Nat.{ℕ, zero, suc, ◌+◌, ◌*◌, ◌≤◌}
use native.Mathlib.Omega.{arith}
use lib.ListN.{length, get_or, drop}
use lib.Dec.{eqb, ltb}
use borrow.Author.Tests.{eqb-true, eqb-false, ltb-false, not-false}
use Rattle.columns.specs.Number.{field_at}
use Rattle.std.specs.Prelude.{Option, Some, None}
use Rattle.row.specs.declared.Line.{Line}
use Rattle.sheet.specs.Reading.{Head}
use Rattle.rules.specs.declared.Stand.{Stand}
use Rattle.row.specs.Row.{line_of}
use Rattle.rules.specs.Rules.{refusal}
use Rattle.sheet.specs.Reading.{headed, on_head, head_of, Taken, stop, more, on_line, after, row_bytes, rows_from}

-- The first line

pub record Good (s : List ℕ) (h : Head) : Type 0 where
  pub k : h.k ≤ 6
  pub rows : h.rows ≤ 176
  pub length : length s ≡ 7 + 35 * h.rows
  pub first : field_at s 3 ≡ Some h.k
  pub second : field_at (drop 3 s) 3 ≡ Some h.rows
  pub end : get_or s 6 0 ≡ 10

Sure : List ℕ → Head → Type 0
Sure s h = h.refusal ≡ 0 → Good s h

module _ (s : List ℕ) where
  sure_bad : (n : ℕ) → Sure s (headed (suc n) 0 0)
  unfolding Sure
  sure_bad n e = absurd (omega arith)

  sure_if : (b : Bool) (x y : Head) → (b ≡ true → Sure s x) → (b ≡ false → Sure s y) → Sure s (cond b x y)
  sure_if true x y f g = f refl
  sure_if false x y f g = g refl

  sure-on : (f : Option ℕ) (g : ℕ → Head) → ((v : ℕ) → f ≡ Some v → Sure s (g v)) → Sure s (on_head f g)
  sure-on (Some v) g h = h v refl
  sure-on None g h = sure_bad 0

  sure-head : Sure s (head_of s)
  unfolding head_of Sure
  sure-head =
      sure_if (ltb (length s) 7) _ _ (λ e. sure_bad 0) (λ e.
      sure-on (field_at s 3) _ (λ k x.
      sure-on (field_at (drop 3 s) 3) _ (λ rows y.
      sure_if (not (eqb (get_or s 6 0) 10)) _ _ (λ e. sure_bad 0) (λ z.
      sure_if (ltb 6 k) _ _ (λ e. sure_bad 1) (λ a.
      sure_if (ltb 176 rows) _ _ (λ e. sure_bad 1) (λ b.
      sure_if (not (eqb (length s) (7 + 35 * rows))) _ _ (λ e. sure_bad 2) (λ c e.
      record {
        k = ltb-false 6 k a;
        rows = ltb-false 176 rows b;
        length = eqb-true (length s) (7 + 35 * rows) (not-false (eqb (length s) (7 + 35 * rows)) c);
        first = x;
        second = y;
        end = eqb-true (get_or s 6 0) 10 (not-false (eqb (get_or s 6 0) 10) z);
      })))))))

  pub head_good : (head_of s).refusal ≡ 0 → Good s (head_of s)
  unfolding Sure
  head_good e = sure-head e

-- All rows are there where none is refused.

Full : ℕ → Taken → Type 0
Full n t = t.number ≡ 0 → length t.lines ≡ n

module _ (n : ℕ) where
  full-stop : (r m : ℕ) → (r ≡ 0 → ⊥) → Full n (stop r m)
  unfolding Full
  full-stop r m ne e = absurd (ne e)

  full_if : (b : Bool) (x y : Taken) → (b ≡ true → Full n x) → (b ≡ false → Full n y) → Full n (cond b x y)
  full_if true x y f g = f refl
  full_if false x y f g = g refl

  full-on : (p : Option Line) (x : Taken) (g : Line → Taken) → Full n x → ((l : Line) → Full n (g l)) → Full n (on_line p x g)
  full-on (Some l) x g h f = f l
  full-on None x g h f = h

full-more : (n : ℕ) (l : Line) (t : Taken) → Full n t → Full (suc n) (more l t)
unfolding Full
full-more n l t f e = ap suc (f e)

module _ (k : ℕ) (s : List ℕ) where
  full : (left i : ℕ) (at : Stand) → Full left (rows_from k s i left at)
  unfolding rows_from Full
  full zero i at = λ e. refl
  full (suc left) i at =
      full-on (suc left) (line_of (row_bytes s i)) _ _ (full-stop (suc left) 4 (suc i) (λ e. omega arith)) (λ l.
      full_if (suc left) (eqb (refusal k at l) 0) _ _ (λ e. full-more left l (rows_from k s (suc i) left (after at l)) (full left (suc i) (after at l)))
      (λ e. full-stop (suc left) (refusal k at l) (suc i) (eqb-false (refusal k at l) 0 e)))

  pub rows-full : (left i : ℕ) (at : Stand) → (rows_from k s i left at).number ≡ 0 → length (rows_from k s i left at).lines ≡ left
  unfolding Full
  rows-full left i at e = full left i at e
