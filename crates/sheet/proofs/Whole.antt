-- The whole reading, by how it ends. h is what the first line gave.
-- Assumes nothing.
use mathlib.Core.Path.{◌≡◌, sym, ap, ◌∙◌}
use mathlib.Core.List.{List}
use Prim.Native.Nat.{ℕ, ◌≤◌}
use native.Mathlib.Omega.{arith}
use lib.ListN.{length}
use borrow.Author.Tests.{eq-eqb, ne_eqb}
use Rattle.scenario.specs.Sheet.{count}
use Rattle.sheet.specs.Reading.{Head}
use Rattle.rules.specs.Rules.{start}
use Rattle.sheet.specs.Reading.{head_of, Taken, rows_from, sheet_of, taken, refused, accepted, closing, answer}
use Rattle.row.specs.Memory.{lay, lines_in}
use Rattle.sheet.specs.Count.{product}
use Rattle.sheet.proofs.Memory.{Good, head_good, rows-full}
use Rattle.row.proofs.Memory.{lines-back}
use Rattle.sheet.proofs.Denials.{count-product}

module _ (s : List ℕ) (h : Head) (e : h ≡ head_of s) where
  -- the first line is refused
  module _ (ne : h.refusal ≡ 0 → ⊥) where
    pub head-refused : refused h.refusal 0 ≡ answer s
    unfolding answer taken closing
    head-refused = rw (sym e) (simp (ne_eqb h.refusal 0 ne))

    pub head_memory : (m : List ℕ) → m ≡ lay 0 (taken s).lines m
    unfolding taken lay
    head_memory m = rw (sym e) (simp (ne_eqb h.refusal 0 ne))

  module _ (z : h.refusal ≡ 0) where
    pub good : Good s h
    good = rw e (head_good s (ap (λ (x : Head). x.refusal) (sym e) ∙ z))

    rows : Taken
    rows = rows_from h.k s 0 h.rows start

    rows_taken : taken s ≡ rows
    unfolding rows taken
    rows_taken = rw (sym e) (simp (eq-eqb h.refusal 0 z))

    pub memory : (m : List ℕ) → lay 0 (rows_from h.k s 0 h.rows start).lines m ≡ lay 0 (taken s).lines m
    unfolding rows
    memory m = ap (λ (t : Taken). lay 0 t.lines m) (sym rows_taken)

    answer-is : answer s ≡ closing h.k rows
    unfolding answer
    answer-is = rw (rows_taken, sym e)

    -- a row is refused
    pub row-refused : (r m : ℕ) → r ≡ (rows_from h.k s 0 h.rows start).number → m ≡ (rows_from h.k s 0 h.rows start).row → (r ≡ 0 → ⊥) → refused r m ≡ answer s
    unfolding rows closing
    row-refused r m a b ne = rw (answer-is, sym a, sym b) (simp (ne_eqb r 0 ne))

    module _ (none : 0 ≡ (rows_from h.k s 0 h.rows start).number) (m : List ℕ) (room : 1056 ≤ length m) where
      all : length (rows_from h.k s 0 h.rows start).lines ≡ h.rows
      all = rows-full h.k s h.rows 0 start (sym none)

      -- the product over the memory is N
      pub memory_count : product 1 h.k (lines_in (lay 0 (rows_from h.k s 0 h.rows start).lines m) 0 h.rows) ≡ count (sheet_of h.k (rows_from h.k s 0 h.rows start).lines)
      memory_count =
          ap (λ (n : ℕ). product 1 h.k (lines_in (lay 0 (rows_from h.k s 0 h.rows start).lines m) 0 n)) (sym all)
          ∙ ap (product 1 h.k) (lines-back (rows_from h.k s 0 h.rows start).lines 0 m (omega (arith, all, good.rows)))
          ∙ sym (count-product h.k (rows_from h.k s 0 h.rows start).lines)

      module _ (n : ℕ) (c : n ≡ count (sheet_of h.k (rows_from h.k s 0 h.rows start).lines)) where
        pub done : accepted h.k h.rows n ≡ answer s
        unfolding rows closing
        done = rw (answer-is, sym none, sym c) (simp all)
