-- The rows that a denial brings, row by row from the last.
-- Assumes nothing.
use mathlib.Core.Path.{◌≡◌, refl, sym, ap, ◌∙◌, subst}
use mathlib.Core.Bool.{Bool, true, false, cond}
use mathlib.Core.List.{List, [], ◌∷◌, ◌++◌}
use Prim.Native.Nat.{ℕ, zero, suc, ◌+◌, ◌-◌, ◌≤◌}
use native.Mathlib.Omega.{arith}
use lib.ListN.{length, length-append}
use lib.Dec.{eqb}
use borrow.Author.Tests.{ne_eqb, eqb-true, eqb-false}
use Rattle.std.proofs.Common.{Option, Some, unwrap_or}
use Rattle.std.specs.List.{find, range_with_len}
use Rattle.row.specs.declared.Line.{Line}
use Rattle.row.specs.Memory.{put, lay, section_at, line_in}
use Rattle.introduction.specs.Bringing.{NoneBefore, uses, marked, wanted, brought}
use Rattle.row.proofs.Memory.{lay_append, lay-one}

module _ (m : List ℕ) (s : ℕ) where
  pub none_more : (i : ℕ) → NoneBefore m s i → (section_at m i ≡ s → ⊥) → NoneBefore m s (i + 1)
  unfolding line_in
  none_more i f n k h e = go (eqb k i) refl
    where
      go : (b : Bool) → eqb k i ≡ b → ⊥
      go true t = n (subst (λ (j : ℕ). section_at m j ≡ s) (eqb-true k i t) e)
      go false t = let z = eqb-false k i t in f k (omega arith) e

  -- the first row of the section, of those from number j on up to n; or else n
  pub first-from : (j left n : ℕ) → j + left ≡ n → NoneBefore m s j
      → (unwrap_or (find (λ i. eqb (section_at m i) s) (range_with_len j left)) n ≤ n) × NoneBefore m s (unwrap_or (find (λ i. eqb (section_at m i) s) (range_with_len j left)) n)
  first-from j zero n p f = (omega arith, λ k h. f k (omega arith))
  first-from j (suc left) n p f = go (eqb (section_at m j) s) refl (first-from (j + 1) left n (omega arith))
    where
      later : Option ℕ
      later = find (λ i. eqb (section_at m i) s) (range_with_len (j + 1) left)

      go : (b : Bool) → eqb (section_at m j) s ≡ b → (NoneBefore m s (j + 1) → (unwrap_or later n ≤ n) × NoneBefore m s (unwrap_or later n))
          → (unwrap_or (cond b (Some j) later) n ≤ n) × NoneBefore m s (unwrap_or (cond b (Some j) later) n)
      go true t g = (omega arith, f)
      go false t g = g (none_more j f (eqb-false (section_at m j) s t))

  pub brought-none : (marks : List ℕ) (i : ℕ) → i ≡ 0 → brought m s marks i ≡ []
  unfolding brought
  brought-none marks i e = rw e

  -- a section brings nothing from before its first row
  pub brought-before : (marks : List ℕ) (from i : ℕ) → NoneBefore m s from → i ≤ from → brought m s marks i ≡ []
  unfolding brought wanted
  brought-before marks from zero f h = refl
  brought-before marks from (suc i) f h = simp (ne_eqb (line_in m i).section s (f i (omega arith))) (brought-before marks from i f (omega arith))

  pub brought_skip : (marks : List ℕ) (i : ℕ) → (i ≡ 0 → ⊥) → wanted marks s (line_in m (i - 1)) ≡ false → brought m s marks i ≡ brought m s marks (i - 1)
  unfolding brought
  brought_skip marks zero n w = absurd (n refl)
  brought_skip marks (suc i) n w = let e : suc i - 1 ≡ i = omega arith in rw e (rw (subst (λ (j : ℕ). wanted marks s (line_in m j) ≡ false) e w))

  pub brought-more : (marks : List ℕ) (i : ℕ) → (i ≡ 0 → ⊥) → wanted marks s (line_in m (i - 1)) ≡ true
      → brought m s marks i ≡ brought m s (marked marks (uses (line_in m (i - 1)))) (i - 1) ++ (line_in m (i - 1) ∷ [])
  unfolding brought
  brought-more marks zero n w = absurd (n refl)
  brought-more marks (suc i) n w = let e : suc i - 1 ≡ i = omega arith in rw e (rw (subst (λ (j : ℕ). wanted marks s (line_in m j) ≡ true) e w))

  pub brought-short : (i : ℕ) (marks : List ℕ) → length (brought m s marks i) ≤ i
  unfolding brought
  brought-short zero marks = omega arith
  brought-short (suc i) marks = go (wanted marks s (line_in m i)) (brought-short i)
    where
      go : (b : Bool) → ((marks : List ℕ) → length (brought m s marks i) ≤ i)
          → length (cond b (brought m s (marked marks (uses (line_in m i))) i ++ (line_in m i ∷ [])) (brought m s marks i)) ≤ suc i
      go true f = omega (arith, f (marked marks (uses (line_in m i))), length-append (brought m s (marked marks (uses (line_in m i))) i) (line_in m i ∷ []))
      go false f = omega (arith, f marks)

-- one more at the end
module _ (m : List ℕ) (s : ℕ) (marks : List ℕ) (i at : ℕ) (out : List ℕ) (n : i ≡ 0 → ⊥) where
  pub bring_more_end : wanted marks s (line_in m (i - 1)) ≡ true → at + length (brought m s (marked marks (uses (line_in m (i - 1)))) (i - 1)) + 1 ≡ at + length (brought m s marks i)
  bring_more_end w =
      omega (arith, ap length (brought-more m s marks i n w), length-append (brought m s (marked marks (uses (line_in m (i - 1)))) (i - 1)) (line_in m (i - 1) ∷ []))

  pub bring_more_memory : wanted marks s (line_in m (i - 1)) ≡ true
      → put (at + length (brought m s (marked marks (uses (line_in m (i - 1)))) (i - 1))) (line_in m (i - 1)) (lay at (brought m s (marked marks (uses (line_in m (i - 1)))) (i - 1)) out)
      ≡ lay at (brought m s marks i) out
  bring_more_memory w =
      sym (lay-one (line_in m (i - 1)) _ _)
      ∙ sym (lay_append (brought m s (marked marks (uses (line_in m (i - 1)))) (i - 1)) (line_in m (i - 1) ∷ []) at out)
      ∙ ap (λ (l : List Line). lay at l out) (sym (brought-more m s marks i n w))

  module _ (line : Line) (l : line ≡ line_in m (i - 1)) where
    pub bring_adds : (end : ℕ) (marks' out' out'' : List ℕ) → wanted marks s (line_in m (i - 1)) ≡ true → marks' ≡ marked marks (uses line)
        → end ≡ at + length (brought m s marks' (i - 1)) → out' ≡ lay at (brought m s marks' (i - 1)) out → out'' ≡ put end line out'
        → (end + 1 ≡ at + length (brought m s marks i)) × (out'' ≡ lay at (brought m s marks i) out)
    bring_adds end marks' out' out'' w k e o p =
        let k' : marks' ≡ marked marks (uses (line_in m (i - 1))) = k ∙ ap (λ (x : Line). marked marks (uses x)) l in
        let e' : end ≡ at + length (brought m s (marked marks (uses (line_in m (i - 1)))) (i - 1)) = e ∙ ap (λ (x : List ℕ). at + length (brought m s x (i - 1))) k' in (
          ap (λ (x : ℕ). x + 1) e' ∙ bring_more_end w,
          p ∙ rw (e', l, o, k') (bring_more_memory w),
        )

-- so many rows that bring the same
pub bring_same : (m : List ℕ) (s : ℕ) (marks : List ℕ) (j i at : ℕ) (out : List ℕ) → brought m s marks j ≡ brought m s marks i → (end : ℕ) (out' : List ℕ)
    → (end ≡ at + length (brought m s marks j)) × (out' ≡ lay at (brought m s marks j) out) → (end ≡ at + length (brought m s marks i)) × (out' ≡ lay at (brought m s marks i) out)
bring_same m s marks j i at out e end out' b = rw e at b

pub bring_zero : (m : List ℕ) (s : ℕ) (marks : List ℕ) (i at : ℕ) (out : List ℕ) → i ≡ 0 → (at ≡ at + length (brought m s marks i)) × (out ≡ lay at (brought m s marks i) out)
unfolding lay brought
bring_zero m s marks i at out e = rw e (omega arith, refl)
