-- Rows and their numbers: the table undoes `fields`, an unknown kind is never met, and the points of a row by kind. Carried by `any-kind`: with the kind a
-- numeral, the table computes.
-- Assumes nothing.
use mathlib.Core.Path.{◌≡◌, refl, ap}
use mathlib.Core.Bool.{not, false, ◌&&◌, cond, and-false}
use mathlib.Core.List.{[], ◌∷◌, ◌++◌}
use Prim.Native.Nat.{ℕ, zero, suc, ◌≤◌}
use native.Mathlib.Omega.{arith}
use lib.Dec.{leb, eqb, eqb_refl}
use borrow.Author.Tests.{lt-leb}
use Rattle.scenario.specs.Rows.{Row, point, next, last, earlier, later, before, apart, same, free, within, outside, event, Run, Env, meets, introduced, needs}
use Rattle.scenario.specs.Fields.{fields, decode, row_of}
use Rattle.scenario.specs.Reading.{All}
use Rattle.scenario.proofs.Base.{is_true}
use Rattle.scenario.proofs.Halves.{set_of_halves}

-- a row's numbers give the row back
pub decode-fields : (r : Row) → row_of (fields r).kind (fields r).p (fields r).q (fields r).a (fields r).b ≡ r
unfolding decode fields
decode-fields (point p s) = ap (point p) (set_of_halves s)
decode-fields (next p q s) = ap (next p q) (set_of_halves s)
decode-fields (last p q s) = ap (last p q) (set_of_halves s)
decode-fields (earlier p q a) = refl
decode-fields (later p q a) = refl
decode-fields (before p q) = refl
decode-fields (apart p q) = refl
decode-fields (same p q) = refl
decode-fields (free p q s) = ap (free p q) (set_of_halves s)
decode-fields (within p q lo hi) = refl
decode-fields (outside p q lo hi) = refl
decode-fields (event p s) = ap (event p) (set_of_halves s)

-- by kind: 0, 1 to 12, and above
pub any-kind : (P : ℕ → Type 0) → P 0 → P 1 → P 2 → P 3 → P 4 → P 5 → P 6 → P 7 → P 8 → P 9 → P 10 → P 11 → P 12
    → ((k : ℕ) → P (suc (suc (suc (suc (suc (suc (suc (suc (suc (suc (suc (suc (suc k)))))))))))))) → (k : ℕ) → P k
any-kind P z a b c d e f g h i j l m n zero = z
any-kind P z a b c d e f g h i j l m n (suc zero) = a
any-kind P z a b c d e f g h i j l m n (suc (suc zero)) = b
any-kind P z a b c d e f g h i j l m n (suc (suc (suc zero))) = c
any-kind P z a b c d e f g h i j l m n (suc (suc (suc (suc zero)))) = d
any-kind P z a b c d e f g h i j l m n (suc (suc (suc (suc (suc zero))))) = e
any-kind P z a b c d e f g h i j l m n (suc (suc (suc (suc (suc (suc zero)))))) = f
any-kind P z a b c d e f g h i j l m n (suc (suc (suc (suc (suc (suc (suc zero))))))) = g
any-kind P z a b c d e f g h i j l m n (suc (suc (suc (suc (suc (suc (suc (suc zero)))))))) = h
any-kind P z a b c d e f g h i j l m n (suc (suc (suc (suc (suc (suc (suc (suc (suc zero))))))))) = i
any-kind P z a b c d e f g h i j l m n (suc (suc (suc (suc (suc (suc (suc (suc (suc (suc zero)))))))))) = j
any-kind P z a b c d e f g h i j l m n (suc (suc (suc (suc (suc (suc (suc (suc (suc (suc (suc zero))))))))))) = l
any-kind P z a b c d e f g h i j l m n (suc (suc (suc (suc (suc (suc (suc (suc (suc (suc (suc (suc zero)))))))))))) = m
any-kind P z a b c d e f g h i j l m n (suc (suc (suc (suc (suc (suc (suc (suc (suc (suc (suc (suc (suc k))))))))))))) = n k

-- a row of an unknown kind is never met
module _ (run : Run) (e : Env) (p q a b s : ℕ) where
  abbrev Unmet : ℕ → Type 0
  Unmet k = (1 ≤ k → k ≤ 12 → ⊥) → meets run e (decode k p q a b s) ≡ false

  never : meets run e (apart 0 0) ≡ false
  unfolding meets
  never = ap not (is_true (eqb (e 0) (e 0)) (eqb_refl (e 0)))

  pub unknown_unmet : (k : ℕ) → Unmet k
  unfolding decode
  unknown_unmet =
      any-kind Unmet (λ n. never)
      (λ n. absurd (n (omega arith) (omega arith))) (λ n. absurd (n (omega arith) (omega arith))) (λ n. absurd (n (omega arith) (omega arith)))
      (λ n. absurd (n (omega arith) (omega arith))) (λ n. absurd (n (omega arith) (omega arith))) (λ n. absurd (n (omega arith) (omega arith)))
      (λ n. absurd (n (omega arith) (omega arith))) (λ n. absurd (n (omega arith) (omega arith))) (λ n. absurd (n (omega arith) (omega arith)))
      (λ n. absurd (n (omega arith) (omega arith))) (λ n. absurd (n (omega arith) (omega arith))) (λ n. absurd (n (omega arith) (omega arith)))
      (λ k n. never)

-- kinds 1 to 5 introduce p
module _ (p q a b s : ℕ) where
  abbrev Introduced : ℕ → Type 0
  Introduced k = introduced (decode k p q a b s) ≡ cond (leb 1 k && leb k 5) (p ∷ []) []

  pub introduced-is : (k : ℕ) → Introduced k
  unfolding decode
  introduced-is =
      any-kind Introduced refl refl refl refl refl refl refl refl refl refl refl refl refl
      (λ k. rw (lt-leb (suc (suc (suc (suc (suc (suc (suc (suc (suc (suc (suc (suc (suc k))))))))))))) 5 (omega arith), and-false))

-- every point that a row uses is one of these
module _ (Q : ℕ → Type 0) (p q a b s : ℕ) (P₁ : Q p) (Q₁ : Q q) (Z : Q 0) where
  abbrev pub uses : ℕ → Type 0
  uses k = (k ≡ 4 → Q a) → (k ≡ 5 → Q a) → All Q (introduced (decode k p q a b s) ++ needs (decode k p q a b s))

  pub uses-all : (k : ℕ) → uses k
  unfolding decode
  uses-all =
      any-kind uses (λ f g. (Z, (Z, tt))) (λ f g. (P₁, tt)) (λ f g. (P₁, (Q₁, tt))) (λ f g. (P₁, (Q₁, tt))) (λ f g. (P₁, (Q₁, (f refl, tt)))) (λ f g. (P₁, (Q₁, (g refl, tt))))
      (λ f g. (P₁, (Q₁, tt))) (λ f g. (P₁, (Q₁, tt))) (λ f g. (P₁, (Q₁, tt))) (λ f g. (P₁, (Q₁, tt))) (λ f g. (P₁, (Q₁, tt))) (λ f g. (P₁, (Q₁, tt))) (λ f g. (P₁, tt))
      (λ k f g. (Z, (Z, tt)))
