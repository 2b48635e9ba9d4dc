-- Tests over lists: what a test that some member passes tells, and when two say the same.
-- Assumes nothing.
use mathlib.Core.Path.{◌≡◌, refl, ap, ap₂, ◌∙◌, subst}
use mathlib.Core.Logic.{⊎_elim}
use mathlib.Core.Bool.{Bool, true, false, not, ◌&&◌, ◌||◌}
use mathlib.Core.List.Memᴰ
use mathlib.Core.List.{List, [], ◌∷◌, ◌++◌, Memᴰ}
use Prim.Native.Nat.{ℕ, zero, suc, ◌<◌}
use native.Mathlib.Omega.{arith}
use lib.Dec.{T}
use Rattle.scenario.specs.Rows.{Row, below, gather}
use Rattle.scenario.specs.Sheet.{all}
use Rattle.scenario.specs.Reading.{All}
use Rattle.scenario.proofs.Base.{either, left, right, tell}
use Rattle.impossibility.specs.Impossible.{any}

module _ {A : Type 0} where
  pub any_get : (f : A → Bool) (l : List A) → T (any f l) → (x : A) × Memᴰ x l × T (f x)
  unfolding any
  any_get f [] t = absurd t
  any_get f (x ∷ xs) t =
      ⊎_elim (λ s. (x, Memᴰ.head refl, s)) (λ s. let r = any_get f xs s in (r.0, Memᴰ.tail r.1, r.2)) (either (f x) (any f xs) t)

  pub any-put : (f : A → Bool) {x : A} (l : List A) → Memᴰ x l → T (f x) → T (any f l)
  unfolding any
  any-put f [] m t = absurd (Memᴰ.not-nil m)
  any-put f (y ∷ l) m t =
      ⊎_elim (λ e. left (f y) (any f l) (subst (λ (a : A). T (f a)) e t)) (λ n. right (f y) (any f l) (any-put f l n t)) (Memᴰ.cases_cons m)

  pub all-not : (f : A → Bool) (l : List A) → T (not (all f l)) → (x : A) × Memᴰ x l × T (not (f x))
  unfolding all
  all-not f [] t = absurd t
  all-not f (x ∷ xs) t =
      ⊎_elim (λ s. let r = all-not f xs (rest (f x) (all f xs) s t) in (r.0, Memᴰ.tail r.1, r.2)) (λ n. (x, Memᴰ.head refl, n)) (tell (f x))
    where
      rest : (a b : Bool) → T a → T (not (a && b)) → T (not b)
      rest true b s t = t
      rest false b s t = absurd s

  -- tests that agree on all members
  pub any_same : (f g : A → Bool) (l : List A) → All (λ (x : A). f x ≡ g x) l → any f l ≡ any g l
  unfolding any
  any_same f g [] h = refl
  any_same f g (x ∷ xs) h = ap₂ ◌||◌ h.0 (any_same f g xs h.1)

  pub all_same : (f g : A → Bool) (l : List A) → All (λ (x : A). f x ≡ g x) l → all f l ≡ all g l
  unfolding all
  all_same f g [] h = refl
  all_same f g (x ∷ xs) h = ap₂ ◌&&◌ h.0 (all_same f g xs h.1)

  pub any_or : (f g : A → Bool) (l : List A) → any (λ x. f x || g x) l ≡ any f l || any g l
  unfolding any
  any_or f g [] = refl
  any_or f g (x ∷ xs) = ap (λ (b : Bool). (f x || g x) || b) (any_or f g xs) ∙ four (f x) (g x) (any f xs) (any g xs)
    where
      four : (a b c d : Bool) → (a || b) || (c || d) ≡ (a || c) || (b || d)
      four true b c d = refl
      four false true true d = refl
      four false true false d = refl
      four false false c d = refl

  any_append : (f : A → Bool) (l m : List A) → any f (l ++ m) ≡ any f l || any f m
  unfolding any
  any_append f [] m = refl
  any_append f (x ∷ xs) m = ap (λ (b : Bool). f x || b) (any_append f xs m) ∙ three (f x) (any f xs) (any f m)
    where
      three : (a b c : Bool) → a || (b || c) ≡ (a || b) || c
      three true b c = refl
      three false b c = refl

  pub any-gather : (f : A → Bool) (g : Row → List A) (rows : List Row) → any f (gather g rows) ≡ any (λ row. any f (g row)) rows
  unfolding any gather
  any-gather f g [] = refl
  any-gather f g (row ∷ rows) = any_append f (g row) (gather g rows) ∙ ap (λ (b : Bool). any f (g row) || b) (any-gather f g rows)

  pub all_both : (f : A → Bool) (l m : List A) → all f (l ++ m) ≡ all f l && all f m
  unfolding all
  all_both f [] m = refl
  all_both f (x ∷ xs) m = ap (λ (b : Bool). f x && b) (all_both f xs m) ∙ three (f x) (all f xs) (all f m)
    where
      three : (a b c : Bool) → a && (b && c) ≡ (a && b) && c
      three true b c = refl
      three false b c = refl

-- two tests that are equal below k have or have not a number below k that passes
pub below-same : (f g : ℕ → Bool) (k : ℕ) → ((x : ℕ) → x < k → f x ≡ g x) → below f k ≡ below g k
unfolding below
below-same f g zero h = refl
below-same f g (suc k) h = ap₂ ◌||◌ (h k (omega arith)) (below-same f g k (λ x l. h x (omega arith)))
