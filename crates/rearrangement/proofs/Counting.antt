-- Mixed counting by choices: a way makes its choices and no other way does. And a map of numbers that takes no two to one goes into as many or more.
-- Assumes nothing.
use mathlib.Core.Path.{◌≡◌, refl, sym, ◌∙◌, ap, ap₂}
use mathlib.Core.Logic.{◌⊎◌, inl, inr, ⊎_elim}
use mathlib.Core.Bool.{not, cond}
use mathlib.Core.List.{List, [], ◌∷◌}
use Prim.Native.Nat.{ℕ, zero, suc, ◌+◌, ◌*◌, ◌/◌, ◌%◌, ◌≤◌, ◌<◌}
use native.Mathlib.Omega.{arith}
use native.Mathlib.Nat.{mod-lt, div-lt_iff_lt-mul, div-add-mod'}
use lib.ListN.{length, get_or}
use lib.Dec.{T, eqb, eqb→eq}
use Rattle.scenario.specs.Sheet.{total, choose}
use Rattle.scenario.proofs.Base.{tell, is_true, is_false, neqb→neq}
use Rattle.scenario.proofs.Product.{factor, digits_lt, digits_div, digits_mod}
use Rattle.rearrangement.specs.Order.{choice, way}

module _ {A : Type 0} where
  -- choices that there are
  abbrev pub Choices : List (List A) → (ℕ → ℕ) → Type 0
  Choices ls f = (p : ℕ) → p < length ls → f p < length (get_or ls p [])

  pub choice-low : (ls : List (List A)) (j : ℕ) → j < total ls → Choices ls (choice ls j)
  unfolding total choice
  choice-low [] j h p b = absurd (omega arith)
  choice-low (l ∷ ls) j h zero b = (div-lt_iff_lt-mul (factor (length l) (total ls) j h)).1 h
  choice-low (l ∷ ls) j h (suc p) b = choice-low ls (j % total ls) (mod-lt j (factor (length l) (total ls) j h)) p (omega arith)

  pub way-low : (ls : List (List A)) (f : ℕ → ℕ) → Choices ls f → way ls f < total ls
  unfolding total way
  way-low [] f h = omega arith
  way-low (l ∷ ls) f h = digits_lt (total ls) (f 0) (way ls (λ p. f (suc p))) (way-low ls (λ p. f (suc p)) (λ p b. h (suc p) (omega arith))) (length l) (h 0 (omega arith))

  pub choice_of_way : (ls : List (List A)) (f : ℕ → ℕ) → Choices ls f → (p : ℕ) → p < length ls → choice ls (way ls f) p ≡ f p
  unfolding choice way
  choice_of_way [] f h p b = absurd (omega arith)
  choice_of_way (l ∷ ls) f h zero b = digits_div (total ls) (f 0) (way ls (λ p. f (suc p))) (way-low ls (λ p. f (suc p)) (λ p b. h (suc p) (omega arith)))
  choice_of_way (l ∷ ls) f h (suc p) b =
      ap (λ (x : ℕ). choice ls x p) (digits_mod (total ls) (f 0) (way ls (λ p. f (suc p))) (way-low ls (λ p. f (suc p)) (λ p b. h (suc p) (omega arith))))
      ∙ choice_of_way ls (λ p. f (suc p)) (λ p b. h (suc p) (omega arith)) p (omega arith)

  pub way_of_choice : (ls : List (List A)) (j : ℕ) → j < total ls → way ls (choice ls j) ≡ j
  unfolding total choice way
  way_of_choice [] j h = omega arith
  way_of_choice (l ∷ ls) j h =
      ap (λ (x : ℕ). j / total ls * total ls + x) (way_of_choice ls (j % total ls) (mod-lt j (factor (length l) (total ls) j h))) ∙ div-add-mod' j (total ls)

  pub way_same : (ls : List (List A)) (f g : ℕ → ℕ) → ((p : ℕ) → p < length ls → f p ≡ g p) → way ls f ≡ way ls g
  unfolding way
  way_same [] f g h = refl
  way_same (l ∷ ls) f g h = ap₂ (λ x y. x * total ls + y) (h 0 (omega arith)) (way_same ls (λ p. f (suc p)) (λ p. g (suc p)) (λ p b. h (suc p) (omega arith)))

  pub length-choose : (x : A) (ls : List (List A)) (j : ℕ) → length (choose x ls j) ≡ length ls
  unfolding choose
  length-choose x [] j = refl
  length-choose x (l ∷ ls) j = ap suc (length-choose x ls (j % total ls))

  pub chosen_at : (x : A) (ls : List (List A)) (j p : ℕ) → p < length ls → get_or (choose x ls j) p x ≡ get_or (get_or ls p []) (choice ls j p) x
  unfolding choose choice
  chosen_at x [] j p b = absurd (omega arith)
  chosen_at x (l ∷ ls) j zero b = refl
  chosen_at x (l ∷ ls) j (suc p) b = chosen_at x ls (j % total ls) p (omega arith)

-- a map of the numbers below a into those below b, no two to one
pub record Into (a b : ℕ) (f : ℕ → ℕ) : Type 0 where
  pub low : (i : ℕ) → i < a → f i < b
  pub one : (i j : ℕ) → i < a → j < a → f i ≡ f j → i ≡ j

-- f with y in the place of b
unfoldable instead : (f : ℕ → ℕ) (b y : ℕ) → ℕ → ℕ
instead f b y i = cond (eqb (f i) b) y (f i)

module _ (f : ℕ → ℕ) (b y i : ℕ) where
  instead_at : f i ≡ b → instead f b y i ≡ y
  unfolding instead
  instead_at h = go (tell (eqb (f i) b))
    where
      go : T (eqb (f i) b) ⊎ T (not (eqb (f i) b)) → cond (eqb (f i) b) y (f i) ≡ y
      go (inl t) = rw (is_true (eqb (f i) b) t)
      go (inr n) = absurd (neqb→neq (f i) b n h)

  instead_off : (f i ≡ b → ⊥) → instead f b y i ≡ f i
  unfolding instead
  instead_off h = go (tell (eqb (f i) b))
    where
      go : T (eqb (f i) b) ⊎ T (not (eqb (f i) b)) → cond (eqb (f i) b) y (f i) ≡ f i
      go (inl t) = absurd (h (eqb→eq (f i) b t))
      go (inr n) = rw (is_false (eqb (f i) b) n)

  hits : (f i ≡ b) ⊎ (f i ≡ b → ⊥)
  hits = ⊎_elim (λ t. inl (eqb→eq (f i) b t)) (λ n. inr (neqb→neq (f i) b n)) (tell (eqb (f i) b))

fewer : (a b : ℕ) (f : ℕ → ℕ) → Into (suc a) (suc b) f → Into a b (instead f b (f a))
fewer a b f I = record { low = λ i h. low i h (hits f b (f a) i); one = λ i j h k q. one i j h k q (hits f b (f a) i) (hits f b (f a) j) }
  where
    low : (i : ℕ) → i < a → (f i ≡ b) ⊎ (f i ≡ b → ⊥) → instead f b (f a) i < b
    low i h (inl q) =
        let z : f a ≡ b → ⊥ = λ e. let u = I.one i a (omega arith) (omega arith) (q ∙ sym e) in omega arith in
        omega (arith, instead_at f b (f a) i q, I.low a (omega arith))
    low i h (inr n) = omega (arith, instead_off f b (f a) i n, I.low i (omega arith))

    one : (i j : ℕ) → i < a → j < a → instead f b (f a) i ≡ instead f b (f a) j → (f i ≡ b) ⊎ (f i ≡ b → ⊥) → (f j ≡ b) ⊎ (f j ≡ b → ⊥) → i ≡ j
    one i j h k q (inl x) (inl y) = I.one i j (omega arith) (omega arith) (x ∙ sym y)
    one i j h k q (inl x) (inr y) =
        absurd (let u = I.one a j (omega arith) (omega arith) (sym (instead_at f b (f a) i x) ∙ q ∙ instead_off f b (f a) j y) in omega arith)
    one i j h k q (inr x) (inl y) =
        absurd (let u = I.one i a (omega arith) (omega arith) (sym (instead_off f b (f a) i x) ∙ q ∙ instead_at f b (f a) j y) in omega arith)
    one i j h k q (inr x) (inr y) = I.one i j (omega arith) (omega arith) (sym (instead_off f b (f a) i x) ∙ q ∙ instead_off f b (f a) j y)

pub no_fewer : (a b : ℕ) (f : ℕ → ℕ) → Into a b f → a ≤ b
no_fewer zero b f I = omega arith
no_fewer (suc a) zero f I = absurd (omega (arith, I.low 0 (omega arith)))
no_fewer (suc a) (suc b) f I = omega (arith, no_fewer a b (instead f b (f a)) (fewer a b f I))
