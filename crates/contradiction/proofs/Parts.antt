-- What a row says for the three rules, by its kind. Carried by `any-kind`: with the kind a numeral, the table computes.
-- Assumes nothing.
use mathlib.Core.Path.{◌≡◌, refl, sym, ap₂}
use mathlib.Core.Logic.{◌⊎◌, inl, inr}
use mathlib.Core.Bool.{Bool, true, false, ◌||◌, cond}
use mathlib.Core.List.{[], ◌∷◌, ◌++◌}
use Prim.Native.Nat.{ℕ, zero, suc, ◌≤◌, ◌<◌}
use native.Mathlib.Omega.{arith}
use lib.Dec.{ltb, leb, eqb}
use borrow.Author.Tests.{eqb-true, ne_eqb, lt-ltb, le-ltb, le-leb}
use Rattle.scenario.specs.Links.{link}
use Rattle.scenario.specs.Fields.{decode}
use Rattle.scenario.proofs.Numbers.{any-kind}
use Rattle.impossibility.specs.Impossible.{set_for, part}
use Rattle.contradiction.specs.Table.{link_if, links_of, upward, downward, asking}

-- no kind above 12 is one of those below
above : (k j : ℕ) → j ≤ 12 → eqb (suc (suc (suc (suc (suc (suc (suc (suc (suc (suc (suc (suc (suc k))))))))))))) j ≡ false
above k j h = ne_eqb _ j (λ e. omega arith)

past : (k : ℕ) → ltb 3 (suc (suc (suc (suc (suc (suc (suc (suc (suc (suc (suc (suc (suc k))))))))))))) ≡ true
past k = lt-ltb 3 _ four
  where
    four : 3 < suc (suc (suc (suc (suc (suc (suc (suc (suc (suc (suc (suc (suc k))))))))))))
    four = omega arith

module _ (p q a b s : ℕ) where
  abbrev Linked : Bool → ℕ → Type 0
  Linked joining k = links_of joining (decode k p q a b s) ≡ link_if (upward joining k) p q ++ link_if (downward joining k) q p

  pub linked : (joining : Bool) (k : ℕ) → Linked joining k
  unfolding decode upward downward
  linked true = any-kind (Linked true) refl refl refl refl refl refl refl refl refl refl refl refl refl
      (λ k. let e = above k 8 (omega arith) in sym (ap₂ (λ (x y : Bool). link_if x p q ++ link_if y q p) e e))
  linked false = any-kind (Linked false) refl refl refl refl refl refl refl refl refl refl refl refl refl
      (λ k. sym (ap₂ (λ (x y : Bool). link_if x p q ++ link_if y q p) (ap₂ ◌||◌ (above k 6 (omega arith)) (above k 3 (omega arith))) (above k 2 (omega arith))))

  abbrev Asked : ℕ → Type 0
  Asked k = (part (decode k p q a b s)).sets ≡ cond (asking k) (set_for p s ∷ []) []

  pub asked : (k : ℕ) → Asked k
  unfolding decode asking
  asked = any-kind Asked refl refl refl refl refl refl refl refl refl refl refl refl refl
      (λ k. sym (ap₂ (λ (x y : Bool). cond (cond x true (cond y false (leb 1 (suc (suc (suc (suc (suc (suc (suc (suc (suc (suc (suc (suc (suc k)))))))))))))))) (set_for p s ∷ []) [])
      (above k 12 (omega arith)) (past k)))

  abbrev Parted : ℕ → Type 0
  Parted k = 1 ≤ k → k ≤ 12 → (part (decode k p q a b s)).aparts ≡ cond (eqb k 7) (link p q ∷ []) []

  pub has_apart : (k : ℕ) → Parted k
  unfolding decode
  has_apart = any-kind Parted (λ l h. absurd (omega arith)) (λ l h. refl) (λ l h. refl) (λ l h. refl) (λ l h. refl) (λ l h. refl) (λ l h. refl)
      (λ l h. refl) (λ l h. refl) (λ l h. refl) (λ l h. refl) (λ l h. refl) (λ l h. refl) (λ k l h. absurd (omega arith))

-- an APART row asks no set, and a row is not both upward and downward where it is read as "lower than"
pub apart_asks_none : (k : ℕ) → k ≡ 7 → asking k ≡ false
unfolding asking
apart_asks_none k e = rw e

pub one_way : (k : ℕ) → upward false k ≡ true → downward false k ≡ false
unfolding upward downward
one_way k e = go (eqb k 6) refl (eqb k 3) refl e
  where
    go : (x : Bool) → eqb k 6 ≡ x → (y : Bool) → eqb k 3 ≡ y → x || y ≡ true → eqb k 2 ≡ false
    go true f y g h = ne_eqb k 2 (λ z. let w = eqb-true k 6 f in omega arith)
    go false f true g h = ne_eqb k 2 (λ z. let w = eqb-true k 3 g in omega arith)
    go false f false g h = let z : ◌≡◌ {A = ℕ} 0 1 = cc in absurd (omega arith)

-- by the kinds that it has
pub rises : (k : ℕ) → (k ≡ 3) ⊎ (k ≡ 6) → upward false k ≡ true
unfolding upward
rises k (inl e) = rw e refl
rises k (inr e) = rw e refl

pub falls : (k : ℕ) → k ≡ 2 → (upward false k ≡ false) × (downward false k ≡ true)
unfolding upward downward
falls k e = rw e (refl, refl)

pub stays : (k : ℕ) → (k ≡ 3 → ⊥) → (k ≡ 6 → ⊥) → (k ≡ 2 → ⊥) → (upward false k ≡ false) × (downward false k ≡ false)
unfolding upward downward
stays k l b n = (simp (ne_eqb k 6 b, ne_eqb k 3 l), ne_eqb k 2 n)

pub asks : (k : ℕ) → 1 ≤ k → k ≤ 3 → true ≡ asking k
unfolding asking
asks k l h = simp (ne_eqb k 12 (λ e. omega arith), le-ltb 3 k h, le-leb 1 k l)

pub asks_not : (k : ℕ) → (k ≡ 12 → ⊥) → (1 ≤ k → 3 < k) → false ≡ asking k
unfolding asking
asks_not zero n h = refl
asks_not (suc k) n h = let l : 3 < suc k = h (omega arith) in simp (ne_eqb (suc k) 12 n, lt-ltb 3 (suc k) l)
