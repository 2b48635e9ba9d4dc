-- The lowest of the antecedent's points that may end, by sets and by tests.
-- Assumes nothing.
use mathlib.Core.Path.{◌≡◌, refl, sym, ap, ap₂, ◌∙◌}
use mathlib.Core.Bool.{Bool, true, false, not, ◌&&◌, ◌||◌, cond}
use mathlib.Core.List.{List, [], ◌∷◌}
use Prim.Native.Nat.{ℕ, zero, suc, ◌+◌, ◌-◌, ◌≤◌, ◌<◌}
use native.Mathlib.Omega.{arith}
use lib.ListN.{drop}
use lib.Dec.{eqb}
use borrow.Author.Tests.{eq-eqb, ne_eqb}
use Rattle.scenario.specs.Links.{leads}
use Rattle.scenario.specs.Rows.{full_set, may_end, first_or}
use Rattle.scenario.specs.Log.{in_set}
use Rattle.scenario.specs.Reading.{All}
use Rattle.scenario.proofs.Logs.{in_set-full}
use Rattle.row.specs.declared.Line.{Line}
use Rattle.order.specs.Leading.{places, place, links_in, Led}
use Rattle.order.specs.Ending.{antecedent_points, may_end_in, InOrder, end_in, far_in}

-- the points from z on
module _ (long : ℕ) (f : ℕ → Bool) where
  abbrev pub first_from : ℕ → ℕ
  first_from z = first_or long f (drop (z - 1) antecedent_points)

  from-here : (z : ℕ) → 1 ≤ z → z ≤ 4 → drop (z - 1) antecedent_points ≡ z ∷ drop (z + 1 - 1) antecedent_points
  from-here zero l h = absurd (omega arith)
  from-here (suc zero) l h = refl
  from-here (suc (suc zero)) l h = refl
  from-here (suc (suc (suc zero))) l h = refl
  from-here (suc (suc (suc (suc zero)))) l h = refl
  from-here (suc (suc (suc (suc (suc z))))) l h = absurd (omega arith)

  module _ (z : ℕ) (l : 1 ≤ z) (h : z ≤ 4) where
    first-is : first_from z ≡ cond (f z) z (first_from (z + 1))
    unfolding first_or
    first-is = ap (first_or long f) (from-here z l h)

    pub taken_here : f z ≡ true → z ≡ first_from z
    taken_here e = sym (first-is ∙ ap (λ (b : Bool). cond b z (first_from (z + 1))) e)

    pub passed_here : f z ≡ false → first_from (z + 1) ≡ first_from z
    passed_here e = sym (first-is ∙ ap (λ (b : Bool). cond b z (first_from (z + 1))) e)

  pub none-taken : (z : ℕ) → 4 < z → z ≤ 5 → long ≡ first_from z
  unfolding first_or
  none-taken z l h = let e : z ≡ 5 = omega arith in rw e

-- where q is the edge, and where it is not
module _ (m : List ℕ) (n : ℕ) (upward : Bool) (q edge : ℕ) where
  pub everywhere : q ≡ edge → InOrder full_set m n upward q edge
  everywhere e z h =
      in_set-full z (omega arith)
      ∙ sym (ap (λ (b : Bool). b || leads (links_in m 0 upward 0 n) (place q) z) (eq-eqb q edge e))

  pub by_rows : (q ≡ edge → ⊥) → (set : ℕ) → Led set (links_in m 0 upward 0 n) (place q) → InOrder set m n upward q edge
  by_rows d set l z h = l z h ∙ sym (ap (λ (b : Bool). b || leads (links_in m 0 upward 0 n) (place q) z) (ne_eqb q edge d))

-- tests that agree take the same point
pub first_or-same : (long : ℕ) (f g : ℕ → Bool) (zs : List ℕ) → All (λ (z : ℕ). f z ≡ g z) zs → first_or long f zs ≡ first_or long g zs
unfolding first_or
first_or-same long f g [] h = refl
first_or-same long f g (z ∷ zs) h = ap₂ (λ (b : Bool) (r : ℕ). cond b z r) h.0 (first_or-same long f g zs h.1)

pub end_is : (m : List ℕ) (n : ℕ) (l : Line) (upward : Bool) (edge long beyond ordered : ℕ) → Led beyond (links_in m l.section upward 0 n) (place l.p)
    → InOrder ordered m n upward l.q edge → first_or long (may_end_in beyond ordered l.q) antecedent_points ≡ end_in m n l upward edge long
unfolding end_in may_end_in may_end
end_is m n l upward edge long beyond ordered b o =
    first_or-same long (may_end_in beyond ordered l.q) (may_end (leads (links_in m l.section upward 0 n) (place l.p)) (leads (links_in m 0 upward 0 n) (place l.q)) l.q edge)
    antecedent_points (same 1 (omega arith), (same 2 (omega arith), (same 3 (omega arith), (same 4 (omega arith), tt))))
  where
    same : (z : ℕ) → z < places
        → (in_set beyond z && not (eqb z l.q) && in_set ordered z) ≡ (leads (links_in m l.section upward 0 n) (place l.p) z && not (eqb z l.q) && (eqb l.q edge || leads (links_in m 0 upward 0 n) (place l.q) z))
    same z h = ap₂ (λ (x y : Bool). x && not (eqb z l.q) && y) (b z h) (o z h)

-- a row by its kind
module _ (m : List ℕ) (n : ℕ) (l : Line) where
  pub far_of_next : l.kind ≡ 2 → end_in m n l true 0 99 ≡ far_in m n l
  unfolding far_in
  far_of_next e = simp (eq-eqb l.kind 2 e)

  pub far_of_last : l.kind ≡ 3 → end_in m n l false 99 0 ≡ far_in m n l
  unfolding far_in
  far_of_last e = simp (ne_eqb l.kind 2 (λ q. omega arith), eq-eqb l.kind 3 e)

  pub far_of_other : (l.kind ≡ 2 → ⊥) → (l.kind ≡ 3 → ⊥) → 0 ≡ far_in m n l
  unfolding far_in
  far_of_other d e = simp (ne_eqb l.kind 2 d, ne_eqb l.kind 3 e)

-- a far end is one of the antecedent's points, the start or the close
first_or-small : (f : ℕ → Bool) (long : ℕ) → long < 1000 → (zs : List ℕ) → All (λ (z : ℕ). z < 1000) zs → first_or long f zs < 1000
unfolding first_or
first_or-small f long h [] k = h
first_or-small f long h (z ∷ zs) k = go (f z) (first_or-small f long h zs k.1)
  where
    go : (b : Bool) → first_or long f zs < 1000 → cond b z (first_or long f zs) < 1000
    go true r = k.0
    go false r = r

pub far_small : (m : List ℕ) (n : ℕ) (l : Line) → far_in m n l < 1000
unfolding far_in end_in
far_small m n l = go (eqb l.kind 2) (eqb l.kind 3)
  where
    ends : (upward : Bool) (edge long : ℕ) → long < 1000 → end_in m n l upward edge long < 1000
    ends upward edge long h =
        first_or-small (may_end (leads (links_in m l.section upward 0 n) (place l.p)) (leads (links_in m 0 upward 0 n) (place l.q)) l.q edge) long h antecedent_points
        (omega arith, (omega arith, (omega arith, (omega arith, tt))))

    go : (x y : Bool) → cond x (end_in m n l true 0 99) (cond y (end_in m n l false 99 0) 0) < 1000
    go true y = ends true 0 99 (omega arith)
    go false true = ends false 99 0 (omega arith)
    go false false = omega arith
