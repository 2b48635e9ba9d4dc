-- Links: `leads` is the least relation that is reflexive, transitive and has the links; and what a program's table of it may do.
-- Assumes nothing.
use mathlib.Core.Path.{◌≡◌, refl, sym, subst}
use mathlib.Core.Logic.{⊎_elim}
use mathlib.Core.Bool.{Bool, true, false, ◌&&◌, ◌||◌}
use mathlib.Core.List.Memᴰ
use mathlib.Core.List.{List, [], ◌∷◌, Memᴰ}
use Prim.Native.Nat.{ℕ}
use lib.Dec.{T, eqb, eqb→eq, eqb_refl}
use Rattle.scenario.specs.Links.{Link, leads}
use Rattle.scenario.specs.Rows.{Row, gather}
use Rattle.scenario.specs.Reading.{All}
use Rattle.scenario.proofs.Base.{both, pair, either, left, right, all_append}

-- Lists

module _ {A : Type 0} where
  pub mem_all : (P : A → Type 0) (l : List A) → ((x : A) → Memᴰ x l → P x) → All P l
  mem_all P [] h = tt
  mem_all P (x ∷ xs) h = (h x (Memᴰ.head refl), mem_all P xs (λ y m. h y (Memᴰ.tail m)))

  pub all-gather : (P : A → Type 0) (f : Row → List A) (rows : List Row) → All (λ (row : Row). All P (f row)) rows → All P (gather f rows)
  unfolding gather
  all-gather P f [] h = tt
  all-gather P f (row ∷ rows) h = all_append P (f row) (gather f rows) h.0 (all-gather P f rows h.1)

  pub gather-put : (f : Row → List A) {row : Row} (rows : List Row) {x : A} → Memᴰ row rows → Memᴰ x (f row) → Memᴰ x (gather f rows)
  unfolding gather
  gather-put f [] n m = absurd (Memᴰ.not-nil n)
  gather-put f (k ∷ rows) {x} n m =
      ⊎_elim (λ e. Memᴰ.append_left (gather f rows) (subst (λ (y : Row). Memᴰ x (f y)) e m))
      (λ h. Memᴰ.append_right (f k) (gather-put f rows h m)) (Memᴰ.cases_cons n)

  pub gather_get : (f : Row → List A) (rows : List Row) {x : A} → Memᴰ x (gather f rows) → (row : Row) × Memᴰ row rows × Memᴰ x (f row)
  unfolding gather
  gather_get f [] m = absurd (Memᴰ.not-nil m)
  gather_get f (k ∷ rows) m =
      ⊎_elim (λ n. (k, Memᴰ.head refl, n)) (λ n. let g = gather_get f rows n in (g.0, Memᴰ.tail g.1, g.2)) (Memᴰ.append_cases (f k) m)

-- The relation

pub leads-self : (ls : List Link) (x : ℕ) → T (leads ls x x)
unfolding leads
leads-self [] x = eqb_refl x
leads-self (l ∷ ls) x = left (leads ls x x) (leads ls x l.from && leads ls l.to x) (leads-self ls x)

module _ (l : Link) (ls : List Link) where
  -- by the first link, once
  by : ℕ → ℕ → Bool
  by x y = leads ls x l.from && leads ls l.to y

  once : (x y : ℕ) → T (leads ls x l.from) → T (leads ls l.to y) → T (leads ls x y || (leads ls x l.from && leads ls l.to y))
  once x y f g = right (leads ls x y) (leads ls x l.from && leads ls l.to y) (pair (leads ls x l.from) (leads ls l.to y) f g)

pub leads-chain : (ls : List Link) (x y z : ℕ) → T (leads ls x y) → T (leads ls y z) → T (leads ls x z)
unfolding leads by
leads-chain [] x y z s t = subst (λ (k : ℕ). T (eqb x k)) (eqb→eq y z t) s
leads-chain (l ∷ ls) x y z s t =
    ⊎_elim
    (λ u. ⊎_elim (λ v. left (leads ls x z) (by l ls x z) (leads-chain ls x y z u v))
    (λ v. let k = both (leads ls y l.from) (leads ls l.to z) v in once l ls x z (leads-chain ls x y l.from u k.0) k.1)
    (either (leads ls y z) (by l ls y z) t))
    (λ u. let h = both (leads ls x l.from) (leads ls l.to y) u in
    ⊎_elim (λ v. once l ls x z h.0 (leads-chain ls l.to y z h.1 v))
    (λ v. once l ls x z h.0 (both (leads ls y l.from) (leads ls l.to z) v).1)
    (either (leads ls y z) (by l ls y z) t))
    (either (leads ls x y) (by l ls x y) s)

pub leads-link : (ls : List Link) {l : Link} → Memᴰ l ls → T (leads ls l.from l.to)
unfolding leads
leads-link [] m = absurd (Memᴰ.not-nil m)
leads-link (k ∷ ls) {l} m =
    ⊎_elim
    (λ e. subst (λ (x : Link). T (leads ls x.from x.to || (leads ls x.from k.from && leads ls k.to x.to))) (sym e)
    (once k ls k.from k.to (leads-self ls k.from) (leads-self ls k.to)))
    (λ n. left (leads ls l.from l.to) (leads ls l.from k.from && leads ls k.to l.to) (leads-link ls n))
    (Memᴰ.cases_cons m)

-- every other such relation has it
module _ (R : ℕ → ℕ → Type 0) (same : (x : ℕ) → R x x) (chain : (x y z : ℕ) → R x y → R y z → R x z) where
  pub leads_in_lem : (ls : List Link) → All (λ (l : Link). R l.from l.to) ls → (x y : ℕ) → T (leads ls x y) → R x y
  unfolding leads
  leads_in_lem [] h x y s = subst (R x) (eqb→eq x y s) (same x)
  leads_in_lem (l ∷ ls) h x y s =
      ⊎_elim (λ u. leads_in_lem ls h.1 x y u)
      (λ u. let v = both (leads ls x l.from) (leads ls l.to y) u in
      chain x l.from y (leads_in_lem ls h.1 x l.from v.0) (chain l.from l.to y h.0 (leads_in_lem ls h.1 l.to y v.1)))
      (either (leads ls x y) (leads ls x l.from && leads ls l.to y) s)

-- For programs, which keep the table of all pairs in place: entering a link changes neither what leads to its first point nor what its second leads to.
pub enter-from : (l : Link) (ls : List Link) (x : ℕ) → leads (l ∷ ls) x l.from ≡ leads ls x l.from
unfolding leads
enter-from l ls x = go (leads ls x l.from) (leads ls l.to l.from)
  where
    go : (a b : Bool) → a || (a && b) ≡ a
    go true b = refl
    go false b = refl

pub enter-to : (l : Link) (ls : List Link) (y : ℕ) → leads (l ∷ ls) l.to y ≡ leads ls l.to y
unfolding leads
enter-to l ls y = go (leads ls l.to y) (leads ls l.to l.from)
  where
    go : (a b : Bool) → a || (b && a) ≡ a
    go true b = refl
    go false true = refl
    go false false = refl
