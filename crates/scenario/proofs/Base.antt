-- Tests, lists and bounded searches: what the proofs use of them.
-- Assumes nothing.
use mathlib.Core.Path.{◌≡◌, refl, sym, ap₂, subst}
use mathlib.Core.Logic.{◌⊎◌, inl, inr, ⊎_elim}
use mathlib.Core.Bool.{Bool, true, false, not, ◌&&◌, ◌||◌}
use mathlib.Core.List.{List, [], ◌∷◌, ◌++◌, Memᴰ}
use Prim.Native.Nat.{ℕ, zero, suc, ◌+◌, ◌≤◌, ◌<◌}
use native.Mathlib.Omega.{arith}
use lib.ListN.{length, get_or, set}
use lib.Seq.{get_or-set_same, get_or-set_other}
use lib.Dec.{ltb, eqb, T, ltb→lt, nltb→le, eqb→eq, eqb_refl, T_not, not_T}
use mathlib.Core.Option.{Option, none, some}
use Rattle.scenario.specs.Rows.{below, elem, brings}
use Rattle.scenario.specs.Walk.{lowest_above, highest_below}
use Rattle.scenario.specs.Reading.{All}

-- Tests

pub both : (a b : Bool) → T (a && b) → T a × T b
both true b t = (tt, t)
both false b t = absurd t

pub pair : (a b : Bool) → T a → T b → T (a && b)
pair true b s t = t
pair false b s t = absurd s

pub either : (a b : Bool) → T (a || b) → T a ⊎ T b
either true b t = inl tt
either false b t = inr t

pub left : (a b : Bool) → T a → T (a || b)
left true b t = tt
left false b t = absurd t

pub right : (a b : Bool) → T b → T (a || b)
right true b t = tt
right false b t = t

pub tell : (b : Bool) → T b ⊎ T (not b)
tell true = inl tt
tell false = inr tt

pub T_eq : {a b : Bool} → a ≡ b → T a → T b
T_eq e t = subst T e t

pub is_true : (b : Bool) → T b → b ≡ true
is_true true t = refl
is_true false t = absurd t

pub is_false : (b : Bool) → T (not b) → b ≡ false
is_false true t = absurd t
is_false false t = refl

pub never : {A : Type 0} → false ≡ true → A
never e = let z : ◌≡◌ {A = ℕ} 0 1 = cc in absurd (omega arith)

pub eq→eqb : (m n : ℕ) → m ≡ n → T (eqb m n)
eq→eqb m n e = subst (λ (k : ℕ). T (eqb m k)) e (eqb_refl m)

pub neqb→neq : (m n : ℕ) → T (not (eqb m n)) → m ≡ n → ⊥
neqb→neq m n t e = T_not (eqb m n) t (eq→eqb m n e)

pub neq→neqb : (m n : ℕ) → (m ≡ n → ⊥) → T (not (eqb m n))
neq→neqb m n h = not_T (eqb m n) (λ t. h (eqb→eq m n t))

-- of two numbers, one is lower or they are equal
pub data Order (m n : ℕ) : Type 0 where
  lower : m < n → Order m n
  level : m ≡ n → Order m n
  upper : n < m → Order m n

pub order : (m n : ℕ) → Order m n
order m n = go (tell (ltb m n)) (tell (ltb n m))
  where
    go : T (ltb m n) ⊎ T (not (ltb m n)) → T (ltb n m) ⊎ T (not (ltb n m)) → Order m n
    go (inl a) b = lower (ltb→lt m n a)
    go (inr a) (inl b) = upper (ltb→lt n m b)
    go (inr a) (inr b) = level (omega (arith, nltb→le m n a, nltb→le n m b))

-- Lists

module _ {A : Type 0} where
  pub all_map : {P Q : A → Type 0} → ((a : A) → P a → Q a) → (l : List A) → All P l → All Q l
  all_map f [] h = tt
  all_map f (x ∷ xs) h = (f x h.0, all_map f xs h.1)

  pub all_map₂ : {P Q R : A → Type 0} → ((a : A) → P a → Q a → R a) → (l : List A) → All P l → All Q l → All R l
  all_map₂ f [] h k = tt
  all_map₂ f (x ∷ xs) h k = (f x h.0 k.0, all_map₂ f xs h.1 k.1)

  module _ (P : A → Type 0) where
    pub all_append : (l m : List A) → All P l → All P m → All P (l ++ m)
    all_append [] m h k = k
    all_append (x ∷ xs) m h k = (h.0, all_append xs m h.1 k)

    pub all-front : (l m : List A) → All P (l ++ m) → All P l
    all-front [] m h = tt
    all-front (x ∷ xs) m h = (h.0, all-front xs m h.1)

    pub all_back : (l m : List A) → All P (l ++ m) → All P m
    all_back [] m h = h
    all_back (x ∷ xs) m h = all_back xs m h.1

    pub all-at : {a : A} {l : List A} → Memᴰ a l → All P l → P a
    all-at (Memᴰ.head e) h = subst P (sym e) h.0
    all-at (Memᴰ.tail m) h = all-at m h.1

-- by place
module _ {A : Type 0} (P : A → Type 0) (d : A) where
  pub all_get_d : (l : List A) → All P l → (i : ℕ) → i < length l → P (get_or l i d)
  all_get_d [] h i b = absurd (omega arith)
  all_get_d (x ∷ xs) h zero b = h.0
  all_get_d (x ∷ xs) h (suc i) b = all_get_d xs h.1 i (omega arith)

  pub get_or-all : (l : List A) → ((i : ℕ) → i < length l → P (get_or l i d)) → All P l
  get_or-all [] h = tt
  get_or-all (x ∷ xs) h = (h 0 (omega arith), get_or-all xs (λ i b. h (suc i) (omega arith)))

module _ {A : Type 0} (d : A) where
  -- two lists of one length that have the same at every place are equal
  pub same-places : (l m : List A) → length l ≡ length m → ((i : ℕ) → i < length l → get_or l i d ≡ get_or m i d) → l ≡ m
  same-places [] [] q h = refl
  same-places [] (y ∷ m) q h = absurd (omega arith)
  same-places (x ∷ l) [] q h = absurd (omega arith)
  same-places (x ∷ l) (y ∷ m) q h = ap₂ (λ z zs. z ∷ zs) (h 0 (omega arith)) (same-places l m (omega arith) (λ i b. h (suc i) (omega arith)))

-- filled up to an index

pub filled_more : (Q : ℕ → ℕ → Type 0) (l : List ℕ) (j r : ℕ) → j < length l → ((i : ℕ) → i < j → Q (get_or l i 0) i) → Q r j → (i : ℕ) → i < j + 1 → Q (get_or (set l j r) i 0) i
filled_more Q l j r h f q i k = go (order i j)
  where
    go : Order i j → Q (get_or (set l j r) i 0) i
    go (lower s) = subst (λ (z : ℕ). Q z i) (sym (get_or-set_other l j i r 0 (λ e. omega arith))) (f i s)
    go (level e) = subst (λ (z : ℕ). Q (get_or (set l j r) z 0) z) (sym e) (subst (λ (z : ℕ). Q z j) (sym (get_or-set_same l j r 0 h)) q)
    go (upper s) = absurd (omega arith)

-- Membership as a test

pub elem_at : (P : ℕ → Type 0) (a : ℕ) (l : List ℕ) → T (elem a l) → All P l → P a
unfolding elem
elem_at P a [] t h = absurd t
elem_at P a (x ∷ xs) t h =
    ⊎_elim (λ e. subst P (sym (eqb→eq a x e)) h.0) (λ m. elem_at P a xs m h.1) (either (eqb a x) (elem a xs) t)

pub all-elem : (P : ℕ → Type 0) (l : List ℕ) → ((a : ℕ) → T (elem a l) → P a) → All P l
unfolding elem
all-elem P [] f = tt
all-elem P (x ∷ xs) f =
    (f x (left (eqb x x) (elem x xs) (eqb_refl x)), all-elem P xs (λ a t. f a (right (eqb a x) (elem a xs) t)))

pub elem-front : (a : ℕ) (l m : List ℕ) → T (elem a l) → T (elem a (l ++ m))
unfolding elem
elem-front a [] m t = absurd t
elem-front a (x ∷ xs) m t =
    ⊎_elim (λ e. left (eqb a x) (elem a (xs ++ m)) e) (λ s. right (eqb a x) (elem a (xs ++ m)) (elem-front a xs m s))
    (either (eqb a x) (elem a xs) t)

pub elem_back : (a : ℕ) (l m : List ℕ) → T (elem a m) → T (elem a (l ++ m))
unfolding elem
elem_back a [] m t = t
elem_back a (x ∷ xs) m t = right (eqb a x) (elem a (xs ++ m)) (elem_back a xs m t)

pub elem_split : (a : ℕ) (l m : List ℕ) → T (elem a (l ++ m)) → T (elem a l) ⊎ T (elem a m)
unfolding elem
elem_split a [] m t = inr t
elem_split a (x ∷ xs) m t =
    ⊎_elim (λ e. inl (left (eqb a x) (elem a xs) e))
    (λ s. ⊎_elim (λ l. inl (right (eqb a x) (elem a xs) l)) inr (elem_split a xs m s))
    (either (eqb a x) (elem a (xs ++ m)) t)

-- a point in both lists is brought
pub brings-at : (a : ℕ) (l ps : List ℕ) → T (elem a l) → T (elem a ps) → T (brings l ps)
unfolding elem brings
brings-at a [] ps s t = absurd s
brings-at a (x ∷ xs) ps s t =
    ⊎_elim (λ e. left (elem x ps) (brings xs ps) (subst (λ (k : ℕ). T (elem k ps)) (eqb→eq a x e) t))
    (λ m. right (elem x ps) (brings xs ps) (brings-at a xs ps m t)) (either (eqb a x) (elem a xs) s)

-- Bounded searches

pub below_at : (f : ℕ → Bool) (k x : ℕ) → x < k → T (f x) → T (below f k)
unfolding below
below_at f zero x h t = absurd (omega arith)
below_at f (suc k) x h t = go (order x k) (λ l. below_at f k x l t)
  where
    go : Order x k → (x < k → T (below f k)) → T (f k || below f k)
    go (lower l) r = right (f k) (below f k) (r l)
    go (level e) r = left (f k) (below f k) (subst (λ (y : ℕ). T (f y)) e t)
    go (upper l) r = absurd (omega arith)

pub below_get : (f : ℕ → Bool) (k : ℕ) → T (below f k) → (x : ℕ) × (x < k) × T (f x)
unfolding below
below_get f zero t = absurd t
below_get f (suc k) t =
    ⊎_elim (λ s. (k, omega arith, s)) (λ s. let r = below_get f k s in (r.0, omega (arith, r.1), r.2))
    (either (f k) (below f k) t)

-- what a scan upwards from a, of k numbers, says by its answer; and one downwards from b
abbrev pub Up : (ℕ → Bool) → (a k : ℕ) → Option ℕ → Type 0
Up f a k none = (z : ℕ) → a < z → z ≤ a + k → T (f z) → ⊥
Up f a k (some x) = (a < x) × T (f x) × ((z : ℕ) → a < z → z < x → T (f z) → ⊥)

abbrev pub Down : (ℕ → Bool) → (b : ℕ) → Option ℕ → Type 0
Down f b none = (z : ℕ) → z < b → T (f z) → ⊥
Down f b (some x) = (x < b) × T (f x) × ((z : ℕ) → x < z → z < b → T (f z) → ⊥)

-- what fails at a and passes at z is not at one place
other_place : (f : ℕ → Bool) (a z : ℕ) → T (not (f a)) → T (f z) → z ≡ a → ⊥
other_place f a z n t q = T_not (f a) n (subst (λ (y : ℕ). T (f y)) q t)

pub scan_up : (f : ℕ → Bool) (a k : ℕ) → Up f a k (lowest_above f a k)
unfolding lowest_above
scan_up f a zero = λ z l m t. omega arith
scan_up f a (suc k) =
    ⊎_elim (λ t. rw (is_true (f (suc a)) t) (omega arith, t, λ z l m s. omega arith))
    (λ n. rw (is_false (f (suc a)) n) (one_further n (lowest_above f (suc a) k) (scan_up f (suc a) k)))
    (tell (f (suc a)))
  where
    one_further : T (not (f (suc a))) → (o : Option ℕ) → Up f (suc a) k o → Up f a (suc k) o
    one_further n none h = λ z l m t. let q = other_place f (suc a) z n t in h z (omega arith) (omega arith) t
    one_further n (some x) h = (omega (arith, h.0), h.1, λ z l m t. let q = other_place f (suc a) z n t in h.2 z (omega arith) m t)

pub scan_down : (f : ℕ → Bool) (b : ℕ) → Down f b (highest_below f b)
unfolding highest_below
scan_down f zero = λ z l t. omega arith
scan_down f (suc b) =
    ⊎_elim (λ t. rw (is_true (f b) t) (omega arith, t, λ z l m s. omega arith))
    (λ n. rw (is_false (f b) n) (one_further n (highest_below f b) (scan_down f b)))
    (tell (f b))
  where
    one_further : T (not (f b)) → (o : Option ℕ) → Down f b o → Down f (suc b) o
    one_further n none h = λ z l t. let q = other_place f b z n t in h z (omega arith) t
    one_further n (some x) h = (omega (arith, h.0), h.1, λ z l m t. let q = other_place f b z n t in h.2 z l (omega arith) t)
