-- The events that sets have in common, as a number: their bitwise and, which is 0 exactly when there is none.
-- Assumes nothing.
use mathlib.Core.Path.{◌≡◌, refl, sym, ap, ◌∙◌, subst}
use mathlib.Core.Logic.{◌⊎◌, inl, inr}
use mathlib.Core.Bool.{Bool, true, false, not, ◌&&◌, ◌||◌, cond}
use mathlib.Core.List.{List, [], ◌∷◌, ◌++◌}
use Prim.Native.Nat.{ℕ, ◌-◌, ◌≤◌, ◌<◌}
use native.Mathlib.Omega.{arith}
use lib.Bits.{bit_and}
use lib.Dec.{T, eqb}
use borrow.Author.Tests.{eqb-true, eqb-false}
use Rattle.scenario.specs.Rows.{Row, event_count, full_set, below, gather}
use Rattle.scenario.specs.Fields.{decode}
use Rattle.scenario.specs.Log.{in_set}
use Rattle.scenario.specs.Sheet.{all}
use Rattle.scenario.proofs.Base.{tell, is_true, is_false, below_at, below_get}
use Rattle.scenario.proofs.Logs.{in_set-none, in_set-full}
use Rattle.scenario.proofs.Bits.{in_set-and, trailing_hit, in_set-within}
use lib.Count.{count_trailing_zeros}
use Rattle.row.specs.Memory.{row_at, listed, rows_of}
use Rattle.impossibility.specs.Impossible.{SetFor, set_for, part, sets}
use Rattle.contradiction.specs.Table.{asking, leads_in, shared_in, Narrowed, Common}
use Rattle.impossibility.proofs.Tests.{all_both, below-same}
use Rattle.contradiction.proofs.Parts.{asked}
use Rattle.contradiction.proofs.Entering.{none-listed, one_more, all_listed}

-- A set of events, tested event by event or as a number

pub empty_or_not : (s : ℕ) → s ≤ full_set → not (below (in_set s) event_count) ≡ eqb s 0
empty_or_not s h = go (eqb s 0) refl
  where
    go : (b : Bool) → eqb s 0 ≡ b → not (below (in_set s) event_count) ≡ b
    go true e = ap not (is_false (below (in_set s) event_count) (none (tell (below (in_set s) event_count))))
      where
        none : T (below (in_set s) event_count) ⊎ T (not (below (in_set s) event_count)) → T (not (below (in_set s) event_count))
        none (inl t) =
            let g = below_get (in_set s) event_count t in
            absurd (subst T (ap (λ (k : ℕ). in_set k g.0) (eqb-true s 0 e) ∙ in_set-none g.0) g.2)
        none (inr n) = n
    go false e =
        let z = eqb-false s 0 e in
        let hit = trailing_hit event_count s (omega arith) (omega arith) in
        ap not (is_true (below (in_set s) event_count)
        (below_at (in_set s) event_count (count_trailing_zeros event_count s) (in_set-within s event_count (count_trailing_zeros event_count s) (omega arith) hit) (subst T (sym hit) tt)))

-- One row more

module _ (table : List ℕ) (k p' q a b s p set : ℕ) where
  abbrev row : Row
  row = decode k p' q a b s

  and_swap : (x y : Bool) → x && y ≡ y && x
  and_swap true true = refl
  and_swap true false = refl
  and_swap false true = refl
  and_swap false false = refl

  pub asks_none : asking k ≡ false → Narrowed table row p set set
  unfolding shared_in all
  asks_none e x = sym (ap (λ (hs : List SetFor). shared_in table hs p x && in_set set x) (asked p' q a b s k ∙ ap (λ (c : Bool). cond c (set_for p' s ∷ []) []) e))

  -- what is shared by the row's set
  by_row : asking k ≡ true → (x : ℕ) → shared_in table (part row).sets p x ≡ (not (leads_in table p p') || in_set s x)
  unfolding shared_in all
  by_row e x = ap (λ (hs : List SetFor). shared_in table hs p x) (asked p' q a b s k ∙ ap (λ (c : Bool). cond c (set_for p' s ∷ []) []) e) ∙ last-true (not (leads_in table p p') || in_set s x)
    where
      last-true : (c : Bool) → c && true ≡ c
      last-true true = refl
      last-true false = refl

  pub leads-not : asking k ≡ true → leads_in table p p' ≡ false → Narrowed table row p set set
  leads-not e f x = sym (ap (λ (c : Bool). c && in_set set x) (by_row e x ∙ ap (λ (c : Bool). not c || in_set s x) f))

  pub narrowed : asking k ≡ true → leads_in table p p' ≡ true → Narrowed table row p set (bit_and set s)
  narrowed e f x = in_set-and x set s ∙ and_swap (in_set set x) (in_set s x) ∙ sym (ap (λ (c : Bool). c && in_set set x) (by_row e x ∙ ap (λ (c : Bool). not c || in_set s x) f))

-- All rows

module _ (table rows : List ℕ) (p : ℕ) where
  abbrev pub CommonFrom : (i n set : ℕ) → Type 0
  CommonFrom i n set = Common table (sets (listed (row_at rows) i (n - i))) p set

  pub none-narrow : (n : ℕ) → CommonFrom n n full_set
  unfolding shared_in all gather
  none-narrow n x l = in_set-full x l ∙ sym (ap (λ (ks : List Row). shared_in table (sets ks) p x) (none-listed (row_at rows) n))

  pub one_narrows : (i n : ℕ) → 0 < i → i ≤ n → (row : Row) → row ≡ row_at rows (i - 1) → (set set' : ℕ) → CommonFrom i n set → Narrowed table row p set set' → CommonFrom (i - 1) n set'
  unfolding shared_in gather
  one_narrows i n l h row e set set' c d x b =
      d x ∙ ap (λ (y : Bool). shared_in table (part row).sets p x && y) (c x b)
      ∙ sym (all_both (λ (h : SetFor). not (leads_in table p h.at) || in_set h.set x) (part row).sets (sets (listed (row_at rows) i (n - i))))
      ∙ ap (λ (k : Row). shared_in table ((part k).sets ++ sets (listed (row_at rows) i (n - i))) p x) e
      ∙ sym (ap (λ (ks : List Row). shared_in table (sets ks) p x) (one_more (row_at rows) i n l h))

  pub all-narrow : (i n set : ℕ) → i ≤ 0 → CommonFrom i n set → Common table (sets (rows_of rows n)) p set
  unfolding rows_of
  all-narrow i n set h c = subst (λ (ks : List Row). Common table (sets ks) p set) (all_listed (row_at rows) i n h) c

-- Rule 1 by a number
pub no_event-shared : (table : List ℕ) (hs : List SetFor) (p set : ℕ) → set ≤ full_set → Common table hs p set → not (below (shared_in table hs p) event_count) ≡ eqb set 0
no_event-shared table hs p set h c = ap not (sym (below-same (in_set set) (shared_in table hs p) event_count c)) ∙ empty_or_not set h
