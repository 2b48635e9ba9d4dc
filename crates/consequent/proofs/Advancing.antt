-- One row further, by kind; and one row, one consequent more of the walks in specs/Walk.antt.
-- Assumes nothing.
use mathlib.Core.Path.{◌≡◌, refl, sym, ◌∙◌, ap, ap₂, subst}
use mathlib.Core.Bool.{Bool, true, false, not, cond}
use mathlib.Core.Option.{Option, none, some}
use mathlib.Core.List.{List}
use Prim.Native.Nat.{ℕ, zero, suc, ◌+◌, ◌-◌, ◌≤◌, ◌<◌, min, max}
use native.Mathlib.Numerals.{add-one}
use native.Mathlib.Omega.{arith}
use lib.ListN.{get_or, set, replicate}
use lib.Dec.{eqb}
use borrow.Author.Tests.{eq-eqb, ne_eqb}
use Rattle.std.specs.Prelude.{Option as Answer, Some, None, is_some as is_there}
use Rattle.scenario.specs.Rows.{Row, point, next, last, earlier, later, before, apart, same, free, within, outside, event, Run, meets, introduced}
use Rattle.scenario.specs.Walk.{lowest_above, highest_below}
use Rattle.scenario.specs.Log.{has_at}
use Rattle.scenario.specs.Fields.{decode, Tagged}
use Rattle.scenario.specs.Reading.{All}
use Rattle.run.specs.Words.{events_in, line_count}
use Rattle.run.specs.Held.{Held, part, run_held, position_of}
use Rattle.row.specs.Memory.{section_at, row_at, listed, tag_at}
use Rattle.pattern.specs.Placing.{by}
use Rattle.run.proofs.Logs.{part_length}
use Rattle.run.proofs.Scans.{value-is, none≢some}
use Rattle.consequent.specs.Walk.{onto_in, moved_to, stay_in, advance_in, is_some, or_keep, onward, fault_in, faulty, faults_in, consequent_of}

-- what is put is what was found
onto-met : (E : List ℕ) (p : ℕ) (o : Option ℕ) → is_there (position_of o) ≡ is_some (onto_in E p o)
onto-met E p none = refl
onto-met E p (some x) = refl

onto-env : (E : List ℕ) (p : ℕ) (o : Option ℕ) → moved_to E p (position_of o) ≡ or_keep E (onto_in E p o)
onto-env E p none = refl
onto-env E p (some x) = refl

stay-met : (b : Bool) (E : List ℕ) → is_some (stay_in b E) ≡ b
stay-met true E = refl
stay-met false E = refl

stay-env : (b : Bool) (E : List ℕ) → or_keep E (stay_in b E) ≡ E
stay-env true E = refl
stay-env false E = refl

-- the answer o, as a result and what env holds then
abbrev pub Advanced : List ℕ → Option (List ℕ) → Bool → List ℕ → Type 0
Advanced E o r E' = (r ≡ is_some o) × (E' ≡ or_keep E o)

module _ (run E : List ℕ) (row : Row) (kind p q a b s y : ℕ) (H : Held run) (er : decode kind p q a b s ≡ row) (ey : y ≡ get_or E q 0) where
  abbrev pub here : Option (List ℕ)
  here = advance_in (run_held run) E row

  told : (o : Option (List ℕ)) (r : Bool) (E' : List ℕ) → here ≡ o → Advanced E o r E' → Advanced E here r E'
  told o r E' e g = subst (λ (z : Option (List ℕ)). Advanced E z r E') (sym e) g

  at_1 : kind ≡ 1 → here ≡ none
  unfolding decode advance_in
  at_1 k = rw (← er, k)

  at_2 : kind ≡ 2 → here ≡ onto_in E p (lowest_above (has_at (part (events_in run) (line_count run)) s) y (line_count run - y))
  unfolding decode advance_in
  at_2 k = rw (← er, k, ey, part_length (events_in run) (line_count run) H.lines.room)

  at_3 : kind ≡ 3 → here ≡ onto_in E p (highest_below (has_at (part (events_in run) (line_count run)) s) y)
  unfolding decode advance_in
  at_3 k = rw (← er, k, ey)

  at_4 : kind ≡ 4 → here ≡ some (set E p (min (get_or E q 0) (get_or E a 0)))
  unfolding decode advance_in
  at_4 k = rw (← er, k)

  at_5 : kind ≡ 5 → here ≡ some (set E p (max (get_or E q 0) (get_or E a 0)))
  unfolding decode advance_in
  at_5 k = rw (← er, k)

  pub advanced_point : kind ≡ 1 → Advanced E here false E
  advanced_point k = told none false E (at_1 k) (refl, refl)

  module _ (x : Answer ℕ) (r : Bool) (E' : List ℕ) (ep : r ≡ is_there x) (ee : E' ≡ moved_to E p x) where
    put_gone : (o : Option ℕ) → x ≡ position_of o → Advanced E (onto_in E p o) r E'
    put_gone o f = (ep ∙ ap is_there f ∙ onto-met E p o, ee ∙ ap (moved_to E p) f ∙ onto-env E p o)

    pub advanced_next : kind ≡ 2 → x ≡ position_of (lowest_above (has_at (part (events_in run) (line_count run)) s) y (line_count run - y)) → Advanced E here r E'
    advanced_next k f = told _ r E' (at_2 k) (put_gone _ f)

    pub advanced_last : kind ≡ 3 → x ≡ position_of (highest_below (has_at (part (events_in run) (line_count run)) s) y) → Advanced E here r E'
    advanced_last k f = told _ r E' (at_3 k) (put_gone _ f)

  module _ (z x : ℕ) (E' : List ℕ) (ez : z ≡ get_or E a 0) (ee : E' ≡ set E p x) where
    pub advanced_earlier : kind ≡ 4 → x ≡ min y z → Advanced E here true E'
    advanced_earlier k f = told (some (set E p x)) true E' (at_4 k ∙ ap (λ (m : ℕ). some (set E p m)) (sym (f ∙ ap₂ min ey ez))) (refl, ee)

    pub advanced_later : kind ≡ 5 → x ≡ max y z → Advanced E here true E'
    advanced_later k f = told (some (set E p x)) true E' (at_5 k ∙ ap (λ (m : ℕ). some (set E p m)) (sym (f ∙ ap₂ max ey ez))) (refl, ee)

  -- the other kinds are tests
  test : (k : ℕ) → (k ≡ 1 → ⊥) → (k ≡ 2 → ⊥) → (k ≡ 3 → ⊥) → (k ≡ 4 → ⊥) → (k ≡ 5 → ⊥)
      → advance_in (run_held run) E (decode k p q a b s) ≡ stay_in (meets (run_held run) (by E) (decode k p q a b s)) E
  unfolding decode advance_in
  test zero c d e f g = refl
  test (suc zero) c d e f g = absurd (c refl)
  test (suc (suc zero)) c d e f g = absurd (d refl)
  test (suc (suc (suc zero))) c d e f g = absurd (e refl)
  test (suc (suc (suc (suc zero)))) c d e f g = absurd (f refl)
  test (suc (suc (suc (suc (suc zero))))) c d e f g = absurd (g refl)
  test (suc (suc (suc (suc (suc (suc zero)))))) c d e f g = refl
  test (suc (suc (suc (suc (suc (suc (suc zero))))))) c d e f g = refl
  test (suc (suc (suc (suc (suc (suc (suc (suc zero)))))))) c d e f g = refl
  test (suc (suc (suc (suc (suc (suc (suc (suc (suc zero))))))))) c d e f g = refl
  test (suc (suc (suc (suc (suc (suc (suc (suc (suc (suc zero)))))))))) c d e f g = refl
  test (suc (suc (suc (suc (suc (suc (suc (suc (suc (suc (suc zero))))))))))) c d e f g = refl
  test (suc (suc (suc (suc (suc (suc (suc (suc (suc (suc (suc (suc zero)))))))))))) c d e f g = refl
  test (suc (suc (suc (suc (suc (suc (suc (suc (suc (suc (suc (suc (suc k))))))))))))) c d e f g = refl

  pub advanced_test : (kind ≡ 1 → ⊥) → (kind ≡ 2 → ⊥) → (kind ≡ 3 → ⊥) → (kind ≡ 4 → ⊥) → (kind ≡ 5 → ⊥)
      → (r : Bool) → r ≡ meets (run_held run) (by E) row → Advanced E here r E
  advanced_test c d e f g r em =
      told (stay_in r E) r E (tested ∙ ap (λ (t : Bool). stay_in t E) (sym em)) (sym (stay-met r E), sym (stay-env r E))
    where
      tested : here ≡ stay_in (meets (run_held run) (by E) row) E
      tested = rw (← er) (test kind c d e f g)

-- One row further: what holds of the array, and wherever the row puts its own point, holds of what it leaves.
module _ (run : Run) (E : List ℕ) (P : List ℕ → Type 0) (was : P E) where
  onto_leaves : (p : ℕ) (o : Option ℕ) → ((x : ℕ) → P (set E p x)) → P (or_keep E (onto_in E p o))
  onto_leaves p none h = was
  onto_leaves p (some x) h = h x

  stay_leaves : (b : Bool) → P (or_keep E (stay_in b E))
  stay_leaves b = subst P (sym (stay-env b E)) was

  pub advance_leaves : (k : Row) → ((x : ℕ) → All (λ (p : ℕ). P (set E p x)) (introduced k)) → P (or_keep E (advance_in run E k))
  unfolding advance_in
  advance_leaves (point p s) h = was
  advance_leaves (next p q s) h = onto_leaves p (lowest_above (run.has s) (get_or E q 0) (run.lines - get_or E q 0)) (λ x. (h x).0)
  advance_leaves (last p q s) h = onto_leaves p (highest_below (run.has s) (get_or E q 0)) (λ x. (h x).0)
  advance_leaves (earlier p q a) h = (h (min (get_or E q 0) (get_or E a 0))).0
  advance_leaves (later p q a) h = (h (max (get_or E q 0) (get_or E a 0))).0
  advance_leaves (before p q) h = stay_leaves (meets run (by E) (before p q))
  advance_leaves (apart p q) h = stay_leaves (meets run (by E) (apart p q))
  advance_leaves (same p q) h = stay_leaves (meets run (by E) (same p q))
  advance_leaves (free p q s) h = stay_leaves (meets run (by E) (free p q s))
  advance_leaves (within p q lo hi) h = stay_leaves (meets run (by E) (within p q lo hi))
  advance_leaves (outside p q lo hi) h = stay_leaves (meets run (by E) (outside p q lo hi))
  advance_leaves (event p s) h = stay_leaves (meets run (by E) (event p s))

-- a consequent's number is not 0
pub met_is : (c m : ℕ) → 0 < c → c ≡ m → Some c ≡ consequent_of m
met_is c zero h e = absurd (omega arith)
met_is c (suc m) h e = ap Some e

pub met-none : (m : ℕ) (r : Answer ℕ) → r ≡ consequent_of m → r ≡ None → m ≡ 0
met-none zero r e z = refl
met-none (suc m) r e z = absurd (none≢some (sym z ∙ e))

pub met-some : (m : ℕ) (r : Answer ℕ) → r ≡ consequent_of m → (c : ℕ) → r ≡ Some c → c ≡ m
met-some zero r e c z = absurd (none≢some (sym e ∙ z))
met-some (suc m) r e c z = value-is (sym z ∙ e)

pub met-there : (m : ℕ) (r : Answer ℕ) → r ≡ consequent_of m → (c : ℕ) → r ≡ Some c → c ≡ 0 → ⊥
met-there zero r e c z n = none≢some (sym e ∙ z)
met-there (suc m) r e c z n = let s : suc m ≡ c = value-is (sym e ∙ z) in omega arith

-- Rows

module _ (run : Run) (rows : List ℕ) (count i : ℕ) (E : List ℕ) (j : ℕ) where
  -- what is left from row j on
  abbrev pub rest : List ℕ → ℕ → ℕ
  rest E j = fault_in run i E j (listed (tag_at rows) j (count - j))

  pub fault-end : count ≤ j → rest E j ≡ 0
  unfolding fault_in listed
  fault-end h = let e : count - j ≡ 0 = omega arith in rw e

  module _ (h : j < count) where
    more : count - j ≡ suc (count - (j + 1))
    more = omega arith

    pub fault-other : (section_at rows j ≡ i → ⊥) → rest E j ≡ rest E (j + 1)
    unfolding fault_in listed
    fault-other ns = rw more (simp (ne_eqb _ _ ns, add-one))

    opened : section_at rows j ≡ i → rest E j ≡ onward (advance_in run E (row_at rows j)) (j + 1) (λ E'. rest E' (j + 1))
    unfolding fault_in listed
    opened s = rw more (simp (eq-eqb _ _ s, add-one))

    stop-at : (o : Option (List ℕ)) (f : List ℕ → ℕ) → is_some o ≡ false → onward o (j + 1) f ≡ j + 1
    stop-at none f e = refl
    stop-at (some E') f e = let z : ◌≡◌ {A = ℕ} 0 1 = cc in absurd (omega arith)

    go_on : (o : Option (List ℕ)) (f : List ℕ → ℕ) → is_some o ≡ true → onward o (j + 1) f ≡ f (or_keep E o)
    go_on none f e = let z : ◌≡◌ {A = ℕ} 0 1 = cc in absurd (omega arith)
    go_on (some E') f e = refl

    pub fault-here : section_at rows j ≡ i → is_some (advance_in run E (row_at rows j)) ≡ false → rest E j ≡ j + 1
    fault-here s e = opened s ∙ stop-at (advance_in run E (row_at rows j)) (λ E'. rest E' (j + 1)) e

    pub fault-on : section_at rows j ≡ i → is_some (advance_in run E (row_at rows j)) ≡ true → rest E j ≡ rest (or_keep E (advance_in run E (row_at rows j))) (j + 1)
    fault-on s e = opened s ∙ go_on (advance_in run E (row_at rows j)) (λ E'. rest E' (j + 1)) e

    -- the same with what the code has at hand
    module _ (s : ℕ) (es : s ≡ section_at rows j) where
      pub skip : (s ≡ i → ⊥) → rest E j ≡ rest E (j + 1)
      skip n = fault-other (λ e. n (es ∙ e))

      module _ (si : s ≡ i) (r : Bool) (er : r ≡ is_some (advance_in run E (row_at rows j))) where
        pub stuck : r ≡ false → rest E j ≡ j + 1
        stuck f = fault-here (sym es ∙ si) (sym er ∙ f)

        pub passed : (E' : List ℕ) → E' ≡ or_keep E (advance_in run E (row_at rows j)) → r ≡ true → rest E j ≡ rest E' (j + 1)
        passed E' ee f = fault-on (sym es ∙ si) (sym er ∙ f) ∙ ap (λ (z : List ℕ). rest z (j + 1)) (sym ee)

-- Consequents

module _ (run : Run) (ts : List Tagged) (E : List ℕ) (c k : ℕ) (rows : List ℕ) where
  pub faults-end : k ≤ c → faults_in run ts E c (k - c) rows ≡ faulty 0 rows
  unfolding faults_in
  faults-end h = let e : k - c ≡ 0 = omega arith in rw e

  pub faults-none : c < k → fault_in run (c + 1) E 0 ts ≡ 0 → faults_in run ts E c (k - c) rows ≡ faulty (c + 1) (replicate 6 0)
  unfolding faults_in
  faults-none h z = let e : k - c ≡ suc (k - (c + 1)) = omega arith in let v = rw add-one at z in rw (e, v, add-one c)

  pub faults-on : c < k → (f : ℕ) → fault_in run (c + 1) E 0 ts ≡ f → (f ≡ 0 → ⊥) → faults_in run ts E c (k - c) rows ≡ faults_in run ts E (c + 1) (k - (c + 1)) (set rows c f)
  unfolding faults_in
  faults-on h f z nz = let e : k - c ≡ suc (k - (c + 1)) = omega arith in let v = rw add-one at z in rw (e, v) (simp (ne_eqb _ _ nz, add-one))
