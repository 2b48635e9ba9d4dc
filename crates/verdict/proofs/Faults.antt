-- The rows at fault that the walks give are the scenario's.
-- Assumes nothing.
use mathlib.Core.Path.{◌≡◌, refl, sym, ◌∙◌, ap, subst}
use mathlib.Core.Bool.{Bool, true, false, not, ◌&&◌, cond}
use mathlib.Core.List.{List, [], ◌∷◌, ◌++◌, map}
use Prim.Native.Nat.{ℕ, zero, suc, ◌+◌, ◌≤◌}
use native.Mathlib.Omega.{arith}
use lib.ListN.{length, get_or, set, drop, replicate}
use lib.Dec.{T, eqb}
use borrow.Author.Tests.{ne_eqb}
use Rattle.scenario.specs.Rows.{Row, Run, Env, points}
use Rattle.scenario.specs.Walk.{Walk, through, stops, walk}
use Rattle.scenario.specs.Sheet.{Sheet, all, env}
use Rattle.scenario.specs.Search.{stopped, place_of, faults}
use Rattle.scenario.specs.Fields.{Tagged, tag, tagged}
use Rattle.scenario.specs.Reading.{All}
use Rattle.scenario.proofs.Base.{both, all-front, all_back}
use Rattle.scenario.proofs.Rules.{Laws}
use Rattle.scenario.proofs.Glue.{Sections}
use Rattle.scenario.proofs.Agreement.{Base, Sound}
use Rattle.runlog.proofs.Whole.{lay-is}
use Rattle.verdict.specs.Check.{front}
use Rattle.runlog.specs.Log.{lay}
use Rattle.consequent.specs.Walk.{fault_in, faulty, faults_in}
use Rattle.consequent.proofs.Walk.{Behind, faults-length, first-behind, next-behind, number, section_at_lem}

-- One of the consequents cs goes through, and each of its rows has the property Q.
pub record Through (halted : List Row → Bool) (Q : Row → Type 0) (cs : List (List Row)) : Type 0 where
  pub rows : List Row
  pub inside : (f : List Row → Bool) → T (all f cs) → T (f rows)
  pub met : T (not (halted rows))
  pub each : All Q rows

through_later : (halted : List Row → Bool) (Q : Row → Type 0) (x : List Row) (cs : List (List Row)) → Through halted Q cs → Through halted Q (x ∷ cs)
unfolding all
through_later halted Q x cs t = record { rows = t.rows; inside = λ f u. t.inside f (both (f x) (all f cs) u).1; met = t.met; each = t.each }

untagged : (Q : ℕ → Row → Type 0) (i : ℕ) (rs : List Row) → All (λ (t : Tagged). Q t.section t.row) (map (tag i) rs) → All (Q i) rs
untagged Q i [] h = tt
untagged Q i (r ∷ rs) h = (h.0, untagged Q i rs h.1)

-- which one is told is one of them
pub met-most : (run : Run) (ts : List Tagged) (E : List ℕ) (c left : ℕ) (rows : List ℕ) → (faults_in run ts E c left rows).met ≤ c + left
unfolding faults_in
met-most run ts E c zero rows = omega arith
met-most run ts E c (suc left) rows = go (eqb (fault_in run (suc c) E 0 ts) 0) (met-most run ts E (suc c) left (set rows c (fault_in run (suc c) E 0 ts)))
  where
    go : (b : Bool) → (faults_in run ts E (suc c) left (set rows c (fault_in run (suc c) E 0 ts))).met ≤ suc c + left
        → (cond b (faulty (suc c) (replicate 6 0)) (faults_in run ts E (suc c) left (set rows c (fault_in run (suc c) E 0 ts)))).met ≤ c + suc left
    go true h = omega arith
    go false h = omega arith

-- All of them, over a placement xs of the antecedent
module _ (run : Run) (L : Laws run) (sheet : Sheet) (ts : List Tagged) (xs E : List ℕ) (l : length E ≡ 100) (A : (m : ℕ) → Base sheet m → get_or E m 0 ≡ env run (points sheet.antecedent) xs m) where
  abbrev pub e₁ : Env
  e₁ = env run (points sheet.antecedent) xs

  abbrev pub halted : List Row → Bool
  halted c = stopped (walk run e₁ c)

  all-is : (cs : List (List Row)) (c o : ℕ) (rows : List ℕ) → Behind run ts c o cs → c + length cs ≤ 6 → Sections (Base sheet) (suc c) cs
      → eqb (faults_in run ts E c (length cs) rows).met 0 ≡ all halted cs
  unfolding faults_in all
  all-is [] c o rows B h X = refl
  all-is (x ∷ cs) c o rows B h X =
      rw (section_at_lem run L (Base sheet) ts E e₁ l A c o x cs B (omega arith) X.0)
      (go (walk run e₁ x) (λ rows. all-is cs (suc c) (o + length x) rows (next-behind run ts c o x cs B) (omega arith) X.1))
    where
      go : (v : Walk) → ((rows : List ℕ) → eqb (faults_in run ts E (suc c) (length cs) rows).met 0 ≡ all halted cs)
          → eqb (cond (eqb (number o v) 0) (faulty (suc c) (replicate 6 0)) (faults_in run ts E (suc c) (length cs) (set rows c (number o v)))).met 0 ≡ (stopped v && all halted cs)
      go (through e) f = ne_eqb (suc c) 0 (λ q. omega arith)
      go (stops j) f = rw (ne_eqb (o + j + 1) 0 (λ q. omega arith)) (f (set rows c (o + j + 1)))

  rows_are : (cs : List (List Row)) (c o : ℕ) (rows : List ℕ) → Behind run ts c o cs → c + length cs ≤ 6 → Sections (Base sheet) (suc c) cs
      → T (all halted cs) → (faults_in run ts E c (length cs) rows).rows ≡ lay c (faults run sheet xs o cs) rows
  unfolding faults_in all lay faults
  rows_are [] c o rows B h X t = refl
  rows_are (x ∷ cs) c o rows B h X t =
      rw (section_at_lem run L (Base sheet) ts E e₁ l A c o x cs B (omega arith) X.0)
      (go (walk run e₁ x) t (λ rows s. rows_are cs (suc c) (o + length x) rows (next-behind run ts c o x cs B) (omega arith) X.1 s))
    where
      go : (v : Walk) → T (stopped v && all halted cs) → ((rows : List ℕ) → T (all halted cs) → (faults_in run ts E (suc c) (length cs) rows).rows ≡ lay (suc c) (faults run sheet xs (o + length x) cs) rows)
          → (cond (eqb (number o v) 0) (faulty (suc c) (replicate 6 0)) (faults_in run ts E (suc c) (length cs) (set rows c (number o v)))).rows
          ≡ lay (suc c) (faults run sheet xs (o + length x) cs) (set rows c (o + place_of v + 1))
      go (through e) t f = absurd t
      go (stops j) t f = rw (ne_eqb (o + j + 1) 0 (λ q. omega arith)) (f (set rows c (o + j + 1)) t)

  -- where one is told, it goes through, and its rows have what all rows of its section have
  one-through : (Q : ℕ → Row → Type 0) (cs : List (List Row)) (c o : ℕ) (rows : List ℕ) → Behind run ts c o cs → c + length cs ≤ 6 → Sections (Base sheet) (suc c) cs
      → All (λ (t : Tagged). Q t.section t.row) (tagged (suc c) cs)
      → ((faults_in run ts E c (length cs) rows).met ≡ 0 → ⊥) → Through halted (Q (faults_in run ts E c (length cs) rows).met) cs
  unfolding faults_in tagged all
  one-through Q [] c o rows B h X q e = absurd (e refl)
  one-through Q (x ∷ cs) c o rows B h X q e =
      subst At (sym (section_at_lem run L (Base sheet) ts E e₁ l A c o x cs B (omega arith) X.0))
      (go (walk run e₁ x) refl
      (λ rows. one-through Q cs (suc c) (o + length x) rows (next-behind run ts c o x cs B) (omega arith) X.1 (all_back (λ (t : Tagged). Q t.section t.row) (map (tag (suc c)) x) (tagged (suc (suc c)) cs) q))) e
    where
      At : ℕ → Type 0
      At z = ((cond (eqb z 0) (faulty (suc c) (replicate 6 0)) (faults_in run ts E (suc c) (length cs) (set rows c z))).met ≡ 0 → ⊥)
          → Through halted (Q (cond (eqb z 0) (faulty (suc c) (replicate 6 0)) (faults_in run ts E (suc c) (length cs) (set rows c z))).met) (x ∷ cs)

      go : (v : Walk) → walk run e₁ x ≡ v
          → ((rows : List ℕ) → ((faults_in run ts E (suc c) (length cs) rows).met ≡ 0 → ⊥) → Through halted (Q (faults_in run ts E (suc c) (length cs) rows).met) cs)
          → At (number o v)
      go (through f) w r e = record {
        rows = x;
        inside = λ f t. (both (f x) (all f cs) t).0;
        met = subst (λ (v : Walk). T (not (stopped v))) (sym w) tt;
        each = untagged Q (suc c) x (all-front (λ (t : Tagged). Q t.section t.row) (map (tag (suc c)) x) (tagged (suc (suc c)) cs) q);
      }
      go (stops j) w r e = subst
          (λ (b : Bool). ((cond b (faulty (suc c) (replicate 6 0)) (faults_in run ts E (suc c) (length cs) (set rows c (o + j + 1)))).met ≡ 0 → ⊥)
          → Through halted (Q (cond b (faulty (suc c) (replicate 6 0)) (faults_in run ts E (suc c) (length cs) (set rows c (o + j + 1)))).met) (x ∷ cs))
          (sym (ne_eqb (o + j + 1) 0 (λ q. omega arith)))
          (λ e. through_later halted (Q (faults_in run ts E (suc c) (length cs) (set rows c (o + j + 1))).met) x cs (r (set rows c (o + j + 1)) e)) e

  module _ (S : Sound sheet) (few : length sheet.consequents ≤ 6) (et : ts ≡ tagged 0 (sheet.antecedent ∷ sheet.consequents)) where
    pub all_halt : (k : ℕ) → length sheet.consequents ≡ k → (rows : List ℕ) → eqb (faults_in run ts E 0 k rows).met 0 ≡ all halted sheet.consequents
    all_halt k q rows = ap (λ (z : ℕ). eqb (faults_in run ts E 0 z rows).met 0) (sym q) ∙ all-is sheet.consequents 0 (length sheet.antecedent) rows (first-behind run ts sheet et) (omega arith) S.sections

    pub one_extends : (Q : ℕ → Row → Type 0) → All (λ (t : Tagged). Q t.section t.row) ts → (k : ℕ) → length sheet.consequents ≡ k → (rows : List ℕ)
        → ((faults_in run ts E 0 k rows).met ≡ 0 → ⊥) → Through halted (Q (faults_in run ts E 0 k rows).met) sheet.consequents
    unfolding tagged
    one_extends Q h k q rows = subst (λ (z : ℕ). ((faults_in run ts E 0 z rows).met ≡ 0 → ⊥) → Through halted (Q (faults_in run ts E 0 z rows).met) sheet.consequents) q
        (one-through Q sheet.consequents 0 (length sheet.antecedent) rows (first-behind run ts sheet et) (omega arith) S.sections
        (all_back (λ (t : Tagged). Q t.section t.row) (map (tag 0) sheet.antecedent) (tagged 1 sheet.consequents) (subst (All (λ (t : Tagged). Q t.section t.row)) et h)))

    pub fault-rows : (k : ℕ) → length sheet.consequents ≡ k → T (all halted sheet.consequents) → (faults_in run ts E 0 k (replicate 6 0)).rows ≡ front 6 (faults run sheet xs (length sheet.antecedent) sheet.consequents)
    unfolding front
    fault-rows k q t =
        let fs = faults run sheet xs (length sheet.antecedent) sheet.consequents in
        let z : 0 + length fs ≡ length fs = omega arith in
        let h : 0 + length fs ≤ 6 = omega (arith, faults-length run sheet xs sheet.consequents (length sheet.antecedent)) in
        ap (λ (z : ℕ). (faults_in run ts E 0 z (replicate 6 0)).rows) (sym q)
        ∙ rows_are sheet.consequents 0 (length sheet.antecedent) (replicate 6 0) (first-behind run ts sheet et) (omega arith) S.sections t
        ∙ lay-is fs 0 (replicate 6 0) h ∙ ap (λ (k : ℕ). fs ++ drop k (replicate 6 0)) z
