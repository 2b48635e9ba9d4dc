-- Search antiscenario m over bytes: the answer by how the search ends, and that what is said is so ("none" exactly if no matching exists, else the smallest).
-- Assumes nothing.
use mathlib.Core.Path.{◌≡◌, refl, sym, ◌∙◌, ap₂, subst}
use mathlib.Core.Bool.{Bool, true, false, not, cond}
use mathlib.Core.List.{List}
use Prim.Native.Nat.{ℕ, ◌≤◌, ◌<◌}
use native.Mathlib.Omega.{arith}
use lib.ListN.{length}
use lib.Dec.{eqb, ltb}
use borrow.Author.Tests.{eq-eqb, ne_eqb, eqb-false, le-ltb, lt-ltb, not-true}
use Rattle.scenario.specs.Rows.{Row, Run, points}
use Rattle.scenario.specs.Sheet.{Answer, nothing, found, Says, antiscenario}
use Rattle.scenario.specs.Search.{smallest_matching}
use Rattle.scenario.proofs.Least.{search_says}
use Rattle.runlog.specs.Log.{run_in}
use Rattle.run.specs.Held.{run_held}
use Rattle.sheet.specs.Reading.{sheet_in}
use Rattle.row.specs.Memory.{rows_of}
use Rattle.antiscenario.specs.Judge.{refusal_of}
use Rattle.antiscenario.specs.Held.{Ready}
use Rattle.std.specs.Prelude.{Result, Ok, Err, OnOk}
use Rattle.refusal.specs.declared.Refusal.{Refusal}
use Rattle.search.specs.Searching.{answered, filled, Searched, unsearched, searched, search_rows, search_of, Matches, Told}
use Rattle.placing.specs.Matching.{is_found}
use Rattle.scenario.proofs.Base.{never}

-- Rows in memory

module _ (run : Run) (rs : List Row) (places : List ℕ) (np : ℕ) (en : np ≡ length (points rs)) where
  pub too_few : length places < np → unsearched 33 places ≡ search_rows run rs places
  too_few h = simp (lt-ltb (length places) (length (points rs)) (omega (arith, en)))

  pub enough : (hit : Bool) (kept : List ℕ) → np ≤ length places → hit ≡ is_found (smallest_matching run rs) → kept ≡ filled places (smallest_matching run rs)
      → record { refusal = 0; hit = hit; places = kept } ≡ search_rows run rs places
  enough hit kept h eh ek = rw (eh, ek) (simp (le-ltb (length places) (length (points rs)) (omega (arith, en))))

-- Bytes: the answer by how it ends

module _ (s l : List ℕ) (m : ℕ) (places : List ℕ) where
  pub refused : (r : ℕ) → r ≡ refusal_of s l m → (r ≡ 0 → ⊥) → unsearched r places ≡ search_of s l m places
  unfolding search_of
  refused r e n = rw (sym e) (simp (ne_eqb r 0 n))

  -- the rows and the log that are in memory are searched
  pub in_memory : refusal_of s l m ≡ 0 → (rows run : List ℕ) (count : ℕ) → Ready s l m rows count run
      → (q : Searched) → q ≡ search_rows (run_held run) (rows_of rows count) places → q ≡ search_of s l m places
  unfolding search_of
  in_memory z rows run count R q e =
      e ∙ ap₂ (λ (g : Run) (rs : List Row). search_rows g rs places) R.run_is R.rows_held.rows_are ∙ simp (eq-eqb (refusal_of s l m) 0 z)

-- What a search says

module _ (s l : List ℕ) (m : ℕ) (places : List ℕ) where
  abbrev Right : Searched → Type 0
  Right r = r.refusal ≡ 0 → Told s l m places r

  right_if : (b : Bool) (x y : Searched) → (b ≡ true → Right x) → Right y → Right (cond b x y)
  right_if true x y f g = f refl
  right_if false x y f g = g

  not-zero : (n : ℕ) → not (eqb n 0) ≡ true → Right (unsearched n places)
  not-zero n e z = absurd (eqb-false n 0 (not-true (eqb n 0) e) z)

  answer_right : (a : Answer) → Says (Matches s l m) a → Right (searched places a)
  unfolding filled
  answer_right nothing S e = record { none = (λ h. S, λ h. refl); kept = λ h. refl; smallest = λ h. never h }
  answer_right (found xs) S e = record { none = (λ h. never (sym h), λ h. absurd (h xs S.has)); kept = λ h. never (sym h); smallest = λ h. (xs, S, refl) }

  -- THE THEOREM: where the search over bytes is not refused, it says "none" exactly if no matching exists, and else has the smallest
  pub search_says_bytes : (search_of s l m places).refusal ≡ 0 → Told s l m places (search_of s l m places)
  unfolding search_of
  search_says_bytes =
      right_if (not (eqb (refusal_of s l m) 0)) _ _ (not-zero (refusal_of s l m))
      (right_if (ltb (length places) (length (points (antiscenario (sheet_in s) m)))) _ _ (λ h z. absurd (omega (arith, z)))
      (answer_right (smallest_matching (run_in l) (antiscenario (sheet_in s) m)) (search_says (run_in l) (antiscenario (sheet_in s) m))))

  -- of any answer that is the definition's
  pub told : (q : Searched) → q ≡ search_of s l m places → (q ≡ search_of s l m places) × (q.refusal ≡ 0 → Told s l m places q)
  told q e = (e, subst (λ (q : Searched). q.refusal ≡ 0 → Told s l m places q) (sym e) search_says_bytes)

-- what is known of an answer that is no refusal
pub where_accepted : (r : Result Bool Refusal) (P : Type 0) → (places : List ℕ) → ((answered r places).refusal ≡ 0 → P) → OnOk r P
where_accepted (Ok hit) P places f = f refl
where_accepted (Err e) P places f = tt
