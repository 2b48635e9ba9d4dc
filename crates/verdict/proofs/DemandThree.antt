-- Demand 3 over bytes, proved of the definitions that the contracts of reading, searching and checking use.
-- Carried by demand 3 of sheets and logs (scenario), and by what reading says of accepted bytes.
-- Assumes nothing.
use mathlib.Core.Path.{◌≡◌, refl, sym, ◌∙◌, ap, subst}
use mathlib.Core.Logic.{◌↔◌}
use mathlib.Core.Bool.{true, false}
use mathlib.Core.List.{List, [], ◌∷◌, ◌++◌}
use Prim.Native.Nat.{ℕ, zero, suc, ◌≤◌, ◌<◌}
use native.Mathlib.Omega.{arith}
use lib.ListN.{length, take, drop, replicate, length-append}
use lib.Seq.{take_at}
use lib.Dec.{T}
use borrow.Author.Tests.{eq-eqb, le-ltb, le-leb}
use Rattle.scenario.specs.Rows.{Run, points, event_count}
use Rattle.scenario.specs.Sheet.{Sheet, matching, cut, count, flat, chosen, antiscenario, Violating, no_larger, Answer, nothing, found, Says, Demand}
use Rattle.scenario.specs.Search.{smallest_matching, check, faults, RowsAtFault}
use Rattle.scenario.specs.Reading.{All}
use Rattle.scenario.proofs.Glue.{points_append}
use Rattle.scenario.proofs.Place.{match_get}
use Rattle.scenario.proofs.Least.{search_says}
use Rattle.scenario.proofs.Logs.{laws}
use Rattle.scenario.proofs.Reading.{sound}
use Rattle.scenario.proofs.Faults.{rows-at-fault}
use Rattle.scenario.proofs.Final.{demand-three}
use Rattle.sheet.specs.Reading.{count_in, sheet_in, answer as sheet-answer}
use Rattle.sheet.proofs.Theorems.{accepted-sheet}
use Rattle.runlog.specs.Log.{run_in, log_of, answer as log-answer}
use Rattle.runlog.proofs.Whole.{accepted-log}
use Rattle.placing.specs.Matching.{is_found}
use Rattle.search.specs.Searching.{filled, SaysNone, search_of, searched, Searched}
use Rattle.verdict.specs.Check.{Checked}
use Rattle.verdict.specs.Check.{Accepted, front, violated_at, placement_in, rows_in, verdict_of, check_of}
use Rattle.verdict.specs.Demands.{Denied, Unmatched, Enough, Finds, DemandThree}
use Rattle.antiscenario.specs.Judge.{refusal_of}

-- the first numbers are those of the first list
take-front : (n : ℕ) (xs ys : List ℕ) → n ≤ length xs → take n (xs ++ ys) ≡ take n xs
take-front zero xs ys h = refl
take-front (suc n) [] ys h = absurd (omega arith)
take-front (suc n) (x ∷ xs) ys h = ap (λ (z : List ℕ). x ∷ z) (take-front n xs ys (omega arith))

module _ (s l : List ℕ) (A : Accepted s l) where
  abbrev run : Run
  run = run_in l

  abbrev sheet : Sheet
  sheet = sheet_in s

  abbrev pub F : ℕ → Answer
  F m = smallest_matching run (antiscenario sheet m)

  pub N : count_in s ≡ count sheet
  N = (accepted-sheet s A.sheet).count

  pub low : All (λ (e : ℕ). e < event_count) (log_of l).events
  unfolding log_of
  low = (accepted-log l A.log).low

  core : Demand run sheet (check run sheet) F
  core = demand-three (log_of l) low sheet (accepted-sheet s A.sheet).read

  pub check-is : check_of s l ≡ verdict_of run sheet (check run sheet)
  unfolding check_of
  check-is = simp (eq-eqb (sheet-answer s).refusal 0 A.sheet, eq-eqb (log-answer l).refusal 0 A.log)

  pub search_is : (m : ℕ) → 1 ≤ m → m ≤ count_in s → (places : List ℕ) → length (points (antiscenario sheet m)) ≤ length places → search_of s l m places ≡ searched places (F m)
  unfolding search_of refusal_of
  search_is m a b places h =
      simp (eq-eqb (sheet-answer s).refusal 0 A.sheet, eq-eqb (log-answer l).refusal 0 A.log, le-leb 1 m a, le-leb m (count_in s) b, le-ltb (length places) (length (points (antiscenario sheet m))) h)

  to : (m : ℕ) → m ≤ count_in s → m ≤ count sheet
  to m h = omega (arith, N)

  from : (m : ℕ) → m ≤ count sheet → m ≤ count_in s
  from m h = omega (arith, N)

  -- a matching of an antiscenario has the antecedent's points first
  long : (m : ℕ) (zs : List ℕ) → T (matching run (antiscenario sheet m) zs) → length (points sheet.antecedent) ≤ length zs
  unfolding antiscenario
  long m zs t = omega (arith, (match_get run (antiscenario sheet m) zs t).size, ap length (points_append sheet.antecedent (flat (chosen sheet m))), length-append (points sheet.antecedent) (points (flat (chosen sheet m))))

  pub cut-filled : (m : ℕ) (zs places : List ℕ) → T (matching run (antiscenario sheet m) zs) → cut sheet (filled places (found zs)) ≡ cut sheet zs
  unfolding cut filled
  cut-filled m zs places t = take-front (length (points sheet.antecedent)) zs (drop (length zs) places) (long m zs t)

  pub matches : (m : ℕ) (zs : List ℕ) → F m ≡ found zs → T (matching run (antiscenario sheet m) zs)
  matches m zs e = (subst (Says (λ zs. T (matching run (antiscenario sheet m) zs))) e (search_says run (antiscenario sheet m))).has

  agreed : (xs : List ℕ) → Violating run sheet xs ↔ Denied s l xs
  agreed xs = (
    λ v. let d = (core.agree xs).0 v in record { number = d.number; low = d.low; high = from d.number d.high; place = d.place; over = d.over },
    λ d. (core.agree xs).1 (record { number = d.number; low = d.low; high = to d.number d.high; place = d.place; over = d.over }),
  )

  unmatched : Unmatched s l → (m : ℕ) → 1 ≤ m → m ≤ count sheet → (zs : List ℕ) → T (matching run (antiscenario sheet m) zs) → ⊥
  unmatched u m a b = u m a (from m b)

  matched : ((m : ℕ) → 1 ≤ m → m ≤ count sheet → (zs : List ℕ) → T (matching run (antiscenario sheet m) zs) → ⊥) → Unmatched s l
  matched u m a b = u m a (to m b)

  -- searches, whatever the places hold
  says : (places : List ℕ) (a : Answer) → a ≡ nothing → SaysNone (searched places a) places
  unfolding filled
  says places nothing e = record { accepted = refl; none = refl; kept = refl }
  says places (found xs) e = let z : ◌≡◌ {A = ℕ} 0 1 = cc in absurd (omega arith)

  said : (places : List ℕ) (a : Answer) → is_found a ≡ false → a ≡ nothing
  said places nothing e = refl
  said places (found xs) e = let z : ◌≡◌ {A = ℕ} 0 1 = cc in absurd (omega arith)

  none_is : (lent : ℕ → List ℕ) → Enough s lent → Unmatched s l ↔ ((m : ℕ) → 1 ≤ m → m ≤ count_in s → SaysNone (search_of s l m (lent m)) (lent m))
  none_is lent E = (
    λ u m a b. subst (λ (r : Searched). SaysNone r (lent m)) (sym (search_is m a b (lent m) (E m a b))) (says (lent m) (F m) (core.none.0 (unmatched u) m a (to m b))),
    λ f. matched (core.none.1 (λ m a b. said (lent m) (F m) (ap (λ (r : Searched). r.hit) (sym (search_is m a (from m b) (lent m) (E m a (from m b)))) ∙ (f m a (from m b)).none))),
  )

  pub hits : (places : List ℕ) (a : Answer) → is_found a ≡ true → (zs : List ℕ) × (a ≡ found zs)
  hits places nothing e = let z : ◌≡◌ {A = ℕ} 0 1 = cc in absurd (omega arith)
  hits places (found zs) e = (zs, refl)

  pub placement-is : (xs : List ℕ) → placement_in (verdict_of run sheet (found xs)) ≡ xs
  unfolding verdict_of violated_at front
  placement-is xs = take_at xs (drop (length xs) (replicate 4 0)) (length xs) refl

  pub rows_are : (xs : List ℕ) → rows_in (verdict_of run sheet (found xs)) ≡ faults run sheet xs (length sheet.antecedent) sheet.consequents
  unfolding verdict_of violated_at front
  rows_are xs = let fs = faults run sheet xs (length sheet.antecedent) sheet.consequents in take_at fs (drop (length fs) (replicate 6 0)) (length fs) refl

  -- the demand of what is said by an answer a
  whole : (a : Answer) → Demand run sheet a F → DemandThree s l (verdict_of run sheet a) (search_of s l)
  unfolding verdict_of violated_at
  whole nothing D = record {
    answers = refl;
    agree = agreed;
    keeps = (λ e. D.keeps.0 refl, λ h. refl);
    holds = (λ e. matched (D.holds.0 refl), λ u. refl);
    none = none_is;
    violating = λ e. let z : ◌≡◌ {A = ℕ} 0 1 = cc in absurd (omega arith);
    reached = λ e. let z : ◌≡◌ {A = ℕ} 0 1 = cc in absurd (omega arith);
    lowest = λ e. let z : ◌≡◌ {A = ℕ} 0 1 = cc in absurd (omega arith);
    smallest = λ e. let z : ◌≡◌ {A = ℕ} 0 1 = cc in absurd (omega arith);
    faults = λ e. let z : ◌≡◌ {A = ℕ} 0 1 = cc in absurd (omega arith);
  }
  whole (found xs) D = record {
    answers = refl;
    agree = agreed;
    keeps = (λ e. let z : ◌≡◌ {A = ℕ} 0 1 = cc in absurd (omega arith), λ h. let q = D.keeps.1 h in let z : ◌≡◌ {A = ℕ} 0 1 = cc in absurd (omega arith));
    holds = (λ e. let z : ◌≡◌ {A = ℕ} 0 1 = cc in absurd (omega arith), λ u. let q = D.holds.1 (unmatched u) in let z : ◌≡◌ {A = ℕ} 0 1 = cc in absurd (omega arith));
    none = none_is;
    violating = λ e. violates;
    reached = λ e lent E. let r = D.reached xs refl in (r.0, r.2, from r.0 r.3, finds lent E r.0 r.1 r.2 r.3 r.4 r.5);
    lowest = λ e m a b places h t. low-at m a b places h t;
    smallest = λ e m a b zs. small m zs a b;
    faults = λ e. at-fault;
  }
    where
      violating-found : Violating run sheet xs
      violating-found = let r = D.reached xs refl in (D.agree xs).1 (record { number = r.0; low = r.2; high = r.3; place = r.1; over = record { matches = matches r.0 r.1 r.4; same = r.5 } })

      violates : Violating run sheet (placement_in (verdict_of run sheet (found xs)))
      violates = subst (Violating run sheet) (sym (placement-is xs)) violating-found

      at-fault : RowsAtFault run sheet (placement_in (verdict_of run sheet (found xs))) (rows_in (verdict_of run sheet (found xs)))
      at-fault =
          subst (λ (z : List ℕ). RowsAtFault run sheet z (rows_in (verdict_of run sheet (found xs)))) (sym (placement-is xs))
          (subst (RowsAtFault run sheet xs) (sym (rows_are xs)) (rows-at-fault run (laws (log_of l) low) sheet (sound sheet (accepted-sheet s A.sheet).read) xs violating-found))

      finds : (lent : ℕ → List ℕ) → Enough s lent → (m : ℕ) (zs : List ℕ) → 1 ≤ m → m ≤ count sheet → F m ≡ found zs → cut sheet zs ≡ xs → Finds s (placement_in (verdict_of run sheet (found xs))) (search_of s l m (lent m))
      finds lent E m zs a b f c =
          subst (Finds s (placement_in (verdict_of run sheet (found xs)))) (sym (search_is m a (from m b) (lent m) (E m a (from m b)) ∙ ap (searched (lent m)) f))
          (record { accepted = refl; hit = refl; cut = cut-filled m zs (lent m) (matches m zs f) ∙ c ∙ sym (placement-is xs) })

      small : (m : ℕ) (zs : List ℕ) → 1 ≤ m → m ≤ count_in s → T (matching run (antiscenario sheet m) zs) → T (no_larger (placement_in (verdict_of run sheet (found xs))) (cut sheet zs))
      small m zs a b t = subst (λ (z : List ℕ). T (no_larger z (cut sheet zs))) (sym (placement-is xs)) (D.smallest xs refl m zs a (to m b) t)

      low-at : (m : ℕ) → 1 ≤ m → m ≤ count_in s → (places : List ℕ) → length (points (antiscenario sheet m)) ≤ length places
          → (search_of s l m places).hit ≡ true → T (no_larger (placement_in (verdict_of run sheet (found xs))) (cut sheet (search_of s l m places).places))
      low-at m a b places h t =
          let e = search_is m a b places h in
          let f = hits places (F m) (ap (λ (r : Searched). r.hit) (sym e) ∙ t) in
          subst (λ (z : List ℕ). T (no_larger (placement_in (verdict_of run sheet (found xs))) z))
          (sym (ap (λ (r : Searched). cut sheet r.places) (e ∙ ap (searched places) f.1) ∙ cut-filled m f.0 places (matches m f.0 f.1)))
          (small m f.0 a b (matches m f.0 f.1))

  pub demand-bytes : DemandThree s l (check_of s l) (search_of s l)
  demand-bytes = subst (λ (c : Checked). DemandThree s l c (search_of s l)) (sym check-is) (whole (check run sheet) core)
