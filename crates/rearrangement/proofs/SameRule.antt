-- The front door of A11: the rearranged sheet has a text, and only one; and by it every log gets the same verdict, every pattern is the same, under its moved number.
-- Assumes nothing.
use mathlib.Core.Path.{◌≡◌, refl, sym, ◌∙◌, ap, ap₂, subst}
use mathlib.Core.Logic.{◌↔◌}
use mathlib.Core.List.{List, ◌∷◌, map}
use Prim.Native.Nat.{ℕ, zero, suc, ◌+◌, ◌≤◌, ◌<◌}
use native.Mathlib.Omega.{arith}
use lib.ListN.{length, get_or}
use lib.Dec.{T}
use borrow.Author.Tests.{eq-eqb, ne_eqb}
use Rattle.scenario.specs.Rows.{Row, Run, points}
use Rattle.scenario.specs.Sheet.{Sheet, Answer, nothing, found, Violating, Over, CheckSays, SearchSays, matching, cut, count, chosen, antiscenario, no_larger}
use Rattle.scenario.specs.Search.{check, is_violating, rows_before, FirstUnmet, faults, smallest_matching}
use Rattle.scenario.specs.Fields.{Tagged, tagged, written}
use Rattle.scenario.specs.Reading.{SheetRead}
use Rattle.scenario.proofs.Rules.{Laws}
use Rattle.scenario.proofs.Logs.{laws}
use Rattle.scenario.proofs.Reading.{sound}
use Rattle.scenario.proofs.Whole.{violating_exactly, check-says}
use Rattle.scenario.proofs.Faults.{faults-size, fault-at, rows-at-fault}
use Rattle.scenario.proofs.Least.{search_says}
use Rattle.scenario.proofs.Demand.{cutting_keeps_order, lex_same}
use Rattle.scenario.proofs.Base.{T_eq, never}
use Rattle.sheet.specs.Reading.{Answer as Read}
use Rattle.sheet.specs.Reading.{answer, taken, sheet_in, count_in}
use Rattle.sheet.specs.Text.{sheet_text, numbers_of}
use Rattle.sheet.specs.Valid.{ValidSheet, rows_spelt}
use Rattle.sheet.proofs.Theorems.{tag, AcceptedSheet, accepted-sheet}
use Rattle.sheet.proofs.Valid.{read-valid, valid-read}
use Rattle.sheet.proofs.OneText.{determined}
use Rattle.runlog.specs.Log.{run_in, log_of, answer as log-answer}
use Rattle.antiscenario.specs.Write.{written_text, written_lines}
use Rattle.search.specs.Searching.{search_of, Searched, searched}
use Rattle.verdict.specs.Check.{Checked}
use Rattle.verdict.specs.Check.{Accepted, blank, rows_in, verdict_of, violated_at, check_of}
use Rattle.verdict.proofs.DemandThree.{low, check-is, search_is, rows_are, cut-filled}
use Rattle.rearrangement.specs.Order.{Rearrangement, reordered, rearranged, renumbered, SamePatterns}
use Rattle.rearrangement.specs.SameRule.{Rearranged, SameRow, SameCheck, SameSearch, SameRule}
use Rattle.rearrangement.proofs.Patterns.{length-reordered, rearranged-back, same-patterns}
use Rattle.rearrangement.proofs.Verdicts.{same-violating, same_check, same_place}
use Rattle.rearrangement.proofs.Sections.{sheet_of-rows}
use Rattle.rearrangement.proofs.Valid.{rearranged-valid}
use Rattle.rearrangement.proofs.Matched.{found_alike}

-- a rearrangement of as many things
abbrev resized : {k n : ℕ} → n ≡ k → Rearrangement k → Rearrangement n
resized q M = record {
  old = M.old;
  new = M.new;
  old_low = λ i h. omega (arith, M.old_low i (omega arith));
  new_low = λ j h. omega (arith, M.new_low j (omega arith));
  new_old = λ i h. M.new_old i (omega arith);
  old_new = λ j h. M.old_new j (omega arith);
}

module _ (s : List ℕ) (e : (answer s).refusal ≡ 0) (M : Rearrangement (answer s).k) where
  abbrev sheet : Sheet
  sheet = sheet_in s

  A : AcceptedSheet s sheet (taken s).lines
  A = accepted-sheet s e

  abbrev k : ℕ
  k = length sheet.consequents

  abbrev N : Rearrangement k
  N = resized A.consequents M

  abbrev sheet' : Sheet
  sheet' = record { antecedent = sheet.antecedent; consequents = reordered k M.old sheet.consequents }

  -- The text

  was-valid : ValidSheet k (tagged 0 (sheet.antecedent ∷ sheet.consequents))
  was-valid = subst (λ (rows : List Tagged). ValidSheet k rows) (sym A.rows) (subst (λ (n : ℕ). ValidSheet n (map tag (taken s).lines)) (sym A.consequents) (read-valid s e))

  is-valid : ValidSheet k (tagged 0 (sheet'.antecedent ∷ sheet'.consequents))
  is-valid = rearranged-valid sheet A.read N was-valid A.antecedent-room A.consequent-room

  pub there-is-a-text : (t : List ℕ) × Rearranged s M.old t
  unfolding rearranged
  there-is-a-text =
      let back = valid-read k (tagged 0 (sheet'.antecedent ∷ sheet'.consequents)) is-valid in (
        rows_spelt k (tagged 0 (sheet'.antecedent ∷ sheet'.consequents)),
        record { accepted = ap (λ (a : Read). a.refusal) back.answered; rows = back.sheet ∙ sheet_of-rows sheet' k (length-reordered k M.old sheet.consequents) },
      )

  pub only-one-text : (t u : List ℕ) → Rearranged s M.old t → Rearranged s M.old u → t ≡ u
  only-one-text t u Q P = (determined t u Q.accepted P.accepted).by-sheet.1 (Q.rows ∙ sym P.rows)

  -- and the sheet is that one's, rearranged back
  pub and-back : (t : List ℕ) → Rearranged s M.old t → Rearranged t M.new s
  and-back t Q = record { accepted = e; rows = sym (ap (λ (sh : Sheet). rearranged sh M.new) Q.rows ∙ rearranged-back sheet A.read N) }

  -- The same rule

  module _ (t : List ℕ) (Q : Rearranged s M.old t) where
    B : AcceptedSheet t (sheet_in t) (taken t).lines
    B = accepted-sheet t Q.accepted

    rows' : sheet_in t ≡ sheet'
    unfolding rearranged
    rows' = Q.rows

    P : SamePatterns sheet M.old
    P = same-patterns sheet A.read N

    same-k : (answer t).k ≡ (answer s).k
    same-k = sym B.consequents ∙ ap (λ (sh : Sheet). length sh.consequents) rows' ∙ length-reordered k M.old sheet.consequents ∙ A.consequents

    same_count : count_in t ≡ count_in s
    same_count = B.count ∙ ap count Q.rows ∙ P.as_many ∙ sym A.count

    module _ (m : ℕ) (low : 1 ≤ m) (high : m ≤ count_in s) where
      abbrev m' : ℕ
      m' = renumbered sheet M.old m

      to : m ≤ count sheet
      to = omega (arith, A.count)

      low' : 1 ≤ m'
      low' = P.low m low to

      high' : m' ≤ count_in t
      high' = omega (arith, P.high m low to, A.count, same_count)

      same_text : written_text t m' ≡ sheet_text (answer s).k (map numbers_of (tagged 0 (sheet.antecedent ∷ reordered (answer s).k M.old (chosen sheet m))))
      unfolding written_text written_lines written rearranged
      same_text =
          ap₂ sheet_text same-k
          (ap (λ (sh : Sheet). map numbers_of (tagged 0 (sh.antecedent ∷ chosen sh m'))) Q.rows
          ∙ ap (λ (ds : List (List Row)). map numbers_of (tagged 0 (sheet.antecedent ∷ ds))) (P.parts m low to ∙ ap (λ (n : ℕ). reordered n M.old (chosen sheet m)) A.consequents))

    -- On an accepted log

    module _ (l : List ℕ) (g : (log-answer l).refusal ≡ 0) where
      was : Accepted s l
      was = record { sheet = e; log = g }

      is : Accepted t l
      is = record { sheet = Q.accepted; log = g }

      abbrev run : Run
      run = run_in l

      L : Laws run
      L = laws (log_of l) (low s l was)

      same_test : (xs : List ℕ) → is_violating run (sheet_in t) xs ≡ is_violating run sheet xs
      same_test xs = ap (λ (sh : Sheet). is_violating run sh xs) Q.rows ∙ same-violating run sheet A.read N xs

      violating_alike : (xs : List ℕ) → Violating run sheet xs ↔ Violating run (sheet_in t) xs
      violating_alike xs =
          let before = violating_exactly run L sheet (sound sheet A.read) xs in
          let after = violating_exactly run L (sheet_in t) (sound (sheet_in t) B.read) xs in
          (λ v. after.0 (T_eq (sym (same_test xs)) (before.1 v)), λ v. before.0 (T_eq (same_test xs) (after.1 v)))

      check_alike : check run (sheet_in t) ≡ check run sheet
      check_alike = ap (check run) Q.rows ∙ same_check run sheet A.read N

      -- the rows at fault of the placement that is found
      module _ (xs : List ℕ) (q : check run sheet ≡ found xs) (i : ℕ) (b : i < (answer s).k) where
        here : i < k
        here = omega (arith, A.consequents)

        unmet : FirstUnmet run sheet xs (M.old i) (get_or (faults run sheet xs (length sheet.antecedent) sheet.consequents) (M.old i) 0)
        unmet = (rows-at-fault run L sheet (sound sheet A.read) xs (subst (CheckSays run sheet) q (check-says run L sheet (sound sheet A.read))).has).each (M.old i) (N.old_low i here)

        moved_row : get_or (faults run sheet' xs (length sheet.antecedent) sheet'.consequents) i 0 ≡ rows_before sheet' i + unmet.place + 1
        unfolding rows_before
        moved_row =
            omega (
              arith,
              fault-at run sheet' xs (length sheet.antecedent) sheet'.consequents i (omega (arith, here, length-reordered k M.old sheet.consequents)),
              fault-at run sheet xs (length sheet.antecedent) sheet.consequents (M.old i) (N.old_low i here),
              same_place run sheet A.read xs N i here,
              unmet.counted,
            )

        same_row : SameRow sheet (sheet_in t) (M.old i) i (get_or (faults run sheet xs (length sheet.antecedent) sheet.consequents) (M.old i) 0)
            (get_or (faults run (sheet_in t) xs (length (sheet_in t).antecedent) (sheet_in t).consequents) i 0)
        same_row = record {
          place = unmet.place;
          inside = unmet.fault.place;
          was = unmet.counted;
          is = subst (λ (sh : Sheet). get_or (faults run sh xs (length sh.antecedent) sh.consequents) i 0 ≡ rows_before sh i + unmet.place + 1) (sym rows') moved_row;
        }

      said : (a : Answer) → check run sheet ≡ a → SameCheck s M.old t (verdict_of run sheet a) (verdict_of run (sheet_in t) a)
      unfolding verdict_of violated_at
      said nothing q = record { refusal = refl; violated = refl; placement = refl; consequents = refl; faults = λ v. never v }
      said (found xs) q = record {
        refusal = refl;
        violated = refl;
        placement = refl;
        consequents = faults-size run (sheet_in t) xs (length (sheet_in t).antecedent) (sheet_in t).consequents
            ∙ B.consequents ∙ same-k ∙ sym A.consequents
            ∙ sym (faults-size run sheet xs (length sheet.antecedent) sheet.consequents);
        faults = λ v i b.
            subst (λ (rows : List ℕ). SameRow sheet (sheet_in t) (M.old i) i (get_or rows (M.old i) 0) (get_or (rows_in (verdict_of run (sheet_in t) (found xs))) i 0)) (sym (rows_are s l was xs))
            (subst (λ (rows : List ℕ). SameRow sheet (sheet_in t) (M.old i) i (get_or (faults run sheet xs (length sheet.antecedent) sheet.consequents) (M.old i) 0) (get_or rows i 0)) (sym (rows_are t l is xs))
            (same_row xs q i b));
      }

      checked_alike : SameCheck s M.old t (check_of s l) (check_of t l)
      checked_alike =
          subst (λ (c : Checked). SameCheck s M.old t c (check_of t l)) (sym (check-is s l was))
          (subst (SameCheck s M.old t (verdict_of run sheet (check run sheet))) (sym (check-is t l is ∙ ap (verdict_of run (sheet_in t)) check_alike)) (said (check run sheet) refl))

      -- Searches

      module _ (m : ℕ) (lo : 1 ≤ m) (hi : m ≤ count_in s) where
        abbrev pattern : List Row
        pattern = antiscenario sheet m

        abbrev pattern' : List Row
        pattern' = antiscenario (sheet_in t) (m' m lo hi)

        found_both : (xs : List ℕ) → ((zs : List ℕ) × Over run sheet pattern xs zs) ↔ ((zs : List ℕ) × Over run (sheet_in t) pattern' xs zs)
        found_both xs =
            subst (λ (sh : Sheet). ((zs : List ℕ) × Over run sheet pattern xs zs) ↔ ((zs : List ℕ) × Over run sh (antiscenario sh (m' m lo hi)) xs zs)) (sym Q.rows)
            (found_alike run L sheet A.read N (subst SheetRead Q.rows B.read) m lo (to m lo hi) xs)

        -- from a matching of the one to one of the other that, cut, is the same
        there : (zs : List ℕ) → T (matching run pattern zs) → (us : List ℕ) × T (matching run pattern' us) × (cut (sheet_in t) us ≡ cut sheet zs)
        there zs x = let r = (found_both (cut sheet zs)).0 (zs, record { matches = x; same = refl }) in (r.0, r.1.matches, r.1.same)

        back : (us : List ℕ) → T (matching run pattern' us) → (zs : List ℕ) × T (matching run pattern zs) × (cut sheet zs ≡ cut (sheet_in t) us)
        back us x = let r = (found_both (cut (sheet_in t) us)).1 (us, record { matches = x; same = refl }) in (r.0, r.1.matches, r.1.same)

        same-cut : (zs us : List ℕ) → SearchSays run sheet m (found zs) → SearchSays run (sheet_in t) (m' m lo hi) (found us) → cut (sheet_in t) us ≡ cut sheet zs
        unfolding cut
        same-cut zs us x y =
            let u = there zs x.has in
            let z = back us y.has in
            lex_same (cut (sheet_in t) us) (cut sheet zs)
            (subst (λ (c : List ℕ). T (no_larger (cut (sheet_in t) us) c)) u.2 (cutting_keeps_order (length (points (sheet_in t).antecedent)) us u.0 (y.least u.0 u.1)))
            (subst (λ (c : List ℕ). T (no_larger (cut sheet zs) c)) z.2 (cutting_keeps_order (length (points sheet.antecedent)) zs z.0 (x.least z.0 z.1)))

        module _ (places places' : List ℕ) where
          told : (a a' : Answer) → smallest_matching run pattern ≡ a → smallest_matching run pattern' ≡ a' → SearchSays run sheet m a → SearchSays run (sheet_in t) (m' m lo hi) a'
              → SameSearch s t (searched places a) (searched places' a')
          told nothing nothing q r x y = record { hit = refl; placement = λ v. never v }
          told nothing (found us) q r x y = let z = back us y.has in absurd (x z.0 z.1)
          told (found zs) nothing q r x y = let u = there zs x.has in absurd (y u.0 u.1)
          told (found zs) (found us) q r x y = record {
            hit = refl;
            placement = λ v. cut-filled t l is (m' m lo hi) us places' y.has ∙ same-cut zs us x y ∙ sym (cut-filled s l was m zs places x.has);
          }

          searched_alike : length (points pattern) ≤ length places → length (points pattern') ≤ length places' → SameSearch s t (search_of s l m places) (search_of t l (m' m lo hi) places')
          searched_alike h h' =
              subst (λ (r : Searched). SameSearch s t r (search_of t l (m' m lo hi) places')) (sym (search_is s l was m lo hi places h))
              (subst (SameSearch s t (searched places (smallest_matching run pattern))) (sym (search_is t l is (m' m lo hi) (low' m lo hi) (high' m lo hi) places' h'))
              (told (smallest_matching run pattern) (smallest_matching run pattern') refl refl (search_says run pattern) (search_says run pattern')))

    -- On every log

    refused_alike : (n : ℕ) → SameCheck s M.old t (blank n) (blank n)
    refused_alike n = record { refusal = refl; violated = refl; placement = refl; consequents = refl; faults = λ v. never v }

    always_alike : (l : List ℕ) → SameCheck s M.old t (check_of s l) (check_of t l)
    unfolding check_of
    always_alike l = by (log-answer l).refusal refl
      where
        by : (n : ℕ) → (log-answer l).refusal ≡ n → SameCheck s M.old t (check_of s l) (check_of t l)
        by zero q = checked_alike l q
        by (suc n) q =
            rw (eq-eqb (answer s).refusal 0 e, eq-eqb (answer t).refusal 0 Q.accepted, ne_eqb (log-answer l).refusal 0 (λ z. omega arith)) (refused_alike (log-answer l).refusal)

    -- THE THEOREM, of every accepted sheet, every rearrangement of its consequents, and the text of the rearranged sheet.
    pub same_rule : SameRule s M t
    same_rule = record {
      consequents = same-k;
      count = same_count;
      checked = always_alike;
      violating = violating_alike;
      patterns = P;
      texts = same_text;
      found = λ l g m lo hi xs. found_both l g m lo hi xs;
      searched = λ l g m lo hi places places' h h'. searched_alike l g m lo hi places places' h h';
    }
