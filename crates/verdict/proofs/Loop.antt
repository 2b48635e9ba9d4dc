-- The check over memory: at each turn no smaller placement than the matching that stands there is violating; how it begins, goes on and answers.
-- Assumes nothing.
use mathlib.Core.Path.{◌≡◌, sym, ◌∙◌, ap, subst}
use mathlib.Core.Bool.{false, not, ◌&&◌}
use mathlib.Core.List.{List, map}
use Prim.Native.Nat.{ℕ, ◌+◌, ◌-◌, ◌^◌, ◌≤◌, ◌<◌}
use native.Mathlib.Omega.{arith}
use lib.ListN.{length, get_or, take, replicate, length-map}
use lib.Dec.{T}
use borrow.Author.Tests.{eq-eqb}
use Rattle.scenario.specs.Rows.{Row, Run, points}
use Rattle.scenario.specs.Walk.{walk}
use Rattle.scenario.specs.Sheet.{Sheet, Answer, nothing, found, Says, matching, no_larger, all, env}
use Rattle.scenario.specs.Search.{least, smallest_matching, stopped, is_violating, check}
use Rattle.scenario.specs.Reading.{All}
use Rattle.scenario.proofs.Base.{both, all_map}
use Rattle.scenario.proofs.Place.{match_get}
use Rattle.scenario.proofs.Least.{Placed, least-says}
use Rattle.run.specs.Words.{line_count}
use Rattle.run.specs.Held.{Held, run_held}
use Rattle.row.specs.Memory.{rows_of, tags_of}
use Rattle.pattern.specs.Placing.{by}
use Rattle.plan.specs.Tables.{count_of_points, count_of_rows, points_in}
use Rattle.plan.specs.declared.Tables.{Tables}
use Rattle.placing.specs.Matching.{beyond, next_matching, is_found}
use Rattle.placing.specs.Placing.{Standing}
use Rattle.placing.proofs.Placing.{not_found}
use Rattle.placement.proofs.Order.{beyond-not, place-number, number-below, number_rises}
use Rattle.placement.proofs.Following.{from, over-first-none, over_first, over-hit, over_last, over-next}
use Rattle.sheet.specs.Held.{sheet_at, SheetHeld}
use Rattle.pair.specs.Antecedent.{AntecedentPlanned}
use Rattle.consequent.specs.Walk.{Faults, faults_in, Kept}
use Rattle.verdict.specs.Check.{verdict_of, blank}
use Rattle.verdict.specs.Memory.{Reaches, places_in, violated_by}
use Rattle.verdict.proofs.Turn.{judged, alike, places-kept, stands_still, named}

-- what is left of the placements, of n lines
unfoldable pub still : (n p : ℕ) (zs : List ℕ) → ℕ
still n p zs = (n + 1) ^ p - place-number (n + 1) zs

-- What is known of positions at a turn: a matching stands there, and no smaller placement is violating.
pub record Turning (run : Run) (sheet : Sheet) (n : ℕ) (rows : List ℕ) (plan : Tables) (E : List ℕ) : Type 0 where
  pub stands : Standing run n rows plan E
  pub least : least run.lines (length (points (rows_of rows (count_of_rows plan)))) (λ ys. no_larger (map (by E) (points (rows_of rows (count_of_rows plan)))) ys && is_violating run sheet ys) ≡ check run sheet

module _ (held : List ℕ) (H : Held held) (rows : List ℕ) (count k : ℕ) (S : SheetHeld rows count k) (plan : Tables) (P : AntecedentPlanned rows count k plan) where
  abbrev run : Run
  run = run_held held

  abbrev sheet : Sheet
  sheet = sheet_at rows count k

  abbrev rs : List Row
  rs = rows_of rows (count_of_rows plan)

  abbrev ps : List ℕ
  ps = points rs

  abbrev Stands : List ℕ → Type 0
  Stands E = Standing run (line_count held) rows plan E

  abbrev Turns : List ℕ → Type 0
  Turns E = Turning run sheet (line_count held) rows plan E

  only : (xs : List ℕ) → T (is_violating run sheet xs) → T (matching run rs xs)
  unfolding is_violating
  only xs t = subst (λ (z : List Row). T (matching run z xs)) (sym P.antecedent_rows) (both (matching run sheet.antecedent xs) (all (λ c. stopped (walk run (env run (points sheet.antecedent) xs) c)) sheet.consequents) t).0

  holds : check run sheet ≡ nothing → blank 0 ≡ verdict_of run sheet (check run sheet)
  unfolding verdict_of
  holds e = rw e

  check-is : least run.lines (length ps) (is_violating run sheet) ≡ check run sheet
  unfolding check
  check-is = ap (λ (z : List Row). least run.lines (length (points z)) (is_violating run sheet)) P.antecedent_rows

  -- the smallest violating placement, of those that are no smaller than zs
  abbrev left_over : List ℕ → Answer
  left_over = from run.lines (length ps) (matching run rs) (is_violating run sheet) only

  -- The first matching
  pub none_at_all : false ≡ is_found (smallest_matching run rs) → blank 0 ≡ verdict_of run sheet (check run sheet)
  unfolding smallest_matching
  none_at_all e = holds (sym check-is ∙ over-first-none run.lines (length ps) (matching run rs) (is_violating run sheet) only (not_found (smallest_matching run rs) (sym e)))

  pub begins : (E : List ℕ) → Stands E × (smallest_matching run rs ≡ found (map (by E) ps)) → Turns E
  unfolding smallest_matching
  begins E z = record { stands = z.0; least = sym (over_first run.lines (length ps) (matching run rs) (is_violating run sheet) only (map (by E) ps) z.1) ∙ check-is }

  -- A turn: f is what the walk over the consequents says of E, and E' what it leaves.
  module _ (E : List ℕ) (U : Turns E) (E' : List ℕ) (K : Kept (tags_of rows count) E E') where
    abbrev f : Faults
    f = faults_in run (tags_of rows count) E 0 k (replicate 6 0)

    abbrev zs : List ℕ
    zs = map (by E') ps

    same : zs ≡ map (by E) ps
    same = places-kept held H rows count k S plan P E U.stands E' K

    pub walked : Stands E'
    walked = stands_still held H rows count k S plan P E U.stands E' K

    least-is : left_over zs ≡ check run sheet
    least-is = ap left_over same ∙ U.least

    size : length zs ≡ length ps
    size = length-map ps (by E')

    lines : All (λ (x : ℕ). (1 ≤ x) × (x ≤ run.lines)) zs
    lines = (match_get run rs zs walked.matches).lines

    -- each consequent has a row at fault
    pub violated : f.met ≡ 0 → violated_by (count_of_points plan) k (places_in plan E') f.rows ≡ verdict_of run sheet (check run sheet)
    violated e =
        let bad : T (is_violating run sheet zs) = subst (λ (z : List ℕ). T (is_violating run sheet z)) (sym same) (subst T (sym (eq-eqb f.met 0 e) ∙ judged held H rows count k S plan P E U.stands) tt) in
        named held H rows count k S plan P E U.stands E' K e
        ∙ ap (verdict_of run sheet) (sym (ap found same) ∙ sym (over-hit run.lines (length ps) (matching run rs) (is_violating run sheet) only zs size lines bad) ∙ least-is)

    -- or consequent `met` has none: on to the next matching behind those that it extends alike
    module _ (met : ℕ) (em : met ≡ f.met) (nz : met ≡ 0 → ⊥) (reaches : List ℕ) (X : Reaches rows count (take (count_of_points plan) (points_in plan)) reaches) where
      abbrev kept : ℕ
      kept = get_or reaches met 0

      missed : (us : List ℕ) → length us ≡ length ps → take kept us ≡ take kept zs → T (not (is_violating run sheet us))
      missed us l e = subst (λ (c : ℕ). (c ≡ 0 → ⊥) → take (get_or reaches c 0) us ≡ take (get_or reaches c 0) (map (by E) ps) → T (not (is_violating run sheet us))) (sym em)
          (λ n. alike held H rows count k S plan P E U.stands reaches X n us l) nz (e ∙ ap (take kept) same)

      pub no_other : false ≡ is_found (next_matching run rs kept zs) → blank 0 ≡ verdict_of run sheet (check run sheet)
      unfolding next_matching
      no_other e = holds (sym least-is ∙ over_last run.lines (length ps) (matching run rs) (is_violating run sheet) only zs size lines kept missed (not_found (next_matching run rs kept zs) (sym e)))

      module _ (E'' : List ℕ) (z : Stands E'' × (next_matching run rs kept zs ≡ found (map (by E'') ps))) where
        abbrev ys : List ℕ
        ys = map (by E'') ps

        pub goes_on : Turns E''
        unfolding next_matching
        goes_on = record { stands = z.0; least = sym (over-next run.lines (length ps) (matching run rs) (is_violating run sheet) only zs size lines kept missed ys z.1) ∙ least-is }

        later : T (not (no_larger ys zs))
        unfolding next_matching
        later = beyond-not kept zs ys (both (beyond kept zs ys) (matching run rs ys)
            (subst (Says (Placed run.lines (length ps) (λ us. beyond kept zs us && matching run rs us))) z.1 (least-says run.lines (length ps) (λ us. beyond kept zs us && matching run rs us))).has.passes).0

        pub falls : still run.lines (length ps) ys < still run.lines (length ps) (map (by E) ps)
        unfolding still
        falls =
            let rises = number_rises (run.lines + 1) zs ys (size ∙ sym (length-map ps (by E''))) (all_map (λ x w. omega (arith, w.1)) zs lines) later in
            let below = number-below (run.lines + 1) ys (all_map (λ x w. omega (arith, w.1)) ys (match_get run rs ys z.0.matches).lines) in
            subst (λ (u : List ℕ). still run.lines (length ps) ys < still run.lines (length ps) u) same
            (less run.lines (length ps) zs ys rises (subst (λ (p : ℕ). place-number (run.lines + 1) ys < (run.lines + 1) ^ p) (length-map ps (by E'')) below))
          where
            less : (n p : ℕ) (xs ys : List ℕ) → place-number (n + 1) xs < place-number (n + 1) ys → place-number (n + 1) ys < (n + 1) ^ p → still n p ys < still n p xs
            less n p xs ys a b = omega arith
