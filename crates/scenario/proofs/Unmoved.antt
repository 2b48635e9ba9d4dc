-- Where no two positions of a log are at a limit of the sheet, A9 changes nothing: what the check finds, the rows at fault, and each antiscenario's matchings and search
-- are those of document 01's limits.
-- Carried by `near_unmoved`: all that is looked at are the positions 0 to n + 1.
-- Assumes nothing.
use mathlib.Core.Path.{◌≡◌, refl, ◌∙◌, ap, ap₂, subst}
use mathlib.Core.Logic.{⊎_elim}
use mathlib.Core.Bool.{Bool, true, false, not, ◌&&◌, cond}
use mathlib.Core.List.{List, [], ◌∷◌, ◌++◌, map}
use mathlib.Core.Option.{Option, none, some}
use Prim.Native.Nat.{ℕ, zero, suc, ◌+◌, ◌-◌, ◌*◌, ◌/◌, ◌%◌, ◌≤◌, min, max}
use native.Mathlib.Omega.{arith}
use lib.ListN.{length, get_or}
use lib.Dec.{leb, eqb, T, leb→le}
use Rattle.scenario.specs.Rows.{Row, point, next, last, earlier, later, before, apart, same, free, within, outside, event, close_point, Env, meets, clear, points, needs, closure, End, start, close, inner, end, far_end, denying_free, denying_rows, denials}
use Rattle.scenario.specs.Log.{Log, in_set, has_at, near_at, run_of}
use Rattle.scenario.specs.Clock.{plain_at, plain_run, NoneAt, Unmoved, UnmovedSheet}
use Rattle.scenario.specs.Sheet.{Sheet, lookup, env, all, flat, is_line, matching, choices, total, choose, chosen, antiscenario, found, Says}
use Rattle.scenario.specs.Walk.{Walk, placing, lowest_above, highest_below, onto, stay, advance, later_stop, stops, walk}
use Rattle.scenario.specs.Search.{stopped, smallest_matching, is_violating, check, place_of, faults}
use Rattle.scenario.specs.Reading.{All}
use Rattle.scenario.proofs.Base.{both, tell, all_append, scan_up, scan_down, Up, Down}
use Rattle.scenario.proofs.Section.{all-closure}
use Rattle.scenario.proofs.Least.{Placed, least-says}
use Rattle.scenario.proofs.Prefix.{least-same}
use Rattle.scenario.proofs.Clock.{same_test, near-was-plain, at-limit}

-- what is asked only where a is
when : (a b c : Bool) → (T a → b ≡ c) → (a && b) ≡ (a && c)
when true b c h = h tt
when false b c h = refl

module _ (log : Log) where
  abbrev n : ℕ
  n = length log.events

  -- every point stands at one of the positions 0 to n + 1
  abbrev Inside : Env → Type 0
  Inside e = (m : ℕ) → e m ≤ suc n

  near_unmoved : (x y lo hi : ℕ) → NoneAt log lo hi → x ≤ suc n → y ≤ suc n → near_at log x y lo hi ≡ plain_at log x y lo hi
  near_unmoved x y lo hi h i j = same_test (near_at log x y lo hi) (plain_at log x y lo hi) (near-was-plain log x y lo hi) still
    where
      still : T (plain_at log x y lo hi) → T (near_at log x y lo hi)
      still t = ⊎_elim (λ s. s) (λ f. absurd (h x y i j (at-limit log x y lo hi t f))) (tell (near_at log x y lo hi))

  -- Rows

  meets_unmoved : (e : Env) → Inside e → (row : Row) → Unmoved log row → meets (run_of log) e row ≡ meets (plain_run log) e row
  unfolding meets clear
  meets_unmoved e i (point p s) u = refl
  meets_unmoved e i (next p q s) u = refl
  meets_unmoved e i (last p q s) u = refl
  meets_unmoved e i (earlier p q a) u = refl
  meets_unmoved e i (later p q a) u = refl
  meets_unmoved e i (before p q) u = refl
  meets_unmoved e i (apart p q) u = refl
  meets_unmoved e i (same p q) u = refl
  meets_unmoved e i (free p q s) u = refl
  meets_unmoved e i (within p q lo hi) u = near_unmoved (e p) (e q) lo hi u (i p) (i q)
  meets_unmoved e i (outside p q lo hi) u = ap not (near_unmoved (e p) (e q) lo hi u (i p) (i q))
  meets_unmoved e i (event p s) u = refl

  all_unmoved : (e : Env) → Inside e → (rows : List Row) → All (Unmoved log) rows → all (meets (run_of log) e) rows ≡ all (meets (plain_run log) e) rows
  unfolding all
  all_unmoved e i [] u = refl
  all_unmoved e i (row ∷ rows) u = ap₂ ◌&&◌ (meets_unmoved e i row u.0) (all_unmoved e i rows u.1)

  -- Walks

  advance_unmoved : (e : Env) → Inside e → (row : Row) → Unmoved log row → advance (run_of log) e row ≡ advance (plain_run log) e row
  unfolding advance
  advance_unmoved e i (point p s) u = refl
  advance_unmoved e i (next p q s) u = refl
  advance_unmoved e i (last p q s) u = refl
  advance_unmoved e i (earlier p q a) u = refl
  advance_unmoved e i (later p q a) u = refl
  advance_unmoved e i (before p q) u = ap (λ (b : Bool). stay b e) (meets_unmoved e i (before p q) u)
  advance_unmoved e i (apart p q) u = ap (λ (b : Bool). stay b e) (meets_unmoved e i (apart p q) u)
  advance_unmoved e i (same p q) u = ap (λ (b : Bool). stay b e) (meets_unmoved e i (same p q) u)
  advance_unmoved e i (free p q s) u = ap (λ (b : Bool). stay b e) (meets_unmoved e i (free p q s) u)
  advance_unmoved e i (within p q lo hi) u = ap (λ (b : Bool). stay b e) (meets_unmoved e i (within p q lo hi) u)
  advance_unmoved e i (outside p q lo hi) u = ap (λ (b : Bool). stay b e) (meets_unmoved e i (outside p q lo hi) u)
  advance_unmoved e i (event p s) u = ap (λ (b : Bool). stay b e) (meets_unmoved e i (event p s) u)

  abbrev Further : Option Env → Type 0
  Further none = Unit {0}
  Further (some e) = Inside e

  placing-inside : (e : Env) → Inside e → (p x : ℕ) → x ≤ suc n → Inside (placing e p x)
  unfolding placing
  placing-inside e i p x h m = go (eqb m p)
    where
      go : (b : Bool) → cond b x (e m) ≤ suc n
      go true = h
      go false = i m

  line-inside : (s x : ℕ) → T (has_at log.events s x) → x ≤ suc n
  unfolding has_at
  line-inside s x t =
      let a = (both (leb 1 x && leb x n) (in_set s (get_or log.events (x - 1) 0)) t).0 in
      omega (arith, leb→le x n (both (leb 1 x) (leb x n) a).1)

  stay-inside : (e : Env) → Inside e → (b : Bool) → Further (stay b e)
  stay-inside e i true = i
  stay-inside e i false = tt

  advance-inside : (e : Env) → Inside e → (row : Row) → Further (advance (run_of log) e row)
  unfolding advance
  advance-inside e i (point p s) = tt
  advance-inside e i (next p q s) = go (lowest_above (has_at log.events s) (e q) (n - e q)) (scan_up (has_at log.events s) (e q) (n - e q))
    where
      go : (o : Option ℕ) → Up (has_at log.events s) (e q) (n - e q) o → Further (onto e p o)
      go none h = tt
      go (some x) h = placing-inside e i p x (line-inside s x h.1)
  advance-inside e i (last p q s) = go (highest_below (has_at log.events s) (e q)) (scan_down (has_at log.events s) (e q))
    where
      go : (o : Option ℕ) → Down (has_at log.events s) (e q) o → Further (onto e p o)
      go none h = tt
      go (some x) h = placing-inside e i p x (line-inside s x h.1)
  advance-inside e i (earlier p q a) = placing-inside e i p (min (e q) (e a)) (omega (arith, i q, i a))
  advance-inside e i (later p q a) = placing-inside e i p (max (e q) (e a)) (omega (arith, i q, i a))
  advance-inside e i (before p q) = stay-inside e i (meets (run_of log) e (before p q))
  advance-inside e i (apart p q) = stay-inside e i (meets (run_of log) e (apart p q))
  advance-inside e i (same p q) = stay-inside e i (meets (run_of log) e (same p q))
  advance-inside e i (free p q s) = stay-inside e i (meets (run_of log) e (free p q s))
  advance-inside e i (within p q lo hi) = stay-inside e i (meets (run_of log) e (within p q lo hi))
  advance-inside e i (outside p q lo hi) = stay-inside e i (meets (run_of log) e (outside p q lo hi))
  advance-inside e i (event p s) = stay-inside e i (meets (run_of log) e (event p s))

  walk_unmoved : (e : Env) → Inside e → (rows : List Row) → All (Unmoved log) rows → walk (run_of log) e rows ≡ walk (plain_run log) e rows
  unfolding walk
  walk_unmoved e i [] u = refl
  walk_unmoved e i (row ∷ rows) u =
      go (λ e' h. walk_unmoved e' h rows u.1) (advance (run_of log) e row) (advance-inside e i row)
      ∙ ap (λ (o : Option Env). elim o [ none ↦ stops 0 | some e' ↦ later_stop (walk (plain_run log) e' rows) ]) (advance_unmoved e i row u.0)
    where
      go : ((e' : Env) → Inside e' → walk (run_of log) e' rows ≡ walk (plain_run log) e' rows) → (o : Option Env) → Further o
          → ◌≡◌ {A = Walk} (elim o [ none ↦ stops 0 | some e' ↦ later_stop (walk (run_of log) e' rows) ]) (elim o [ none ↦ stops 0 | some e' ↦ later_stop (walk (plain_run log) e' rows) ])
      go w none h = refl
      go w (some e') h = ap later_stop (w e' h)

  -- Placements

  lookup-inside : (ps xs : List ℕ) → T (all (is_line (run_of log)) xs) → (m : ℕ) → lookup ps xs m ≤ suc n
  unfolding lookup all is_line
  lookup-inside [] xs h m = omega arith
  lookup-inside (p ∷ ps) [] h m = omega arith
  lookup-inside (p ∷ ps) (x ∷ xs) h m =
      let here = both (leb 1 x && leb x n) (all (is_line (run_of log)) xs) h in
      go (leb→le x n (both (leb 1 x) (leb x n) here.0).1) (lookup-inside ps xs here.1 m) (eqb m p)
    where
      go : x ≤ n → lookup ps xs m ≤ suc n → (b : Bool) → cond b x (lookup ps xs m) ≤ suc n
      go a l true = omega arith
      go a l false = l

  env-inside : (ps xs : List ℕ) → T (all (is_line (run_of log)) xs) → Inside (env (run_of log) ps xs)
  unfolding env
  env-inside ps xs h m = go (eqb m 0) (eqb m close_point)
    where
      go : (b c : Bool) → cond b 0 (cond c (suc n) (lookup ps xs m)) ≤ suc n
      go true c = omega arith
      go false true = omega arith
      go false false = lookup-inside ps xs h m

  env_unmoved : (ps xs : List ℕ) → env (run_of log) ps xs ≡ env (plain_run log) ps xs
  unfolding env
  env_unmoved ps xs = refl

  matching_unmoved : (rows : List Row) → All (Unmoved log) rows → (xs : List ℕ) → matching (run_of log) rows xs ≡ matching (plain_run log) rows xs
  unfolding matching is_line env
  matching_unmoved rows u xs =
      let lines = eqb (length xs) (length (points rows)) && all (is_line (run_of log)) xs in
      when lines (all (meets (run_of log) (env (run_of log) (points rows) xs)) rows) (all (meets (plain_run log) (env (run_of log) (points rows) xs)) rows)
      (λ t. all_unmoved (env (run_of log) (points rows) xs) (env-inside (points rows) xs (both (eqb (length xs) (length (points rows))) (all (is_line (run_of log)) xs) t).1) rows u)

  matching-lines : (rows : List Row) (xs : List ℕ) → T (matching (run_of log) rows xs) → T (all (is_line (run_of log)) xs)
  unfolding matching
  matching-lines rows xs t =
      let size = eqb (length xs) (length (points rows)) in
      let line = all (is_line (run_of log)) xs in
      (both size line (both (size && line) (all (meets (run_of log) (env (run_of log) (points rows) xs)) rows) t).0).1

  module _ (sheet : Sheet) (U : UnmovedSheet log sheet) where
    abbrev now : List ℕ → Env
    now xs = env (run_of log) (points sheet.antecedent) xs

    abbrev then : List ℕ → Env
    then xs = env (plain_run log) (points sheet.antecedent) xs

    walked : (xs : List ℕ) → T (all (is_line (run_of log)) xs) → (c : List Row) → All (Unmoved log) c → walk (run_of log) (now xs) c ≡ walk (plain_run log) (then xs) c
    walked xs h c u =
        walk_unmoved (now xs) (env-inside (points sheet.antecedent) xs h) c u ∙ ap (λ (e : Env). walk (plain_run log) e c) (env_unmoved (points sheet.antecedent) xs)

    stopped_unmoved : (xs : List ℕ) → T (all (is_line (run_of log)) xs) → (cs : List (List Row)) → All (All (Unmoved log)) cs
        → all (λ c. stopped (walk (run_of log) (now xs) c)) cs ≡ all (λ c. stopped (walk (plain_run log) (then xs) c)) cs
    unfolding all
    stopped_unmoved xs h [] u = refl
    stopped_unmoved xs h (c ∷ cs) u = ap₂ ◌&&◌ (ap stopped (walked xs h c u.0)) (stopped_unmoved xs h cs u.1)

    violating_unmoved : (xs : List ℕ) → is_violating (run_of log) sheet xs ≡ is_violating (plain_run log) sheet xs
    unfolding is_violating
    violating_unmoved xs =
        let before = all (λ c. stopped (walk (plain_run log) (then xs) c)) sheet.consequents in
        when (matching (run_of log) sheet.antecedent xs) (all (λ c. stopped (walk (run_of log) (now xs) c)) sheet.consequents) before
        (λ t. stopped_unmoved xs (matching-lines sheet.antecedent xs t) sheet.consequents U.consequents)
        ∙ ap (λ (b : Bool). b && before) (matching_unmoved sheet.antecedent U.antecedent xs)

    -- The check finds what it found.
    pub check_unmoved : check (run_of log) sheet ≡ check (plain_run log) sheet
    unfolding check
    check_unmoved = least-same n (length (points sheet.antecedent)) (is_violating (run_of log) sheet) (is_violating (plain_run log) sheet) violating_unmoved

    faults-from : (xs : List ℕ) → T (all (is_line (run_of log)) xs) → (o : ℕ) (cs : List (List Row)) → All (All (Unmoved log)) cs
        → faults (run_of log) sheet xs o cs ≡ faults (plain_run log) sheet xs o cs
    unfolding faults
    faults-from xs h o [] u = refl
    faults-from xs h o (c ∷ cs) u =
        ap₂ (λ (w : Walk) (l : List ℕ). (o + place_of w + 1) ∷ l) (walked xs h c u.0) (faults-from xs h (o + length c) cs u.1)

    found-lines : (xs : List ℕ) → check (run_of log) sheet ≡ found xs → T (all (is_line (run_of log)) xs)
    unfolding check is_violating
    found-lines xs e =
        let P = is_violating (run_of log) sheet in
        let p = length (points sheet.antecedent) in
        let placed = (subst (Says (Placed n p P)) e (least-says n p P)).has in
        matching-lines sheet.antecedent xs
        (both (matching (run_of log) sheet.antecedent xs) (all (λ c. stopped (walk (run_of log) (now xs) c)) sheet.consequents) placed.passes).0

    -- The rows at fault of what it finds are those that were.
    pub faults_unmoved : (xs : List ℕ) → check (run_of log) sheet ≡ found xs → (o : ℕ)
        → faults (run_of log) sheet xs o sheet.consequents ≡ faults (plain_run log) sheet xs o sheet.consequents
    faults_unmoved xs e o = faults-from xs (found-lines xs e) o sheet.consequents U.consequents

    -- Antiscenarios: a denial has limits of the sheet's rows alone.

    abbrev Un : Row → Type 0
    Un = Unmoved log

    free_unmoved : (r p q s : ℕ) (a b : End) → All (All Un) (denying_free r p q s a b)
    unfolding denying_free
    free_unmoved r p q s start start = tt
    free_unmoved r p q s start close = ((tt, tt), tt)
    free_unmoved r p q s start inner = ((tt, (tt, tt)), tt)
    free_unmoved r p q s close start = ((tt, tt), tt)
    free_unmoved r p q s close close = tt
    free_unmoved r p q s close inner = ((tt, (tt, tt)), tt)
    free_unmoved r p q s inner start = ((tt, (tt, tt)), tt)
    free_unmoved r p q s inner close = ((tt, (tt, tt)), tt)
    free_unmoved r p q s inner inner = ((tt, (tt, (tt, tt))), ((tt, (tt, (tt, tt))), tt))

    denying_unmoved : (far r : ℕ) (row : Row) → Un row → All (All Un) (denying_rows far r row)
    unfolding denying_rows
    denying_unmoved far r (point p s) u = tt
    denying_unmoved far r (next p q s) u = ((tt, tt), tt)
    denying_unmoved far r (last p q s) u = ((tt, tt), tt)
    denying_unmoved far r (earlier p q a) u = tt
    denying_unmoved far r (later p q a) u = tt
    denying_unmoved far r (before p q) u = ((tt, tt), ((tt, tt), tt))
    denying_unmoved far r (apart p q) u = ((tt, tt), tt)
    denying_unmoved far r (same p q) u = ((tt, tt), tt)
    denying_unmoved far r (free p q s) u = free_unmoved r p q s (end p) (end q)
    denying_unmoved far r (within p q lo hi) u = ((u, tt), tt)
    denying_unmoved far r (outside p q lo hi) u = ((u, tt), tt)
    denying_unmoved far r (event p s) u = ((tt, tt), tt)

    behind : (c : List Row) → All Un c → (ds : List (List Row)) → All (All Un) ds → All (All Un) (map (λ d. c ++ d) ds)
    behind c h [] u = tt
    behind c h (d ∷ ds) u = (all_append Un c d h u.0, behind c h ds u.1)

    denials_unmoved : (far : Row → ℕ) (r : ℕ) (passed rows : List Row) → All Un passed → All Un rows → All (All Un) (denials far r passed rows)
    unfolding denials
    denials_unmoved far r passed [] h u = tt
    denials_unmoved far r passed (row ∷ rows) h u =
        all_append (All Un) (map (λ d. closure passed (needs row) ++ d) (denying_rows (far row) r row)) (denials far r (row ∷ passed) rows)
        (behind (closure passed (needs row)) (all-closure Un passed (needs row) h) (denying_rows (far row) r row) (denying_unmoved (far row) r row u.0))
        (denials_unmoved far r (row ∷ passed) rows (u.0, h) u.1)

    choices_unmoved : (i : ℕ) (cs : List (List Row)) → All (All Un) cs → All (All (All Un)) (choices (far_end sheet.antecedent) i cs)
    unfolding choices
    choices_unmoved i [] u = tt
    choices_unmoved i (c ∷ cs) u = (denials_unmoved (far_end sheet.antecedent c) (10 * i + 9) [] c tt u.0, choices_unmoved (suc i) cs u.1)

    one_unmoved : (ds : List (List Row)) (i : ℕ) → All (All Un) ds → All Un (get_or ds i [])
    one_unmoved [] i u = tt
    one_unmoved (d ∷ ds) zero u = u.0
    one_unmoved (d ∷ ds) (suc i) u = one_unmoved ds i u.1

    chosen_unmoved : (ls : List (List (List Row))) (j : ℕ) → All (All (All Un)) ls → All Un (flat (choose [] ls j))
    unfolding choose flat
    chosen_unmoved [] j u = tt
    chosen_unmoved (l ∷ ls) j u =
        all_append Un (get_or l (j / total ls) []) (flat (choose [] ls (j % total ls))) (one_unmoved l (j / total ls) u.0) (chosen_unmoved ls (j % total ls) u.1)

    rows_unmoved : (m : ℕ) → All Un (antiscenario sheet m)
    unfolding antiscenario chosen
    rows_unmoved m =
        let cs = choices (far_end sheet.antecedent) 1 sheet.consequents in
        all_append Un sheet.antecedent (flat (choose [] cs (m - 1))) U.antecedent (chosen_unmoved cs (m - 1) (choices_unmoved 1 sheet.consequents U.consequents))

    -- Each number has the matchings that it had, and its search finds what it found.
    pub matchings_unmoved : (m : ℕ) (zs : List ℕ) → matching (run_of log) (antiscenario sheet m) zs ≡ matching (plain_run log) (antiscenario sheet m) zs
    matchings_unmoved m zs = matching_unmoved (antiscenario sheet m) (rows_unmoved m) zs

    pub search_unmoved : (m : ℕ) → smallest_matching (run_of log) (antiscenario sheet m) ≡ smallest_matching (plain_run log) (antiscenario sheet m)
    unfolding smallest_matching
    search_unmoved m =
        least-same n (length (points (antiscenario sheet m))) (matching (run_of log) (antiscenario sheet m)) (matching (plain_run log) (antiscenario sheet m)) (matchings_unmoved m)
