-- Old sheets keep their verdicts (document 02, A1): the rows and antiscenarios of document 01, on logs with events 0 to 31. Carried by `complement-same`: such events
-- do not tell the old denial of EVENT from the new one.
-- Assumes nothing.
use mathlib.Core.Path.{◌≡◌, refl, sym, ◌∙◌, ap, ap₂, fun_ext}
use mathlib.Core.Bool.{Bool, ◌&&◌}
use mathlib.Core.List.{List, [], ◌∷◌, ◌++◌, map, map-append}
use Prim.Native.Nat.{ℕ, zero, suc, ◌+◌, ◌-◌, ◌*◌, ◌/◌, ◌%◌, ◌≤◌, ◌<◌}
use native.Mathlib.Omega.{arith}
use lib.ListN.{length, get_or, length-map, get_or-map}
use lib.Dec.{leb, eqb}
use Rattle.scenario.specs.Rows.{Row, point, next, last, earlier, later, before, apart, same, free, within, outside, event, event_count, full_half, set_of, lower_half, upper_half, complement, Env, meets, introduced, points, needs, closure, far_end, denying_rows, denials}
use Rattle.scenario.specs.Log.{Log, in_set, has_at, run_of}
use Rattle.scenario.specs.Sheet.{Sheet, env, all, flat, is_line, matching, choices, total, choose, count, chosen, antiscenario}
use Rattle.scenario.specs.Search.{least, smallest_matching}
use Rattle.scenario.specs.Fields.{five, fields}
use Rattle.scenario.specs.Reading.{All, IsEvents}
use Rattle.scenario.specs.Before.{event_count_before, OldLog, Narrow, OldSheet, fields_before, complement_before, denying_rows_before, denials_before, choices_before, count_before, chosen_before, antiscenario_before, lower_event}
use Rattle.scenario.proofs.Base.{get_or-all}
use Rattle.scenario.proofs.Halves.{complement-whole}
use Rattle.scenario.proofs.Logs.{in_set-complement}
use Rattle.scenario.proofs.Prefix.{least-same}

-- Rows

module _ (s : ℕ) (h : s ≤ full_half) where
  lower_half-is : s ≡ lower_half s
  unfolding lower_half
  lower_half-is = omega arith

  upper_half-is : 0 ≡ upper_half s
  unfolding upper_half
  upper_half-is = omega arith

  -- the two denials of an old set have one lower half
  complement_lower : lower_half (complement_before s) ≡ lower_half (complement s)
  unfolding complement_before complement set_of lower_half
  complement_lower = omega arith

-- An old row is written as it was.
pub fields-same : (r : Row) → Narrow r → fields_before r ≡ fields r
unfolding fields_before fields
fields-same (point p s) h = ap₂ (five 1 p 0) (lower_half-is s h) (upper_half-is s h)
fields-same (next p q s) h = ap₂ (five 2 p q) (lower_half-is s h) (upper_half-is s h)
fields-same (last p q s) h = ap₂ (five 3 p q) (lower_half-is s h) (upper_half-is s h)
fields-same (earlier p q a) h = refl
fields-same (later p q a) h = refl
fields-same (before p q) h = refl
fields-same (apart p q) h = refl
fields-same (same p q) h = refl
fields-same (free p q s) h = ap₂ (five 9 p q) (lower_half-is s h) (upper_half-is s h)
fields-same (within p q lo hi) h = refl
fields-same (outside p q lo hi) h = refl
fields-same (event p s) h = ap₂ (five 12 p 0) (lower_half-is s h) (upper_half-is s h)

-- Old events do not tell the two denials of an old set apart.
pub complement-same : (s e : ℕ) → s ≤ full_half → e < event_count_before → in_set (complement_before s) e ≡ in_set (complement s) e
unfolding complement_before IsEvents
complement-same s e h l =
    in_set-complement e event_count_before s l (omega arith)
    ∙ sym (ap (λ (n : ℕ). in_set n e) (complement-whole s (omega arith)) ∙ in_set-complement e event_count s (omega arith) (omega arith))

-- Lists

module _ {A B : Type 0} (f : A → B) where
  total-map : (ls : List (List A)) → total (map (map f) ls) ≡ total ls
  unfolding total
  total-map [] = refl
  total-map (l ∷ ls) = ap₂ (λ (m n : ℕ). m * n) (length-map l f) (total-map ls)

  choose-map : (d : A) (ls : List (List A)) (j : ℕ) → choose (f d) (map (map f) ls) j ≡ map f (choose d ls j)
  unfolding choose
  choose-map d [] j = refl
  choose-map d (l ∷ ls) j =
      ap (λ (t : ℕ). get_or (map f l) (j / t) (f d) ∷ choose (f d) (map (map f) ls) (j % t)) (total-map ls)
      ∙ ap₂ (λ (x : B) (xs : List B). x ∷ xs) (get_or-map f l (j / total ls) d) (choose-map d ls (j % total ls))

  flat_map : (ls : List (List A)) → map f (flat ls) ≡ flat (map (map f) ls)
  unfolding flat
  flat_map [] = refl
  flat_map (l ∷ ls) = map-append f l (flat ls) ∙ ap (λ (m : List B). map f l ++ m) (flat_map ls)

  -- c before each list
  after_map : (c : List A) (ds : List (List A)) → map (map f) (map (λ d. c ++ d) ds) ≡ map (λ (d : List B). map f c ++ d) (map (map f) ds)
  after_map c [] = refl
  after_map c (d ∷ ds) = ap₂ (λ (x : List B) (xs : List (List B)). x ∷ xs) (map-append f c d) (after_map c ds)

flat-choose-map : {A B : Type 0} (f : A → B) (ls : List (List (List A))) (j : ℕ) → map f (flat (choose [] ls j)) ≡ flat (choose [] (map (map (map f)) ls) j)
flat-choose-map f ls j = flat_map f (choose [] ls j) ∙ ap flat (sym (choose-map (map f) [] ls j))

-- Antiscenarios

-- f does not tell the two denials of EVENT apart, for rows with Q: then it does not tell the antiscenarios of such consequents apart.
module _ {A : Type 0} (f : Row → A) (Q : Row → Type 0) (alike : (p s : ℕ) → Q (event p s) → f (event p (complement_before s)) ≡ f (event p (complement s))) where
  denying_alike : (far r : ℕ) (row : Row) → Q row → map (map f) (denying_rows_before far r row) ≡ map (map f) (denying_rows far r row)
  unfolding denying_rows_before denying_rows
  denying_alike far r (point p s) h = refl
  denying_alike far r (next p q s) h = refl
  denying_alike far r (last p q s) h = refl
  denying_alike far r (earlier p q a) h = refl
  denying_alike far r (later p q a) h = refl
  denying_alike far r (before p q) h = refl
  denying_alike far r (apart p q) h = refl
  denying_alike far r (same p q) h = refl
  denying_alike far r (free p q s) h = refl
  denying_alike far r (within p q lo hi) h = refl
  denying_alike far r (outside p q lo hi) h = refl
  denying_alike far r (event p s) h = ap (λ (x : A). (x ∷ []) ∷ []) (alike p s h)

  denials_alike : (far : Row → ℕ) (r : ℕ) (passed rows : List Row) → All Q rows
      → map (map f) (denials_before far r passed rows) ≡ map (map f) (denials far r passed rows)
  unfolding denials_before denials
  denials_alike far r passed [] h = refl
  denials_alike far r passed (row ∷ rows) h =
      let c = closure passed (needs row) in
      let old = denying_rows_before (far row) r row in
      let new = denying_rows (far row) r row in
      map-append (map f) (map (λ d. c ++ d) old) (denials_before far r (row ∷ passed) rows)
      ∙ ap₂ (λ (x y : List (List A)). x ++ y)
      (after_map f c old ∙ ap (map (λ (d : List A). map f c ++ d)) (denying_alike (far row) r row h.0) ∙ sym (after_map f c new))
      (denials_alike far r (row ∷ passed) rows h.1)
      ∙ sym (map-append (map f) (map (λ d. c ++ d) new) (denials far r (row ∷ passed) rows))

  choices_alike : (antecedent : List Row) (i : ℕ) (cs : List (List Row)) → All (All Q) cs
      → map (map (map f)) (choices_before antecedent i cs) ≡ map (map (map f)) (choices (far_end antecedent) i cs)
  unfolding choices_before choices
  choices_alike antecedent i [] h = refl
  choices_alike antecedent i (c ∷ cs) h =
      ap₂ (λ (x : List (List A)) (xs : List (List (List A))). x ∷ xs)
      (denials_alike (far_end antecedent c) (10 * i + 9) [] c h.0) (choices_alike antecedent (suc i) cs h.1)

  module _ (sheet : Sheet) (h : All (All Q) sheet.consequents) where
    abbrev old : List (List (List Row))
    old = choices_before sheet.antecedent 1 sheet.consequents

    abbrev new : List (List (List Row))
    new = choices (far_end sheet.antecedent) 1 sheet.consequents

    sheet_alike : map (map (map f)) old ≡ map (map (map f)) new
    sheet_alike = choices_alike sheet.antecedent 1 sheet.consequents h

    count_alike : count_before sheet ≡ count sheet
    unfolding count_before count
    count_alike = sym (total-map (map f) old) ∙ ap total sheet_alike ∙ total-map (map f) new

    antiscenario_alike : (m : ℕ) → map f (antiscenario_before sheet m) ≡ map f (antiscenario sheet m)
    unfolding antiscenario_before antiscenario chosen_before chosen
    antiscenario_alike m =
        map-append f sheet.antecedent (flat (choose [] old (m - 1)))
        ∙ ap (λ (l : List A). map f sheet.antecedent ++ l)
        (flat-choose-map f old (m - 1) ∙ ap (λ (ls : List (List (List A))). flat (choose [] ls (m - 1))) sheet_alike ∙ sym (flat-choose-map f new (m - 1)))
        ∙ sym (map-append f sheet.antecedent (flat (choose [] new (m - 1))))

points-flat : (rows : List Row) → points rows ≡ flat (map introduced rows)
unfolding points flat
points-flat [] = refl
points-flat (row ∷ rows) = ap (λ (l : List ℕ). introduced row ++ l) (points-flat rows)

-- Of any sheet: what a row introduces does not depend on its set.
module _ (sheet : Sheet) where
  abbrev AnyRow : Row → Type 0
  AnyRow row = Unit {0}

  any-rows : All (All AnyRow) sheet.consequents
  any-rows = get_or-all (All AnyRow) [] sheet.consequents (λ i b. get_or-all AnyRow (apart 0 0) (get_or sheet.consequents i []) (λ j c. tt))

  -- There are as many antiscenarios as there were.
  pub count_same : count_before sheet ≡ count sheet
  count_same = count_alike introduced AnyRow (λ p s h. refl) sheet any-rows

  -- They have the points they had.
  pub points-same : (m : ℕ) → points (antiscenario_before sheet m) ≡ points (antiscenario sheet m)
  points-same m =
      points-flat (antiscenario_before sheet m) ∙ ap flat (antiscenario_alike introduced AnyRow (λ p s h. refl) sheet any-rows m)
      ∙ sym (points-flat (antiscenario sheet m))

-- Of an old sheet: its antiscenarios are what they were, but for the upper halves of EVENT's sets.
pub antiscenario-same : (sheet : Sheet) → OldSheet sheet → (m : ℕ) → map lower_event (antiscenario_before sheet m) ≡ map lower_event (antiscenario sheet m)
unfolding lower_event
antiscenario-same sheet h = antiscenario_alike lower_event Narrow (λ p s n. ap (event p) (complement_lower s n)) sheet h.consequents

old-event : (events : List ℕ) → All (λ (e : ℕ). e < event_count_before) events → (i : ℕ) → get_or events i 0 < event_count_before
old-event [] h i = omega arith
old-event (e ∷ events) h zero = h.0
old-event (e ∷ events) h (suc i) = old-event events h.1 i

-- Of an old sheet on an old log: the antiscenarios have the matchings they had, and a search gives what it gave.
module _ (g : Log) (o : OldLog g) where
  abbrev met : Row → Env → Bool
  met row e = meets (run_of g) e row

  met_alike : (p s : ℕ) → Narrow (event p s) → met (event p (complement_before s)) ≡ met (event p (complement s))
  unfolding meets has_at
  met_alike p s h = fun_ext (λ (e : Env).
      ap (λ (b : Bool). leb 1 (e p) && leb (e p) (length g.events) && b)
      (complement-same s (get_or g.events (e p - 1) 0) h (old-event g.events o (e p - 1))))

  all-met : (e : Env) (rows : List Row) → all (meets (run_of g) e) rows ≡ all (λ (t : Env → Bool). t e) (map met rows)
  unfolding all
  all-met e [] = refl
  all-met e (row ∷ rows) = ap (λ (b : Bool). meets (run_of g) e row && b) (all-met e rows)

  module _ (sheet : Sheet) (h : OldSheet sheet) (m : ℕ) where
    met-same : (e : Env) → all (meets (run_of g) e) (antiscenario_before sheet m) ≡ all (meets (run_of g) e) (antiscenario sheet m)
    met-same e =
        all-met e (antiscenario_before sheet m) ∙ ap (all (λ (t : Env → Bool). t e)) (antiscenario_alike met Narrow met_alike sheet h.consequents m)
        ∙ sym (all-met e (antiscenario sheet m))

    pub matching-same : (zs : List ℕ) → matching (run_of g) (antiscenario_before sheet m) zs ≡ matching (run_of g) (antiscenario sheet m) zs
    unfolding matching
    matching-same zs =
        let line = all (is_line (run_of g)) zs in
        ap (λ (ps : List ℕ). eqb (length zs) (length ps) && line && all (meets (run_of g) (env (run_of g) ps zs)) (antiscenario_before sheet m)) (points-same sheet m)
        ∙ ap (λ (b : Bool). eqb (length zs) (length (points (antiscenario sheet m))) && line && b) (met-same (env (run_of g) (points (antiscenario sheet m)) zs))

    pub search_same : smallest_matching (run_of g) (antiscenario_before sheet m) ≡ smallest_matching (run_of g) (antiscenario sheet m)
    unfolding smallest_matching
    search_same =
        ap (λ (ps : List ℕ). least (length g.events) (length ps) (matching (run_of g) (antiscenario_before sheet m))) (points-same sheet m)
        ∙ least-same (length g.events) (length (points (antiscenario sheet m))) (matching (run_of g) (antiscenario_before sheet m)) (matching (run_of g) (antiscenario sheet m)) matching-same
