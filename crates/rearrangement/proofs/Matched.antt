-- A pattern and its rearranged one have matchings over the same placements of the antecedent's points: what finds the one finds the other.
-- Carried by environments: a position goes with its point, to the number that it has in the other sheet.
-- Assumes nothing.
use mathlib.Core.Path.{◌≡◌, refl, sym, ◌∙◌, ap, subst}
use mathlib.Core.Logic.{◌↔◌, inl, inr, ⊎_elim}
use mathlib.Core.Bool.{◌&&◌, cond}
use mathlib.Core.List.{List, [], ◌∷◌, ◌++◌, map, Memᴰ}
use Prim.Native.Nat.{ℕ, zero, suc, ◌+◌, ◌-◌, ◌*◌, ◌/◌, ◌≤◌, ◌<◌}
use native.Mathlib.Omega.{arith}
use lib.ListN.{length, get_or}
use lib.Dec.{leb}
use borrow.Author.Tests.{le-leb, lt-leb}
use Rattle.scenario.specs.Rows.{Row, Run, Env, meets, introduced, needs, points, far_end}
use Rattle.scenario.specs.Sheet.{Sheet, env, flat, Over, choose, total, count, chosen, antiscenario}
use Rattle.scenario.specs.Reading.{All, SheetRead}
use Rattle.scenario.specs.Renumber.{move, renamed}
use Rattle.scenario.proofs.Base.{T_eq, all_map, all_map₂, all_append, all-front, all_back, elem_at}
use Rattle.scenario.proofs.Rules.{Laws, Met, IsLine, meets-same}
use Rattle.scenario.proofs.Section.{Known, all_of_map}
use Rattle.scenario.proofs.Points.{all-points}
use Rattle.scenario.proofs.Glue.{Uses, one-uses, section_at_lem, Home}
use Rattle.scenario.proofs.Product.{Each, get_or_mem, choose-each}
use Rattle.scenario.proofs.Closure.{choices-at}
use Rattle.scenario.proofs.Agreement.{Base, is-start, is-close, is-antecedent, sheet-ends, Rest, each-rest, antecedent-env, over-met, over-same, over-antecedent, over}
use Rattle.scenario.proofs.Reading.{sound}
use Rattle.scenario.proofs.Renumber.{under, meets-renamed, introduced-renamed, Such, Common, fixed-start, fixed-close, antecedent-point, Named, move-own, move_off, move_common, base_common}
use Rattle.rearrangement.specs.Order.{Rearrangement, reordered, rearranged, choice, denials_of, renumbered}
use Rattle.rearrangement.proofs.Tables.{all_under}
use Rattle.rearrangement.proofs.Counting.{choice-low, chosen_at, length-choose}
use Rattle.rearrangement.proofs.Patterns.{length-reordered, reordered-at, same-patterns, length-choices}

-- Parts

-- what holds of all rows of the parts holds of those of each
all-parts : (P : Row → Type 0) (parts : List (List Row)) → All P (flat parts) → (i : ℕ) → i < length parts → All P (get_or parts i [])
unfolding flat
all-parts P [] h i b = absurd (omega arith)
all-parts P (d ∷ ds) h zero b = all-front P d (flat ds) h
all-parts P (d ∷ ds) h (suc i) b = all-parts P ds (all_back P d (flat ds) h) i (omega arith)

parts_all : (P : Row → Type 0) (parts : List (List Row)) → ((i : ℕ) → i < length parts → All P (get_or parts i [])) → All P (flat parts)
unfolding flat
parts_all P [] h = tt
parts_all P (d ∷ ds) h = all_append P d (flat ds) (h 0 (omega arith)) (parts_all P ds (λ i b. h (suc i) (omega arith)))

-- Sections and points moved as a rearrangement of k consequents moves them, both ways: g i is the new place of place i

unfoldable shifted : (g : ℕ → ℕ) (k : ℕ) → ℕ → ℕ
shifted g k s = cond (leb 1 s && leb s k) (suc (g (s - 1))) s

module _ (g : ℕ → ℕ) (k : ℕ) where
  shifted_in : (i : ℕ) → i < k → shifted g k (suc i) ≡ suc (g i)
  unfolding shifted
  shifted_in i h = let e : suc i - 1 ≡ i = omega arith in simp (le-leb 1 (suc i) (omega arith), le-leb (suc i) k h) (ap (λ (x : ℕ). suc (g x)) e)

  shifted_start : shifted g k 0 ≡ 0
  unfolding shifted
  shifted_start = refl

  shifted_past : (s : ℕ) → k < s → shifted g k s ≡ s
  unfolding shifted
  shifted_past s h = simp (lt-leb s k h, le-leb 1 s (omega arith))

  unfoldable relocated : ℕ → ℕ
  relocated m = move (m / 10) (shifted g k (m / 10)) m

  -- a point of section s comes to the section that s is moved to
  relocated_own : (s m : ℕ) → 10 * s < m → m ≤ 10 * s + 9 → relocated m ≡ m - 10 * s + 10 * shifted g k s
  unfolding relocated
  relocated_own s m a b = let e : m / 10 ≡ s = omega arith in ap (λ (x : ℕ). move x (shifted g k x) m) e ∙ move-own s (shifted g k s) m a b

  relocated_common : k ≤ 6 → (m : ℕ) → Common m → relocated m ≡ m
  unfolding relocated
  relocated_common h m (fixed-start q) = let e : m / 10 ≡ 0 = omega arith in ap (λ (x : ℕ). move x (shifted g k x) m) e ∙ move_off 0 (shifted g k 0) m (λ a b. omega arith)
  relocated_common h m (fixed-close q) = relocated_own 9 m (omega arith) (omega arith) ∙ omega (arith, shifted_past 9 (omega arith))
  relocated_common h m (antecedent-point a b) = relocated_own 0 m (omega arith) (omega arith) ∙ omega (arith, shifted_start)

-- A row and the row renumbered, where the one's points have the positions of the other's

module _ (run : Run) (f : ℕ → ℕ) (P : ℕ → Type 0) (e e' : Env) (agree : (m : ℕ) → P m → e' (f m) ≡ e m) (k : Row) (such : Such P k) where
  meets_alike : meets run e' (renamed f k) ≡ meets run e k
  meets_alike = meets-renamed run e' f k ∙ meets-same run (under f e') e k (all_map agree (needs k) such.0) (all_map agree (introduced k) such.1)

  met-there : Met run e k → Met run e' (renamed f k)
  met-there o = (
    T_eq (sym meets_alike) o.0,
    subst (All (λ (p : ℕ). IsLine run (e' p))) (sym (introduced-renamed f k))
        (all_of_map (λ (p : ℕ). IsLine run (e' p)) f (introduced k) (all_map₂ (λ p h l. subst (IsLine run) (sym (agree p h)) l) (introduced k) such.1 o.1)),
  )

  met-back : Met run e' (renamed f k) → Met run e k
  met-back o = (
    T_eq meets_alike o.0,
    all_map₂ (λ p h l. subst (IsLine run) (agree p h) l) (introduced k) such.1
        (all_under (λ (p : ℕ). IsLine run (e' p)) f (introduced k) (subst (All (λ (p : ℕ). IsLine run (e' p))) (introduced-renamed f k) o.1)),
  )

-- The antiscenarios

module _ (sheet : Sheet) (R : SheetRead sheet) (M : Rearrangement (length sheet.consequents)) (m : ℕ) (l : 1 ≤ m) (h : m ≤ count sheet) where
  abbrev k : ℕ
  k = length sheet.consequents

  abbrev parts : List (List Row)
  parts = choose [] (denials_of sheet) (m - 1)

  abbrev parts' : List (List Row)
  parts' = reordered k M.old parts

  low : m - 1 < total (denials_of sheet)
  unfolding count
  low = omega arith

  denials-length : length (denials_of sheet) ≡ k
  denials-length = length-choices (far_end sheet.antecedent) 1 sheet.consequents

  parts-length : length parts ≡ k
  parts-length = length-choose [] (denials_of sheet) (m - 1) ∙ denials-length

  -- the points of a part are common ones, and those of its section
  part_named : (p : ℕ) → p < k → All (Such (Named (suc p))) (get_or parts p [])
  part_named p b =
      subst (λ (d : List Row). All (Such (Named (suc p))) d) (sym (chosen_at [] (denials_of sheet) (m - 1) p inside))
      (all_map (λ x u. (all_map named (needs x) u.0, all_map (λ q g. inr (omega (arith, g.low), omega (arith, g.high))) (introduced x) u.1)) d uses)
    where
      inside : p < length (denials_of sheet)
      inside = omega (arith, denials-length)

      d : List Row
      d = get_or (get_or (denials_of sheet) p []) (choice (denials_of sheet) (m - 1) p) []

      uses : All (Uses (Known (Base sheet) d) (Home (1 + p))) d
      uses = one-uses (Base sheet) sheet.antecedent (far_end sheet.antecedent) (sheet-ends sheet) (1 + p) (get_or sheet.consequents p [])
          (section_at_lem (Base sheet) 1 sheet.consequents (sound sheet R).sections p b) {d = d}
          (subst (Memᴰ d) (choices-at sheet.antecedent 1 sheet.consequents p b)
          (get_or_mem [] (get_or (denials_of sheet) p []) (choice (denials_of sheet) (m - 1) p) (choice-low (denials_of sheet) (m - 1) low p inside)))

      named : (q : ℕ) → Known (Base sheet) d q → Named (suc p) q
      named q = ⊎_elim (λ c. inl (base_common sheet R q c))
          (λ t. let g = elem_at (Home (1 + p)) q (points d) t (all-points (Home (1 + p)) d (all_map (λ x u. u.1) d uses)) in inr (omega (arith, g.low), omega (arith, g.high)))

  -- e has for the parts' points the positions that e' has for them under their new numbers
  record Linked (e e' : Env) : Type 0 where
    common : (q : ℕ) → Common q → e' q ≡ e q
    each : (i : ℕ) → i < k → (q : ℕ) → Named (suc (M.old i)) q → e' (move (suc (M.old i)) (suc i) q) ≡ e q

  new-place : (i : ℕ) → i < length parts' → i < k
  new-place i b = omega (arith, length-reordered k M.old parts)

  module _ (run : Run) (e e' : Env) (K : Linked e e') where
    parts-there : All (Met run e) (flat parts) → All (Met run e') (flat parts')
    parts-there o = parts_all (Met run e') parts' (λ i b. part i (new-place i b))
      where
        part : (i : ℕ) → i < k → All (Met run e') (get_or parts' i [])
        part i b =
            let j = M.old i in
            subst (All (Met run e')) (sym (reordered-at k M.old parts i b))
            (all_of_map (Met run e') (renamed (move (suc j) (suc i))) (get_or parts j [])
            (all_map₂ (λ x s c. met-there run (move (suc j) (suc i)) (Named (suc j)) e e' (K.each i b) x s c) (get_or parts j [])
            (part_named j (M.old_low i b)) (all-parts (Met run e) parts o j (omega (arith, M.old_low i b, parts-length)))))

    parts-back : All (Met run e') (flat parts') → All (Met run e) (flat parts)
    parts-back o = parts_all (Met run e) parts (λ j b. part j (omega (arith, parts-length)))
      where
        -- the part that has come to place i
        at : (i : ℕ) → i < k → All (Met run e) (get_or parts (M.old i) [])
        at i b =
            let j = M.old i in
            all_map₂ (λ x s c. met-back run (move (suc j) (suc i)) (Named (suc j)) e e' (K.each i b) x s c) (get_or parts j []) (part_named j (M.old_low i b))
            (all_under (Met run e') (renamed (move (suc j) (suc i))) (get_or parts j [])
            (subst (All (Met run e')) (reordered-at k M.old parts i b) (all-parts (Met run e') parts' o i (omega (arith, length-reordered k M.old parts)))))

        part : (j : ℕ) → j < k → All (Met run e) (get_or parts j [])
        part j b = subst (λ (x : ℕ). All (Met run e) (get_or parts x [])) (M.old_new j b) (at (M.new j) (M.new_low j b))

  -- From each environment to the other

  forth : (e : Env) → Linked e (under (relocated M.old k) e)
  forth e = record {
    common = λ q c. ap e (relocated_common M.old k R.count q c);
    each = λ i b q n. ap e (there_and_back i b q n);
  }
    where
      there_and_back : (i : ℕ) → i < k → (q : ℕ) → Named (suc (M.old i)) q → relocated M.old k (move (suc (M.old i)) (suc i) q) ≡ q
      there_and_back i b q (inl c) =
          ap (relocated M.old k) (move_common (suc (M.old i)) (suc i) (omega arith) (omega (arith, M.old_low i b, R.count)) q c) ∙ relocated_common M.old k R.count q c
      there_and_back i b q (inr o) =
          ap (relocated M.old k) (move-own (suc (M.old i)) (suc i) q o.0 o.1)
          ∙ relocated_own M.old k (suc i) (q - 10 * suc (M.old i) + 10 * suc i) (omega (arith, o.0)) (omega (arith, o.1))
          ∙ omega (arith, shifted_in M.old k i b, o.0)

  back : (e' : Env) → Linked (under (relocated M.new k) e') e'
  back e' = record {
    common = λ q c. ap e' (sym (relocated_common M.new k R.count q c));
    each = λ i b q n. ap e' (same i b q n);
  }
    where
      same : (i : ℕ) → i < k → (q : ℕ) → Named (suc (M.old i)) q → move (suc (M.old i)) (suc i) q ≡ relocated M.new k q
      same i b q (inl c) = move_common (suc (M.old i)) (suc i) (omega arith) (omega (arith, M.old_low i b, R.count)) q c ∙ sym (relocated_common M.new k R.count q c)
      same i b q (inr o) =
          move-own (suc (M.old i)) (suc i) q o.0 o.1
          ∙ omega (arith, relocated_own M.new k (suc (M.old i)) q o.0 o.1, shifted_in M.new k (M.old i) (M.old_low i b), M.new_old i b)

-- THE THEOREM: over each placement of the antecedent's points both have a matching, or neither.
module _ (run : Run) (L : Laws run) (sheet : Sheet) (R : SheetRead sheet) (M : Rearrangement (length sheet.consequents)) (R' : SheetRead (rearranged sheet M.old))
    (m : ℕ) (l : 1 ≤ m) (h : m ≤ count sheet) (xs : List ℕ) where
  abbrev sheet' : Sheet
  sheet' = record { antecedent = sheet.antecedent; consequents = reordered (length sheet.consequents) M.old sheet.consequents }

  read' : SheetRead sheet'
  unfolding rearranged
  read' = R'

  abbrev ds : List (List Row)
  ds = parts sheet R M m l h

  abbrev ds' : List (List Row)
  ds' = parts' sheet R M m l h

  rest : Rest run L sheet (sound sheet R) (flat ds)
  rest = each-rest run L sheet (sound sheet R) (far_end sheet.antecedent) (sheet-ends sheet) ds (choose-each [] (denials_of sheet) (m - 1) (low sheet R M m l h))

  chosen' : choose [] (denials_of sheet') (renumbered sheet M.old m - 1) ≡ ds'
  unfolding chosen rearranged
  chosen' = (same-patterns sheet R M).parts m l h

  low' : renumbered sheet M.old m - 1 < total (denials_of sheet')
  unfolding count rearranged
  low' = let P = same-patterns sheet R M in omega (arith, P.as_many, P.low m l h, P.high m l h)

  rest' : Rest run L sheet' (sound sheet' read') (flat ds')
  rest' =
      each-rest run L sheet' (sound sheet' read') (far_end sheet.antecedent) (sheet-ends sheet') ds'
      (subst (λ (x : List (List Row)). Each x (denials_of sheet')) chosen' (choose-each [] (denials_of sheet') (renumbered sheet M.old m - 1) low'))

  there : (zs : List ℕ) → Over run sheet (sheet.antecedent ++ flat ds) xs zs → (us : List ℕ) × Over run sheet' (sheet.antecedent ++ flat ds') xs us
  unfolding antecedent-env
  there zs O =
      let e = env run (points (sheet.antecedent ++ flat ds)) zs in
      let K = forth sheet R M m l h e in
      let e' = under (relocated M.old (length sheet.consequents)) e in (
        map e' (points (sheet.antecedent ++ flat ds')),
        over run L sheet' (sound sheet' read') xs (over-antecedent run L sheet (sound sheet R) xs (flat ds) rest zs O) (flat ds') rest' e'
            (λ q b. over-same run L sheet (sound sheet R) (flat ds) rest xs zs O q (based q b) ∙ sym (K.common q (base_common sheet R q (based q b))))
            (parts-there sheet R M m l h run e e' K (all_back (Met run e) sheet.antecedent (flat ds) (over-met run L sheet (sound sheet R) (flat ds) rest xs zs O))),
      )
    where
      based : (q : ℕ) → Base sheet' q → Base sheet q
      based q (is-start e) = is-start e
      based q (is-close e) = is-close e
      based q (is-antecedent t) = is-antecedent t

  back_again : (us : List ℕ) → Over run sheet' (sheet.antecedent ++ flat ds') xs us → (zs : List ℕ) × Over run sheet (sheet.antecedent ++ flat ds) xs zs
  unfolding antecedent-env
  back_again us O =
      let e' = env run (points (sheet.antecedent ++ flat ds')) us in
      let K = back sheet R M m l h e' in
      let e = under (relocated M.new (length sheet.consequents)) e' in (
        map e (points (sheet.antecedent ++ flat ds)),
        over run L sheet (sound sheet R) xs (over-antecedent run L sheet' (sound sheet' read') xs (flat ds') rest' us O) (flat ds) rest e
            (λ q b. over-same run L sheet' (sound sheet' read') (flat ds') rest' xs us O q (based q b) ∙ K.common q (base_common sheet R q b))
            (parts-back sheet R M m l h run e e' K (all_back (Met run e') sheet.antecedent (flat ds') (over-met run L sheet' (sound sheet' read') (flat ds') rest' xs us O))),
      )
    where
      based : (q : ℕ) → Base sheet q → Base sheet' q
      based q (is-start e) = is-start e
      based q (is-close e) = is-close e
      based q (is-antecedent t) = is-antecedent t

  pub found_alike : ((zs : List ℕ) × Over run sheet (antiscenario sheet m) xs zs)
      ↔ ((us : List ℕ) × Over run (rearranged sheet M.old) (antiscenario (rearranged sheet M.old) (renumbered sheet M.old m)) xs us)
  unfolding antiscenario chosen rearranged
  found_alike = (
    λ z. let u = there z.0 z.1 in (u.0, subst (λ (x : List (List Row)). Over run sheet' (sheet.antecedent ++ flat x) xs u.0) (sym chosen') u.1),
    λ u. back_again u.0 (subst (λ (x : List (List Row)). Over run sheet' (sheet.antecedent ++ flat x) xs u.0) chosen' u.1),
  )
