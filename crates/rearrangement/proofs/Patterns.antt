-- The antiscenarios of a rearranged sheet are the sheet's, their parts in the new order, each as often, under moved numbers.
-- Carried by the choices: way number j of the sheet becomes the way that makes its choices in the new order, and the other way round.
-- Assumes nothing.
use mathlib.Core.Path.{◌≡◌, refl, sym, ◌∙◌, ap, ap₂}
use mathlib.Core.List.{List, [], ◌∷◌, map}
use Prim.Native.Nat.{ℕ, suc, ◌+◌, ◌-◌, ◌*◌, ◌≤◌, ◌<◌}
use native.Mathlib.Omega.{arith}
use lib.ListN.{length, get_or, length-map, get_or-map}
use Rattle.scenario.specs.Rows.{Row, introduced, needs, far_end, denials}
use Rattle.scenario.specs.Sheet.{Sheet, total, choose, choices, count, chosen}
use Rattle.scenario.specs.Reading.{All, SheetRead}
use Rattle.scenario.specs.Renumber.{move, moved}
use Rattle.scenario.proofs.Base.{all_map, same-places}
use Rattle.scenario.proofs.Closure.{choices-at}
use Rattle.scenario.proofs.Renumber.{Such, renamed-back, Named, move-back, antecedent_common, antecedent_points_common, consequent_named}
use Rattle.rearrangement.specs.Order.{Rearrangement, reordered, rearranged, choice, way, denials_of, renumbered, SamePatterns}
use Rattle.rearrangement.proofs.Tables.{length-table, table_at}
use Rattle.rearrangement.proofs.Counting.{Choices, choice-low, way-low, choice_of_way, way_of_choice, way_same, length-choose, chosen_at, no_fewer}
use Rattle.rearrangement.proofs.Denials.{denials-moved}

-- Parts in the new order, by their places

pub length-reordered : (k : ℕ) (old : ℕ → ℕ) (parts : List (List Row)) → length (reordered k old parts) ≡ k
unfolding reordered
length-reordered k old parts = length-table k (λ i. moved (suc (old i)) (suc i) (get_or parts (old i) []))

pub reordered-at : (k : ℕ) (old : ℕ → ℕ) (parts : List (List Row)) (i : ℕ) → i < k
    → get_or (reordered k old parts) i [] ≡ moved (suc (old i)) (suc i) (get_or parts (old i) [])
unfolding reordered
reordered-at k old parts i h = table_at [] k (λ i. moved (suc (old i)) (suc i) (get_or parts (old i) [])) i h

-- The new order undone gives the sheet back.

moved_back : (j i : ℕ) → 1 ≤ j → j ≤ 6 → 1 ≤ i → i ≤ 6 → (rows : List Row) → All (Such (Named j)) rows → moved i j (moved j i rows) ≡ rows
moved_back j i jl jh il ih [] h = refl
moved_back j i jl jh il ih (k ∷ rows) h =
    ap₂ (λ x xs. x ∷ xs)
    (renamed-back (move j i) (move i j) k (all_map (move-back j i jl jh il ih) (needs k) h.0.0, all_map (move-back j i jl jh il ih) (introduced k) h.0.1))
    (moved_back j i jl jh il ih rows h.1)

pub rearranged-back : (sheet : Sheet) → SheetRead sheet → (M : Rearrangement (length sheet.consequents)) → rearranged (rearranged sheet M.old) M.new ≡ sheet
unfolding rearranged
rearranged-back sheet R M =
    ap (λ (cs : List (List Row)). record { antecedent = sheet.antecedent; consequents = cs })
    (ap (λ (n : ℕ). reordered n M.new parts) (length-reordered k M.old sheet.consequents)
    ∙ same-places [] (reordered k M.new parts) sheet.consequents (length-reordered k M.new parts) (λ j b. part j (omega (arith, length-reordered k M.new parts))))
  where
    k : ℕ
    k = length sheet.consequents

    parts : List (List Row)
    parts = reordered k M.old sheet.consequents

    part : (j : ℕ) → j < k → get_or (reordered k M.new parts) j [] ≡ get_or sheet.consequents j []
    part j b =
        reordered-at k M.new parts j b
        ∙ ap (moved (suc (M.new j)) (suc j)) (reordered-at k M.old sheet.consequents (M.new j) (M.new_low j b)
        ∙ ap (λ (x : ℕ). moved (suc x) (suc (M.new j)) (get_or sheet.consequents x [])) (M.old_new j b))
        ∙ moved_back (suc j) (suc (M.new j)) (omega arith) (omega (arith, b, R.count)) (omega arith) (omega (arith, M.new_low j b, R.count)) (get_or sheet.consequents j []) (consequent_named sheet R j b)

-- Denials and their numbers

pub length-choices : (far : List Row → Row → ℕ) (i : ℕ) (cs : List (List Row)) → length (choices far i cs) ≡ length cs
unfolding choices
length-choices far i [] = refl
length-choices far i (c ∷ cs) = ap suc (length-choices far (suc i) cs)

module _ (sheet : Sheet) (R : SheetRead sheet) (M : Rearrangement (length sheet.consequents)) where
  abbrev k : ℕ
  k = length sheet.consequents

  abbrev before : List (List (List Row))
  before = denials_of sheet

  abbrev after : List (List (List Row))
  after = choices (far_end sheet.antecedent) 1 (reordered k M.old sheet.consequents)

  before-length : length before ≡ k
  before-length = length-choices (far_end sheet.antecedent) 1 sheet.consequents

  after-length : length after ≡ k
  after-length = length-choices (far_end sheet.antecedent) 1 (reordered k M.old sheet.consequents) ∙ length-reordered k M.old sheet.consequents

  -- each consequent's denials come with it
  after-at : (i : ℕ) → i < k → get_or after i [] ≡ map (moved (suc (M.old i)) (suc i)) (get_or before (M.old i) [])
  after-at i h =
      choices-at sheet.antecedent 1 (reordered k M.old sheet.consequents) i (omega (arith, length-reordered k M.old sheet.consequents))
      ∙ ap₂ (λ c x. denials (far_end sheet.antecedent c) (10 * x + 9) [] c) (reordered-at k M.old sheet.consequents i h) new-place
      ∙ denials-moved (suc (M.old i)) (suc i) (omega arith) (omega (arith, M.old_low i h, R.count)) (omega arith) (omega (arith, R.count))
      sheet.antecedent (get_or sheet.consequents (M.old i) []) (antecedent_common sheet R) (consequent_named sheet R (M.old i) (M.old_low i h)) (antecedent_points_common sheet R)
      ∙ ap (map (moved (suc (M.old i)) (suc i)))
      (sym (choices-at sheet.antecedent 1 sheet.consequents (M.old i) (M.old_low i h)
      ∙ ap (λ (x : ℕ). denials (far_end sheet.antecedent (get_or sheet.consequents (M.old i) [])) (10 * x + 9) [] (get_or sheet.consequents (M.old i) [])) old-place))
    where
      new-place : 1 + i ≡ suc i
      new-place = omega arith

      old-place : 1 + M.old i ≡ suc (M.old i)
      old-place = omega arith

  after-size : (i : ℕ) → i < k → length (get_or after i []) ≡ length (get_or before (M.old i) [])
  after-size i h = ap length (after-at i h) ∙ length-map (get_or before (M.old i) []) (moved (suc (M.old i)) (suc i))

  -- the choices of way j in the new order, and those of way n in the old one
  forth : (j : ℕ) → j < total before → Choices after (λ i. choice before j (M.old i))
  forth j h i b =
      let l : i < k = omega (arith, after-length) in
      omega (arith, after-size i l, choice-low before j h (M.old i) (omega (arith, M.old_low i l, before-length)))

  back : (n : ℕ) → n < total after → Choices before (λ p. choice after n (M.new p))
  back n h p b =
      let l : p < k = omega (arith, before-length) in
      let q : length (get_or after (M.new p) []) ≡ length (get_or before p []) = after-size (M.new p) (M.new_low p l) ∙ ap (λ (x : ℕ). length (get_or before x [])) (M.old_new p l) in
      omega (arith, q, choice-low after n h (M.new p) (omega (arith, M.new_low p l, after-length)))

  abbrev forward : ℕ → ℕ
  forward j = way after (λ i. choice before j (M.old i))

  abbrev backward : ℕ → ℕ
  backward n = way before (λ p. choice after n (M.new p))

  forward-low : (j : ℕ) → j < total before → forward j < total after
  forward-low j h = way-low after (λ i. choice before j (M.old i)) (forth j h)

  backward-low : (n : ℕ) → n < total after → backward n < total before
  backward-low n h = way-low before (λ p. choice after n (M.new p)) (back n h)

  forward-choice : (j : ℕ) → j < total before → (i : ℕ) → i < k → choice after (forward j) i ≡ choice before j (M.old i)
  forward-choice j h i b = choice_of_way after (λ i. choice before j (M.old i)) (forth j h) i (omega (arith, after-length))

  there_and_back : (j : ℕ) → j < total before → backward (forward j) ≡ j
  there_and_back j h =
      way_same before (λ p. choice after (forward j) (M.new p)) (choice before j)
      (λ p b. let l : p < k = omega (arith, before-length) in forward-choice j h (M.new p) (M.new_low p l) ∙ ap (choice before j) (M.old_new p l))
      ∙ way_of_choice before j h

  back-and-there : (n : ℕ) → n < total after → forward (backward n) ≡ n
  back-and-there n h =
      way_same after (λ i. choice before (backward n) (M.old i)) (choice after n)
      (λ i b. let l : i < k = omega (arith, after-length) in
      choice_of_way before (λ p. choice after n (M.new p)) (back n h) (M.old i) (omega (arith, M.old_low i l, before-length)) ∙ ap (choice after n) (M.new_old i l))
      ∙ way_of_choice after n h

  same_total : total after ≡ total before
  same_total =
      omega (
        arith,
        no_fewer (total before) (total after) forward (record { low = forward-low; one = λ i j h l q. sym (there_and_back i h) ∙ ap backward q ∙ there_and_back j l }),
        no_fewer (total after) (total before) backward (record { low = backward-low; one = λ i j h l q. sym (back-and-there i h) ∙ ap forward q ∙ back-and-there j l }),
      )

  forward-parts : (j : ℕ) → j < total before → choose [] after (forward j) ≡ reordered k M.old (choose [] before j)
  forward-parts j h =
      same-places [] (choose [] after (forward j)) (reordered k M.old (choose [] before j))
      (length-choose [] after (forward j) ∙ after-length ∙ sym (length-reordered k M.old (choose [] before j)))
      (λ i b. part i (omega (arith, length-choose [] after (forward j), after-length)))
    where
      part : (i : ℕ) → i < k → get_or (choose [] after (forward j)) i [] ≡ get_or (reordered k M.old (choose [] before j)) i []
      part i l =
          chosen_at [] after (forward j) i (omega (arith, after-length))
          ∙ ap₂ (λ ds x. get_or ds x []) (after-at i l) (forward-choice j h i l)
          ∙ get_or-map (moved (suc (M.old i)) (suc i)) (get_or before (M.old i) []) (choice before j (M.old i)) []
          ∙ ap (moved (suc (M.old i)) (suc i)) (sym (chosen_at [] before j (M.old i) (omega (arith, M.old_low i l, before-length))))
          ∙ sym (reordered-at k M.old (choose [] before j) i l)

  -- THE THEOREM: the same patterns
  pub same-patterns : SamePatterns sheet M.old
  unfolding count chosen renumbered rearranged
  same-patterns = record {
    as_many = same_total;
    low = λ m a b. omega arith;
    high = λ m a b. omega (arith, same_total, forward-low (m - 1) (omega arith));
    once = λ m n a b c d q.
        let f : forward (m - 1) ≡ forward (n - 1) = omega arith in
        let e : m - 1 ≡ n - 1 = sym (there_and_back (m - 1) (omega arith)) ∙ ap backward f ∙ there_and_back (n - 1) (omega arith) in omega arith;
    every = λ n a b.
        let h : n - 1 < total after = omega (arith, same_total) in
        let l = backward-low (n - 1) h in
        let e : suc (backward (n - 1)) - 1 ≡ backward (n - 1) = omega arith in
        (suc (backward (n - 1)), omega arith, l, ap (λ (x : ℕ). suc (forward x)) e ∙ omega (arith, back-and-there (n - 1) h));
    parts = λ m a b.
        let e : suc (forward (m - 1)) - 1 ≡ forward (m - 1) = omega arith in
        ap (choose [] after) e ∙ forward-parts (m - 1) (omega arith);
  }
