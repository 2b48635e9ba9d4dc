-- Antiscenarios with long denials of missing points beside those with short ones (document 02, A8), row by row, for any relation between the two.
-- Assumes nothing.
use mathlib.Core.Path.{◌≡◌, refl, ap, ap₂}
use mathlib.Core.List.{List, [], ◌∷◌, ◌++◌, map}
use Prim.Native.Nat.{ℕ, zero, suc, ◌+◌, ◌*◌, ◌-◌, ◌/◌, ◌%◌}
use lib.ListN.{length, get_or}
use Rattle.scenario.specs.Rows.{Row, point, next, last, earlier, later, before, apart, same, free, within, outside, event, introduced, points, needs, closure, first_or, far_end, denying_rows, denials}
use Rattle.scenario.specs.Sheet.{Sheet, flat, choices, total, choose, chosen, antiscenario}
use Rattle.scenario.specs.Long.{long_end, antiscenario_long}

-- Lists of one length, their members related one by one
module _ {A B : Type 0} (R : A → B → Type 0) where
  abbrev pub Alike : List A → List B → Type 0
  Alike [] [] = Unit {0}
  Alike [] (y ∷ ys) = ⊥
  Alike (x ∷ xs) [] = ⊥
  Alike (x ∷ xs) (y ∷ ys) = R x y × Alike xs ys

  alike_append : (xs : List A) (ys : List B) (us : List A) (vs : List B) → Alike xs ys → Alike us vs → Alike (xs ++ us) (ys ++ vs)
  alike_append [] [] us vs a b = b
  alike_append [] (y ∷ ys) us vs a b = absurd a
  alike_append (x ∷ xs) [] us vs a b = absurd a
  alike_append (x ∷ xs) (y ∷ ys) us vs a b = (a.0, alike_append xs ys us vs a.1 b)

  pub alike_length : (xs : List A) (ys : List B) → Alike xs ys → length xs ≡ length ys
  alike_length [] [] a = refl
  alike_length [] (y ∷ ys) a = absurd a
  alike_length (x ∷ xs) [] a = absurd a
  alike_length (x ∷ xs) (y ∷ ys) a = ap suc (alike_length xs ys a.1)

  alike_get_or : (d : A) (d' : B) → R d d' → (xs : List A) (ys : List B) → Alike xs ys → (j : ℕ) → R (get_or xs j d) (get_or ys j d')
  alike_get_or d d' r [] [] a j = r
  alike_get_or d d' r [] (y ∷ ys) a j = absurd a
  alike_get_or d d' r (x ∷ xs) [] a j = absurd a
  alike_get_or d d' r (x ∷ xs) (y ∷ ys) a zero = a.0
  alike_get_or d d' r (x ∷ xs) (y ∷ ys) a (suc j) = alike_get_or d d' r xs ys a.1 j

alike_same : {A : Type 0} (R : A → A → Type 0) → ((x : A) → R x x) → (xs : List A) → Alike R xs xs
alike_same R h [] = tt
alike_same R h (x ∷ xs) = (h x, alike_same R h xs)

-- Antiscenarios, row by row, for a relation that every row has with itself and a missing point's long denial with its short one
module _ (R : Row → Row → Type 0) (same_row : (row : Row) → R row row) (antecedent : List Row)
    (of_next : (c : List Row) (p q s : ℕ) → R (free q 99 s) (free q (far_end antecedent c (next p q s)) s))
    (of_last : (c : List Row) (p q s : ℕ) → R (free 0 q s) (free (far_end antecedent c (last p q s)) q s)) where
  abbrev Rows : List Row → List Row → Type 0
  Rows = Alike R

  same_rows : (l : List (List Row)) → Alike Rows l l
  same_rows = alike_same Rows (alike_same R same_row)

  denying_alike : (c : List Row) (r : ℕ) (row : Row) → Alike Rows (denying_rows (long_end c row) r row) (denying_rows (far_end antecedent c row) r row)
  unfolding denying_rows long_end first_or points far_end
  denying_alike c r (point p s) = same_rows (denying_rows 0 r (point p s))
  denying_alike c r (next p q s) = ((of_next c p q s, tt), tt)
  denying_alike c r (last p q s) = ((of_last c p q s, tt), tt)
  denying_alike c r (earlier p q a) = same_rows (denying_rows 0 r (earlier p q a))
  denying_alike c r (later p q a) = same_rows (denying_rows 0 r (later p q a))
  denying_alike c r (before p q) = same_rows (denying_rows 0 r (before p q))
  denying_alike c r (apart p q) = same_rows (denying_rows 0 r (apart p q))
  denying_alike c r (same p q) = same_rows (denying_rows 0 r (same p q))
  denying_alike c r (free p q s) = same_rows (denying_rows 0 r (free p q s))
  denying_alike c r (within p q lo hi) = same_rows (denying_rows 0 r (within p q lo hi))
  denying_alike c r (outside p q lo hi) = same_rows (denying_rows 0 r (outside p q lo hi))
  denying_alike c r (event p s) = same_rows (denying_rows 0 r (event p s))

  brought_alike : (b : List Row) (ds es : List (List Row)) → Alike Rows ds es → Alike Rows (map (λ d. b ++ d) ds) (map (λ d. b ++ d) es)
  brought_alike b [] [] a = tt
  brought_alike b [] (e ∷ es) a = absurd a
  brought_alike b (d ∷ ds) [] a = absurd a
  brought_alike b (d ∷ ds) (e ∷ es) a = (alike_append R b b d e (alike_same R same_row b) a.0, brought_alike b ds es a.1)

  denials_alike : (c : List Row) (r : ℕ) (passed rows : List Row) → Alike Rows (denials (long_end c) r passed rows) (denials (far_end antecedent c) r passed rows)
  unfolding denials
  denials_alike c r passed [] = tt
  denials_alike c r passed (row ∷ rows) =
      alike_append Rows (map (λ d. closure passed (needs row) ++ d) (denying_rows (long_end c row) r row)) (map (λ d. closure passed (needs row) ++ d) (denying_rows (far_end antecedent c row) r row))
      (denials (long_end c) r (row ∷ passed) rows) (denials (far_end antecedent c) r (row ∷ passed) rows)
      (brought_alike (closure passed (needs row)) (denying_rows (long_end c row) r row) (denying_rows (far_end antecedent c row) r row) (denying_alike c r row))
      (denials_alike c r (row ∷ passed) rows)

  pub choices_alike : (i : ℕ) (cs : List (List Row)) → Alike (Alike Rows) (choices long_end i cs) (choices (far_end antecedent) i cs)
  unfolding choices
  choices_alike i [] = tt
  choices_alike i (c ∷ cs) = (denials_alike c (10 * i + 9) [] c, choices_alike (suc i) cs)

  pub total_alike : (ls ms : List (List (List Row))) → Alike (Alike Rows) ls ms → total ls ≡ total ms
  unfolding total
  total_alike [] [] a = refl
  total_alike [] (m ∷ ms) a = absurd a
  total_alike (l ∷ ls) [] a = absurd a
  total_alike (l ∷ ls) (m ∷ ms) a = ap₂ ◌*◌ (alike_length Rows l m a.0) (total_alike ls ms a.1)

  choose_alike : (ls ms : List (List (List Row))) → Alike (Alike Rows) ls ms → (j : ℕ) → Alike Rows (choose [] ls j) (choose [] ms j)
  unfolding choose
  choose_alike [] [] a j = tt
  choose_alike [] (m ∷ ms) a j = absurd a
  choose_alike (l ∷ ls) [] a j = absurd a
  choose_alike (l ∷ ls) (m ∷ ms) a j =
      rw (total_alike ls ms a.1) (alike_get_or Rows [] [] tt l m a.0 (j / total ms), choose_alike ls ms a.1 (j % total ms))

  flat_alike : (ds es : List (List Row)) → Alike Rows ds es → Rows (flat ds) (flat es)
  unfolding flat
  flat_alike [] [] a = tt
  flat_alike [] (e ∷ es) a = absurd a
  flat_alike (d ∷ ds) [] a = absurd a
  flat_alike (d ∷ ds) (e ∷ es) a = alike_append R d e (flat ds) (flat es) a.0 (flat_alike ds es a.1)

  pub antiscenario_alike : (cs : List (List Row)) (j : ℕ) → Rows (antecedent ++ flat (choose [] (choices long_end 1 cs) j)) (antecedent ++ flat (choose [] (choices (far_end antecedent) 1 cs) j))
  antiscenario_alike cs j =
      alike_append R antecedent antecedent (flat (choose [] (choices long_end 1 cs) j)) (flat (choose [] (choices (far_end antecedent) 1 cs) j)) (alike_same R same_row antecedent)
      (flat_alike (choose [] (choices long_end 1 cs) j) (choose [] (choices (far_end antecedent) 1 cs) j) (choose_alike (choices long_end 1 cs) (choices (far_end antecedent) 1 cs) (choices_alike 1 cs) j))

-- They have the same points.
points_alike : (rows rows' : List Row) → Alike (λ (x y : Row). introduced x ≡ introduced y) rows rows' → points rows ≡ points rows'
unfolding points
points_alike [] [] a = refl
points_alike [] (y ∷ ys) a = absurd a
points_alike (x ∷ xs) [] a = absurd a
points_alike (x ∷ xs) (y ∷ ys) a = ap₂ ◌++◌ a.0 (points_alike xs ys a.1)

pub same_points : (sheet : Sheet) (m : ℕ) → points (antiscenario_long sheet m) ≡ points (antiscenario sheet m)
unfolding antiscenario_long antiscenario chosen
same_points sheet m =
    points_alike (antiscenario_long sheet m) (antiscenario sheet m)
    (antiscenario_alike (λ (x y : Row). introduced x ≡ introduced y) (λ row. refl) sheet.antecedent (λ c p q s. refl) (λ c p q s. refl) sheet.consequents (m - 1))
