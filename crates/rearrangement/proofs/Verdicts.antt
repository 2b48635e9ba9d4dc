-- On a rearranged sheet the same placements are violating, and each consequent is left at the same one of its rows.
-- Carried by the walk: over rows that have become another section's it ends where it ended, since their own points have no position before they are placed.
-- Assumes nothing.
use mathlib.Core.Path.{◌≡◌, sym, ◌∙◌, ap, subst}
use mathlib.Core.Logic.{inl, inr}
use mathlib.Core.Bool.{Bool, ◌&&◌}
use mathlib.Core.List.{List, []}
use Prim.Native.Nat.{ℕ, suc, ◌+◌, ◌-◌, ◌*◌, ◌≤◌, ◌<◌}
use native.Mathlib.Omega.{arith}
use lib.ListN.{length, get_or}
use lib.Dec.{T, eqb}
use Rattle.scenario.specs.Rows.{Row, Run, Env, points}
use Rattle.scenario.specs.Walk.{walk}
use Rattle.scenario.specs.Sheet.{Sheet, env, all, matching}
use Rattle.scenario.specs.Search.{stopped, is_violating, check, place_of}
use Rattle.scenario.specs.Reading.{SheetRead}
use Rattle.scenario.specs.Renumber.{move}
use Rattle.scenario.proofs.Base.{T_eq, elem_at, all_get_d, get_or-all}
use Rattle.scenario.proofs.Place.{env-plain, all_get, all-put}
use Rattle.scenario.proofs.Prefix.{least-same}
use Rattle.scenario.proofs.Clock.{same_test}
use Rattle.scenario.proofs.Reading.{counted-all}
use Rattle.scenario.proofs.Frame.{Kept, stopped-renamed, place-renamed, lookup-none}
use Rattle.scenario.proofs.Renumber.{Named, eqb-renamed, move-own, move_common, move-one, consequent_named}
use Rattle.rearrangement.specs.Order.{Rearrangement, reordered, rearranged}
use Rattle.rearrangement.proofs.Patterns.{length-reordered, reordered-at}

module _ (run : Run) (sheet : Sheet) (R : SheetRead sheet) (xs : List ℕ) where
  -- the antecedent's placement
  abbrev pub placed : Env
  placed = env run (points sheet.antecedent) xs

  -- a consequent's point has no position yet
  none_yet : (m : ℕ) → 9 < m → m < 99 → placed m ≡ 0
  none_yet m l h =
      env-plain run (points sheet.antecedent) xs m (record { not_start = λ q. omega arith; not_close = λ q. omega arith })
      ∙ lookup-none (points sheet.antecedent) xs m (λ t.
      let u = elem_at (λ (p : ℕ). (0 < p) × (p ≤ 0 + length (points sheet.antecedent))) m (points sheet.antecedent) t (counted-all 0 (points sheet.antecedent) R.numbers) in
      omega (arith, u.1, R.few))

  module _ (M : Rearrangement (length sheet.consequents)) (i : ℕ) (h : i < length sheet.consequents) where
    abbrev from : ℕ
    from = suc (M.old i)

    jh : from ≤ 6
    jh = omega (arith, M.old_low i h, R.count)

    ih : suc i ≤ 6
    ih = omega (arith, R.count)

    tells : (m p : ℕ) → Named from m → Named from p → eqb (move from (suc i) m) (move from (suc i) p) ≡ eqb m p
    tells = eqb-renamed (move from (suc i)) (Named from) (move-one from (suc i) (omega arith) jh (omega arith) ih)

    kept : Kept run (move from (suc i)) (Named from) (Named from) tells placed placed
    kept m (inl c) = ap placed (move_common from (suc i) (omega arith) jh m c)
    kept m (inr o) =
        ap placed (move-own from (suc i) m o.0 o.1)
        ∙ none_yet (m - 10 * from + 10 * suc i) (omega (arith, o.0)) (omega (arith, o.1, ih)) ∙ sym (none_yet m (omega (arith, o.0)) (omega (arith, o.1, jh)))

    pub same_stop : stopped (walk run placed (get_or (reordered (length sheet.consequents) M.old sheet.consequents) i [])) ≡ stopped (walk run placed (get_or sheet.consequents (M.old i) []))
    same_stop =
        ap (λ (c : List Row). stopped (walk run placed c)) (reordered-at (length sheet.consequents) M.old sheet.consequents i h)
        ∙ stopped-renamed run (move from (suc i)) (Named from) (Named from) tells (get_or sheet.consequents (M.old i) []) (consequent_named sheet R (M.old i) (M.old_low i h)) placed placed kept

    -- The row at fault has the same place in its consequent.
    pub same_place : place_of (walk run placed (get_or (reordered (length sheet.consequents) M.old sheet.consequents) i [])) ≡ place_of (walk run placed (get_or sheet.consequents (M.old i) []))
    same_place =
        ap (λ (c : List Row). place_of (walk run placed c)) (reordered-at (length sheet.consequents) M.old sheet.consequents i h)
        ∙ place-renamed run (move from (suc i)) (Named from) (Named from) tells (get_or sheet.consequents (M.old i) []) (consequent_named sheet R (M.old i) (M.old_low i h)) placed placed kept

-- Verdicts

module _ (run : Run) (sheet : Sheet) (R : SheetRead sheet) (M : Rearrangement (length sheet.consequents)) where
  abbrev k : ℕ
  k = length sheet.consequents

  abbrev parts : List (List Row)
  parts = reordered k M.old sheet.consequents

  abbrev stops : List ℕ → List Row → Bool
  stops xs c = stopped (walk run (placed run sheet R xs) c)

  abbrev Stops : List ℕ → List Row → Type 0
  Stops xs c = T (stops xs c)

  all-stop : (xs : List ℕ) → all (stops xs) parts ≡ all (stops xs) sheet.consequents
  all-stop xs = same_test (all (stops xs) parts) (all (stops xs) sheet.consequents) there back
    where
      there : T (all (stops xs) parts) → T (all (stops xs) sheet.consequents)
      there t =
          all-put (stops xs) sheet.consequents (get_or-all (Stops xs) [] sheet.consequents (λ j l.
          subst (λ (x : ℕ). Stops xs (get_or sheet.consequents x [])) (M.old_new j l)
          (T_eq (same_stop run sheet R xs M (M.new j) (M.new_low j l))
          (all_get_d (Stops xs) [] parts (all_get (stops xs) parts t) (M.new j) (omega (arith, M.new_low j l, length-reordered k M.old sheet.consequents))))))

      back : T (all (stops xs) sheet.consequents) → T (all (stops xs) parts)
      back t =
          all-put (stops xs) parts (get_or-all (Stops xs) [] parts (λ i b.
          let l : i < k = omega (arith, length-reordered k M.old sheet.consequents) in
          T_eq (sym (same_stop run sheet R xs M i l)) (all_get_d (Stops xs) [] sheet.consequents (all_get (stops xs) sheet.consequents t) (M.old i) (M.old_low i l))))

  -- The same placements are violating,
  pub same-violating : (xs : List ℕ) → is_violating run (rearranged sheet M.old) xs ≡ is_violating run sheet xs
  unfolding is_violating rearranged
  same-violating xs = ap (λ (b : Bool). matching run sheet.antecedent xs && b) (all-stop xs)

  -- and the smallest of them is the same.
  pub same_check : check run (rearranged sheet M.old) ≡ check run sheet
  unfolding check rearranged
  same_check = least-same run.lines (length (points sheet.antecedent)) (is_violating run (rearranged sheet M.old)) (is_violating run sheet) (λ xs. same-violating xs)
