-- Where an antiscenario with long denials of missing points matches, the one with short denials of the same number does, at the same place (document 02, A8).
-- Assumes nothing.
use mathlib.Core.Path.{sym, ◌∙◌, ap, subst}
use mathlib.Core.List.{List, [], ◌∷◌}
use Prim.Native.Nat.{ℕ, ◌-◌, ◌≤◌}
use native.Mathlib.Omega.{arith}
use lib.ListN.{length}
use lib.Dec.{T}
use Rattle.scenario.specs.Rows.{Row, next, last, free, Run, Env, clear, meets, points, ends_next, ends_last, far_end}
use Rattle.scenario.specs.Sheet.{Sheet, env, matching, flat, choices, choose, count, chosen, antiscenario}
use Rattle.scenario.specs.Long.{long_end, antiscenario_long}
use Rattle.scenario.specs.Log.{Log, run_of}
use Rattle.scenario.specs.Reading.{All, Ordinary, LogRead, SheetRead}
use Rattle.scenario.proofs.Base.{all_map, all-front}
use Rattle.scenario.proofs.Rules.{Laws, Fixed, Met, between_up, between-ascending, clear_get, clear-put}
use Rattle.scenario.proofs.Far.{first_or-has, antecedent-on, after-q, before-q}
use Rattle.scenario.proofs.Place.{env-fixed, Match, match_get, match_put, match_met}
use Rattle.scenario.proofs.Logs.{laws}
use Rattle.scenario.proofs.Patterns.{antiscenario-pattern}
use Rattle.scenario.proofs.Alike.{Alike, antiscenario_alike, same_points}

-- Where the antecedent is met, what is clear up to the close is clear up to z, and what is clear from the start is clear from z.
module _ (run : Run) (L : Laws run) (e : Env) (F : Fixed run e) (antecedent : List Row) (o : All (Met run e) antecedent) where
  abbrev Implies : Row → Row → Type 0
  Implies x y = T (meets run e x) → T (meets run e y)

  next_shorter : (c : List Row) (p q s : ℕ) → Implies (free q 99 s) (free q (far_end antecedent c (next p q s)) s)
  unfolding far_end meets
  next_shorter c p q s =
      first_or-has (λ z. T (clear run s (e q) (e 99)) → T (clear run s (e q) (e z))) 99 (ends_next antecedent c p q) (λ t. t) (points antecedent)
      (λ z i t u. clear-put run s (e q) (e z) (λ x b h.
      let d = between-ascending (e q) (e z) x (omega (arith, after-q run e F antecedent o c p q z i t)) b in
      clear_get run s (e q) (e 99) L u x (between_up d.0 (omega (arith, d.1, F.close, antecedent-on run e F antecedent o z i))) h))

  last_shorter : (c : List Row) (p q s : ℕ) → Implies (free 0 q s) (free (far_end antecedent c (last p q s)) q s)
  unfolding far_end meets
  last_shorter c p q s =
      first_or-has (λ z. T (clear run s (e 0) (e q)) → T (clear run s (e z) (e q))) 0 (ends_last antecedent c p q) (λ t. t) (points antecedent)
      (λ z i t u. clear-put run s (e z) (e q) (λ x b h.
      let d = between-ascending (e z) (e q) x (omega (arith, before-q run e F antecedent o c p q z i t)) b in
      clear_get run s (e 0) (e q) L u x (between_up (omega (arith, d.0, F.start)) d.1) h))

  rows-met : (rows rows' : List Row) → Alike Implies rows rows' → All (λ (k : Row). T (meets run e k)) rows → All (λ (k : Row). T (meets run e k)) rows'
  rows-met [] [] a h = tt
  rows-met [] (y ∷ ys) a h = absurd a
  rows-met (x ∷ xs) [] a h = absurd a
  rows-met (x ∷ xs) (y ∷ ys) a h = (a.0 h.0, rows-met xs ys a.1 h.1)

-- THE THEOREM, of every sheet and log that are read.
pub found_where_long : (g : Log) → LogRead g → (sheet : Sheet) → SheetRead sheet → (m : ℕ) → 1 ≤ m → m ≤ count sheet → (zs : List ℕ)
    → T (matching (run_of g) (antiscenario_long sheet m) zs) → T (matching (run_of g) (antiscenario sheet m) zs)
unfolding antiscenario_long antiscenario chosen
found_where_long g h sheet R m low high zs t = match_put run (antiscenario sheet m) zs (record {
  size = M.size ∙ ap length (same_points sheet m);
  lines = M.lines;
  rows = subst (λ (ps : List ℕ). All (λ (k : Row). T (meets run (env run ps zs) k)) (antiscenario sheet m)) (same_points sheet m)
      (rows-met run (laws g h) e F sheet.antecedent o (antiscenario_long sheet m) (antiscenario sheet m)
      (antiscenario_alike (Implies run (laws g h) e F sheet.antecedent o) (λ row t. t) sheet.antecedent
      (next_shorter run (laws g h) e F sheet.antecedent o) (last_shorter run (laws g h) e F sheet.antecedent o) sheet.consequents (m - 1)) M.rows);
})
  where
    run : Run
    run = run_of g

    M : Match run (antiscenario_long sheet m) zs
    M = match_get run (antiscenario_long sheet m) zs t

    e : Env
    e = env run (points (antiscenario_long sheet m)) zs

    F : Fixed run e
    F = env-fixed run (points (antiscenario_long sheet m)) zs

    ordinary : All Ordinary (points (antiscenario_long sheet m))
    ordinary = subst (All Ordinary) (sym (same_points sheet m)) (all_map (λ p q. q.0) (points (antiscenario sheet m)) (antiscenario-pattern sheet R m low high).plain)

    o : All (Met run e) sheet.antecedent
    o = all-front (Met run e) sheet.antecedent (flat (choose [] (choices long_end 1 sheet.consequents) (m - 1))) (match_met run (antiscenario_long sheet m) zs ordinary M)
