-- With the long denials of a missing point in their place (document 02, A8): N and each consequent's share of it stay, and so do the violating placements.
-- Assumes nothing.
use mathlib.Core.Path.{◌≡◌, refl, sym, ap₂, subst}
use mathlib.Core.Logic.{◌↔◌}
use mathlib.Core.List.{List, [], ◌∷◌, map}
use Prim.Native.Nat.{ℕ, ◌≤◌}
use lib.ListN.{length}
use Rattle.scenario.specs.Rows.{Row, Run, far_end}
use Rattle.scenario.specs.Sheet.{Sheet, Violating, choices, total, count}
use Rattle.scenario.specs.Long.{long_end, antiscenario_long, DeniedLong}
use Rattle.scenario.proofs.Rules.{Laws}
use Rattle.scenario.proofs.Far.{FarEnds, long-ends}
use Rattle.scenario.proofs.Alike.{Alike, alike_length, choices_alike, total_alike}
use Rattle.scenario.proofs.Agreement.{Base, is-start, is-close, Sound, to_number, from-number}

-- A row has as many denials, whatever its far end is, and so have a consequent and a sheet.
module _ (sheet : Sheet) where
  as_many : Alike (Alike (Alike (λ (x y : Row). Unit {0}))) (choices long_end 1 sheet.consequents) (choices (far_end sheet.antecedent) 1 sheet.consequents)
  as_many = choices_alike (λ (x y : Row). Unit {0}) (λ row. tt) sheet.antecedent (λ c p q s. tt) (λ c p q s. tt) 1 sheet.consequents

  -- each consequent has its share of N, so that a number makes the same choices
  pub same_shares : map length (choices long_end 1 sheet.consequents) ≡ map length (choices (far_end sheet.antecedent) 1 sheet.consequents)
  same_shares = shares (choices long_end 1 sheet.consequents) (choices (far_end sheet.antecedent) 1 sheet.consequents) as_many
    where
      shares : (ls ms : List (List (List Row))) → Alike (Alike (Alike (λ (x y : Row). Unit {0}))) ls ms → map length ls ≡ map length ms
      shares [] [] a = refl
      shares [] (m ∷ ms) a = absurd a
      shares (l ∷ ls) [] a = absurd a
      shares (l ∷ ls) (m ∷ ms) a = ap₂ (λ (n : ℕ) (ns : List ℕ). n ∷ ns) (alike_length (Alike (λ (x y : Row). Unit {0})) l m a.0) (shares ls ms a.1)

  pub count_long : total (choices long_end 1 sheet.consequents) ≡ count sheet
  unfolding count
  count_long =
      total_alike (λ (x y : Row). Unit {0}) (λ row. tt) sheet.antecedent (λ c p q s. tt) (λ c p q s. tt) (choices long_end 1 sheet.consequents)
      (choices (far_end sheet.antecedent) 1 sheet.consequents) as_many

-- "Violating placements and verdicts come out unchanged": with the long denials the matchings, cut down, are the violating placements too, and so the same set.
module _ (run : Run) (L : Laws run) (sheet : Sheet) (S : Sound sheet) (xs : List ℕ) where
  long : FarEnds (Base sheet) sheet.antecedent long_end
  long = long-ends (Base sheet) (is-start refl) (is-close refl) sheet.antecedent

  pub agreement_long : Violating run sheet xs ↔ DeniedLong run sheet xs
  unfolding antiscenario_long
  agreement_long = (
    λ N. let D = to_number run L sheet S xs long_end long N in
        record { number = D.0; low = D.1; high = subst (λ (n : ℕ). D.0 ≤ n) (count_long sheet) D.2; place = D.3; over = D.4 },
    λ D. from-number run L sheet S xs long_end long D.number D.low (subst (λ (n : ℕ). D.number ≤ n) (sym (count_long sheet)) D.high) D.place D.over,
  )
