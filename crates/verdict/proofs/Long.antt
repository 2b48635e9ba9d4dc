-- Violating placements and verdicts come out unchanged (document 02, A8), over bytes: with the long denials in their place.
-- Assumes nothing.
use mathlib.Core.Path.{refl, sym, ◌∙◌, subst}
use mathlib.Core.Logic.{◌↔◌}
use mathlib.Core.List.{List}
use Prim.Native.Nat.{ℕ, ◌≤◌}
use native.Mathlib.Omega.{arith}
use lib.Dec.{T}
use Rattle.scenario.specs.Sheet.{matching, cut, antiscenario, Violating, no_larger}
use Rattle.scenario.specs.Long.{antiscenario_long, DeniedLong}
use Rattle.scenario.proofs.Long.{count_long}
use Rattle.scenario.proofs.Alike.{same_points}
use Rattle.scenario.proofs.Shorter.{found_where_long}
use Rattle.scenario.proofs.Final.{long-denials}
use Rattle.sheet.specs.Reading.{count_in, sheet_in}
use Rattle.sheet.proofs.Theorems.{accepted-sheet}
use Rattle.runlog.specs.Log.{log_of, run_in}
use Rattle.verdict.specs.Check.{Accepted, placement_in, check_of}
use Rattle.verdict.specs.Demands.{Denied, DemandThree}
use Rattle.verdict.specs.Long.{SameAsLong}
use Rattle.search.specs.Searching.{search_of}
use Rattle.verdict.proofs.DemandThree.{N, low, demand-bytes}

module _ (s l : List ℕ) (A : Accepted s l) where
  abbrev demand : DemandThree s l (check_of s l) (search_of s l)
  demand = demand-bytes s l A

  -- the placements of the long ones are violating, too
  long : (xs : List ℕ) → Violating (run_in l) (sheet_in s) xs ↔ DeniedLong (run_in l) (sheet_in s) xs
  long = long-denials (log_of l) (low s l A) (sheet_in s) (accepted-sheet s A.sheet).read

  placements : (xs : List ℕ) → Denied s l xs ↔ DeniedLong (run_in l) (sheet_in s) xs
  placements xs = (λ d. (long xs).0 ((demand.agree xs).1 d), λ d. (demand.agree xs).0 ((long xs).1 d))

  -- a matching of number m is one over itself, cut
  to-long : (m : ℕ) → 1 ≤ m → m ≤ count_in s → (zs : List ℕ) → T (matching (run_in l) (antiscenario_long (sheet_in s) m) zs) → DeniedLong (run_in l) (sheet_in s) (cut (sheet_in s) zs)
  to-long m a b zs t = record { number = m; low = a; high = omega (arith, N s l A); place = zs; over = record { matches = t; same = refl } }

  to-short : (m : ℕ) → 1 ≤ m → m ≤ count_in s → (zs : List ℕ) → T (matching (run_in l) (antiscenario (sheet_in s) m) zs) → Denied s l (cut (sheet_in s) zs)
  to-short m a b zs t = record { number = m; low = a; high = b; place = zs; over = record { matches = t; same = refl } }

  pub same_as_long : SameAsLong s l (check_of s l)
  same_as_long = record {
    count = N s l A ∙ sym (count_long (sheet_in s));
    points = λ m. sym (same_points (sheet_in s) m);
    found = λ m a b. found_where_long (log_of l) (low s l A) (sheet_in s) (accepted-sheet s A.sheet).read m a (omega (arith, N s l A));
    placements = placements;
    holds = (
      λ e m a b zs t. let d = (placements (cut (sheet_in s) zs)).1 (to-long m a b zs t) in demand.holds.0 e d.number d.low d.high d.place d.over.matches,
      λ f. demand.holds.1 (λ m a b zs t. let d = (placements (cut (sheet_in s) zs)).0 (to-short m a b zs t) in f d.number d.low (omega (arith, N s l A, d.high)) d.place d.over.matches),
    );
    reached = λ e. (long (placement_in (check_of s l))).0 (demand.violating e);
    smallest = λ e m a b zs t. let d = (placements (cut (sheet_in s) zs)).1 (to-long m a b zs t) in
        subst (λ (ys : List ℕ). T (no_larger (placement_in (check_of s l)) ys)) d.over.same (demand.smallest e d.number d.low d.high d.place d.over.matches);
  }
