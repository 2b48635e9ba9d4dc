-- Demand 3 over the numbers that are not impossible. Carried by demand 3 itself, and by an impossible antiscenario having no matching.
-- Assumes nothing.
use mathlib.Core.Path.{◌≡◌, refl, sym, ap, ◌∙◌, subst}
use mathlib.Core.Logic.{◌↔◌}
use mathlib.Core.Bool.{Bool, true, false}
use mathlib.Core.List.{List}
use Prim.Native.Nat.{ℕ, ◌≤◌}
use native.Mathlib.Omega.{arith}
use lib.ListN.{length, replicate, length-replicate}
use borrow.Author.Tests.{eq-eqb, le-leb}
use Rattle.scenario.specs.Rows.{points}
use Rattle.scenario.specs.Sheet.{cut, antiscenario, Violating}
use Rattle.sheet.specs.Reading.{answer, sheet_in, count_in}
use Rattle.runlog.specs.Log.{run_in}
use Rattle.antiscenario.specs.Numbers.{text_refusal}
use Rattle.search.specs.Searching.{Searched, Matches, SaysNone, searched, search_of}
use Rattle.search.proofs.Searching.{search_says_bytes}
use Rattle.verdict.specs.Check.{Accepted, check_of, placement_in}
use Rattle.verdict.specs.Demands.{Unmatched, Enough, Finds, DemandThree}
use Rattle.verdict.proofs.DemandThree.{F, search_is, cut-filled, matches, hits}
use Rattle.verdict.proofs.Demands.{demand-three}
use Rattle.ruling.specs.Ruling.{Ruled}
use Rattle.impossibility.specs.Impossible.{impossible}
use Rattle.ruling.specs.Ruling.{impossible_of}
use Rattle.ruling.specs.Demands.{Possible, DeniedPossibly, UnmatchedPossibly, EnoughPossibly, DemandThreePossibly}
use Rattle.ruling.proofs.Ruling.{ruled, none_found, no_match}

module _ (s l : List ℕ) (A : Accepted s l) where
  D : DemandThree s l (check_of s l) (search_of s l)
  D = demand-three s l A

  -- a number in 1 to N is not refused
  number-taken : (m : ℕ) → 1 ≤ m → m ≤ count_in s → text_refusal s m ≡ 0
  unfolding text_refusal
  number-taken m a b = simp (eq-eqb (answer s).refusal 0 A.sheet, le-leb 1 m a, le-leb m (count_in s) b)

  -- a number with a matching is possible
  possible : (m : ℕ) → 1 ≤ m → m ≤ count_in s → (zs : List ℕ) → Matches s l m zs → Possible s m
  possible m a b zs t = record { low = a; high = b; possible = go (impossible (antiscenario (sheet_in s) m)) refl }
    where
      go : (c : Bool) → impossible (antiscenario (sheet_in s) m) ≡ c → (impossible_of s m).impossible ≡ false
      go true e = absurd (no_match s l A m e zs t)
      go false e = sym (ap (λ (r : Ruled). r.impossible) (ruled s m 0 (sym (number-taken m a b)) refl false (sym e)))

  agreed : (xs : List ℕ) → Violating (run_in l) (sheet_in s) xs ↔ DeniedPossibly s l xs
  agreed xs = (
    λ v. let d = (D.agree xs).0 v in record { number = d.number; possible = possible d.number d.low d.high d.place d.over.matches; place = d.place; over = d.over },
    λ d. (D.agree xs).1 (record { number = d.number; low = d.possible.low; high = d.possible.high; place = d.place; over = d.over }),
  )

  to-all : UnmatchedPossibly s l → Unmatched s l
  to-all u m a b zs t = u m (possible m a b zs t) zs t

  to-possible : Unmatched s l → UnmatchedPossibly s l
  to-possible u m p = u m p.low p.high

  none_is : (lent : ℕ → List ℕ) → EnoughPossibly s lent → UnmatchedPossibly s l ↔ ((m : ℕ) → Possible s m → SaysNone (search_of s l m (lent m)) (lent m))
  none_is lent E = (
    λ u m p. none_found s l A m p.low p.high (u m p) (lent m) (E m p),
    λ n m p. let q = n m p in (search_says_bytes s l m (lent m) q.accepted).none.0 q.none,
  )

  -- as many places as an antiscenario has points
  exactly : ℕ → List ℕ
  exactly m = replicate (length (points (antiscenario (sheet_in s) m))) 0

  exactly_enough : Enough s exactly
  unfolding exactly
  exactly_enough m a b = omega (arith, length-replicate {A = ℕ} (length (points (antiscenario (sheet_in s) m))) 0)

  -- what is found with some places is found with others
  reached : (check_of s l).violated ≡ true → (lent : ℕ → List ℕ) → EnoughPossibly s lent → (m : ℕ) × Possible s m × Finds s (placement_in (check_of s l)) (search_of s l m (lent m))
  reached v lent E =
      let r = D.reached v exactly exactly_enough in
      let e = search_is s l A r.0 r.1 r.2 (exactly r.0) (exactly_enough r.0 r.1 r.2) in
      let h = hits s l A (exactly r.0) (F s l A r.0) (ap (λ (q : Searched). q.hit) (sym e) ∙ r.3.hit) in
      let t = matches s l A r.0 h.0 h.1 in
      let p = possible r.0 r.1 r.2 h.0 t in
      let f = search_is s l A r.0 r.1 r.2 (lent r.0) (E r.0 p) ∙ ap (searched (lent r.0)) h.1 in
      let same = cut-filled s l A r.0 h.0 (lent r.0) t ∙ sym (cut-filled s l A r.0 h.0 (exactly r.0) t) in
      let here = ap (λ (q : Searched). cut (sheet_in s) q.places) (e ∙ ap (searched (exactly r.0)) h.1) in
      (r.0, p, subst (Finds s (placement_in (check_of s l))) (sym f) (record { accepted = refl; hit = refl; cut = same ∙ sym here ∙ r.3.cut }))

  -- "The others keep their numbers, and demand 3 must still hold over those numbers alone."
  pub demand_three_possibly : DemandThreePossibly s l (check_of s l) (search_of s l)
  demand_three_possibly = record {
    answers = D.answers;
    agree = agreed;
    keeps = D.keeps;
    holds = (λ e. to-possible (D.holds.0 e), λ u. D.holds.1 (to-all u));
    none = none_is;
    violating = D.violating;
    reached = reached;
    lowest = λ v m p. D.lowest v m p.low p.high;
    smallest = λ v m p. D.smallest v m p.low p.high;
    faults = D.faults;
  }
