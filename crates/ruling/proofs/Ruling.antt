-- What the operation says, over bytes.
-- Assumes nothing.
use mathlib.Core.Path.{◌≡◌, sym, ap, ◌∙◌, subst}
use mathlib.Core.Bool.{Bool, true}
use mathlib.Core.List.{List}
use Prim.Native.Nat.{ℕ, ◌≤◌}
use lib.ListN.{length}
use lib.Dec.{T}
use borrow.Author.Tests.{eq-eqb, ne_eqb}
use Rattle.scenario.specs.Rows.{points}
use Rattle.scenario.specs.Sheet.{antiscenario}
use Rattle.scenario.proofs.Base.{is_true}
use Rattle.row.specs.Memory.{rows_of}
use Rattle.sheet.specs.Reading.{sheet_in, count_in}
use Rattle.runlog.specs.Log.{log_of}
use Rattle.antiscenario.specs.Numbers.{text_refusal}
use Rattle.antiscenario.specs.Held.{TextHeld}
use Rattle.search.specs.Searching.{Searched, Matches, SaysNone, search_of}
use Rattle.search.proofs.Searching.{search_says_bytes}
use Rattle.verdict.specs.Check.{Accepted}
use Rattle.verdict.proofs.DemandThree.{low, search_is}
use Rattle.ruling.specs.Ruling.{Ruled}
use Rattle.impossibility.specs.Impossible.{impossible}
use Rattle.ruling.specs.Ruling.{unruled, impossible_of, RulingSays}
use Rattle.impossibility.proofs.Exact.{impossible-is}
use Rattle.impossibility.proofs.Never.{never}

-- A search says "none", whatever its places hold, where there is no matching
pub none_found : (s l : List ℕ) → Accepted s l → (m : ℕ) → 1 ≤ m → m ≤ count_in s → ((zs : List ℕ) → Matches s l m zs → ⊥)
    → (places : List ℕ) → length (points (antiscenario (sheet_in s) m)) ≤ length places → SaysNone (search_of s l m places) places
none_found s l A m a b none places h =
    let z : (search_of s l m places).refusal ≡ 0 = ap (λ (r : Searched). r.refusal) (search_is s l A m a b places h) in
    let t = search_says_bytes s l m places z in
    let n = t.none.1 none in
    record { accepted = z; none = n; kept = t.kept n }

-- An impossible antiscenario has none on an accepted log.
pub no_match : (s l : List ℕ) → Accepted s l → (m : ℕ) → impossible (antiscenario (sheet_in s) m) ≡ true → (zs : List ℕ) → Matches s l m zs → ⊥
no_match s l A m i = never (log_of l) (low s l A) (antiscenario (sheet_in s) m) (subst T (sym i) tt)

-- The answer

module _ (s : List ℕ) (number q : ℕ) (e : q ≡ text_refusal s number) where
  pub not_ruled : (q ≡ 0 → ⊥) → unruled q ≡ impossible_of s number
  unfolding impossible_of
  not_ruled n = rw (sym e) (simp (ne_eqb q 0 n))

  pub ruled : q ≡ 0 → (b : Bool) → b ≡ impossible (antiscenario (sheet_in s) number) → record { refusal = 0; impossible = b } ≡ impossible_of s number
  unfolding impossible_of
  ruled z b f = rw (sym e) (simp (eq-eqb q 0 z) (ap (λ (c : Bool). record { refusal = 0; impossible = c }) f))

-- what it says of the antiscenario in memory
module _ (s : List ℕ) (number : ℕ) (rows : List ℕ) (k n : ℕ) (H : TextHeld s number rows k n) where
  pub of_sheet : (b : Bool) → b ≡ impossible (rows_of rows n) → b ≡ impossible (antiscenario (sheet_in s) number)
  of_sheet b e = e ∙ ap impossible H.rows_held.rows_are

  pub ruling_says : (r : Ruled) → r.impossible ≡ impossible (antiscenario (sheet_in s) number) → RulingSays s number r
  ruling_says r e = record {
    rules = (
      λ i. (impossible-is (antiscenario (sheet_in s) number)).0 (subst T (sym (sym e ∙ i)) tt),
      λ w. e ∙ is_true (impossible (antiscenario (sheet_in s) number)) ((impossible-is (antiscenario (sheet_in s) number)).1 w),
    );
    never = λ i l a. no_match s l (record { sheet = H.accepted; log = a }) number (sym e ∙ i);
    none = λ i l a. let A : Accepted s l = record { sheet = H.accepted; log = a } in none_found s l A number H.low H.high (no_match s l A number (sym e ∙ i));
  }
