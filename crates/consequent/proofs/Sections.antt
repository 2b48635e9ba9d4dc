-- The sections of a sheet's rows in memory rise; so a consequent is walked from behind the rows of the sections before it.
-- Assumes nothing.
use mathlib.Core.Path.{◌≡◌, sym, ◌∙◌, ap, subst}
use mathlib.Core.List.{List, [], ◌∷◌, ◌++◌, map}
use Prim.Native.Nat.{ℕ, zero, suc, ◌+◌, ◌-◌, ◌≤◌, ◌<◌}
use native.Mathlib.Nat.{sub-zero}
use native.Mathlib.Numerals.{add-one}
use native.Mathlib.Omega.{arith}
use Rattle.scenario.specs.Rows.{Row, Run}
use Rattle.scenario.specs.Fields.{Tagged, tag, tagged}
use Rattle.scenario.proofs.Base.{Order, lower, level, upper, order}
use Rattle.row.specs.Memory.{section_at, listed, tag_at, tags_of}
use Rattle.sheet.specs.Held.{sheet_at, SheetHeld}
use Rattle.consequent.specs.Walk.{fault_in}
use Rattle.consequent.proofs.Advancing.{fault-other}

-- from section b on, none below the one before it
abbrev Rises : ℕ → List Tagged → Type 0
Rises b [] = Unit {0}
Rises b (t ∷ ts) = (b ≤ t.section) × Rises t.section ts

rises_lower : (a b : ℕ) (ts : List Tagged) → a ≤ b → Rises b ts → Rises a ts
rises_lower a b [] h r = tt
rises_lower a b (t ∷ ts) h r = (omega (arith, r.0), r.1)

rises_block : (i : ℕ) (c : List Row) (ts : List Tagged) → Rises i ts → Rises i (map (tag i) c ++ ts)
rises_block i [] ts r = r
rises_block i (k ∷ c) ts r = (omega arith, rises_block i c ts r)

rises_tagged : (i : ℕ) (cs : List (List Row)) → Rises i (tagged i cs)
unfolding tagged
rises_tagged i [] = tt
rises_tagged i (c ∷ cs) = rises_block i c (tagged (suc i) cs) (rises_lower i (suc i) (tagged (suc i) cs) (omega arith) (rises_tagged (suc i) cs))

module _ (rows : List ℕ) where
  at_least : (m left b : ℕ) → Rises b (listed (tag_at rows) m left) → (j : ℕ) → m ≤ j → j < m + left → b ≤ section_at rows j
  unfolding listed
  at_least m zero b r j h l = absurd (omega arith)
  at_least m (suc left) b r j h l = go (order m j) (λ g. at_least (suc m) left (section_at rows m) r.1 j g (omega arith))
    where
      go : Order m j → (suc m ≤ j → section_at rows m ≤ section_at rows j) → b ≤ section_at rows j
      go (lower g) f = omega (arith, r.0, f g)
      go (level e) f = subst (λ (z : ℕ). b ≤ section_at rows z) e r.0
      go (upper g) f = absurd (omega arith)

  ordered : (m left b : ℕ) → Rises b (listed (tag_at rows) m left) → (i j : ℕ) → m ≤ i → i < j → j < m + left → section_at rows i ≤ section_at rows j
  unfolding listed
  ordered m zero b r i j h g l = absurd (omega arith)
  ordered m (suc left) b r i j h g l = go (order m i) (λ e. ordered (suc m) left (section_at rows m) r.1 i j e g (omega arith))
    where
      go : Order m i → (suc m ≤ i → section_at rows i ≤ section_at rows j) → section_at rows i ≤ section_at rows j
      go (lower e) f = f e
      go (level e) f = subst (λ (z : ℕ). section_at rows z ≤ section_at rows j) e (at_least (suc m) left (section_at rows m) r.1 j (omega arith) (omega arith))
      go (upper e) f = absurd (omega arith)

pub sections_rise : (rows : List ℕ) (count k : ℕ) → SheetHeld rows count k → (i j : ℕ) → i < j → j < count → section_at rows i ≤ section_at rows j
unfolding tags_of
sections_rise rows count k S i j h l =
    ordered rows 0 count 0 (subst (Rises 0) (sym S.tags) (rises_tagged 0 ((sheet_at rows count k).antecedent ∷ (sheet_at rows count k).consequents))) i j (omega arith) h (omega arith)

-- Rows of other sections are passed over.
pub passed_over : (run : Run) (rows : List ℕ) (count s : ℕ) (E : List ℕ) (j : ℕ) → j ≤ count → ((i : ℕ) → i < j → section_at rows i ≡ s → ⊥)
    → fault_in run s E j (listed (tag_at rows) j (count - j)) ≡ fault_in run s E 0 (tags_of rows count)
unfolding tags_of
passed_over run rows count s E zero h n = ap (λ (z : ℕ). fault_in run s E 0 (listed (tag_at rows) 0 z)) (sub-zero count)
passed_over run rows count s E (suc j) h n =
    ap (λ (z : ℕ). fault_in run s E z (listed (tag_at rows) z (count - z))) (sym (add-one j))
    ∙ sym (fault-other run rows count s E j (omega arith) (n j (omega arith)))
    ∙ passed_over run rows count s E j (omega arith) (λ i g. n i (omega arith))
