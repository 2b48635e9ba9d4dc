-- The antecedent in memory: its rows stand first, and the plan for so many is its.
-- Assumes nothing.
use mathlib.Core.Path.{◌≡◌, refl, sym, ◌∙◌, ap, subst}
use mathlib.Core.Logic.{◌⊎◌, inl, inr}
use mathlib.Core.Bool.{Bool, not, cond}
use mathlib.Core.List.{List, [], ◌∷◌, ◌++◌, map, append-nil}
use Prim.Native.Nat.{ℕ, zero, suc, ◌+◌, ◌-◌, ◌≤◌, ◌<◌}
use native.Mathlib.Numerals.{add-one}
use native.Mathlib.Omega.{arith}
use lib.ListN.{length, take, length-map, length-append}
use lib.Seq.{take_at}
use lib.Dec.{T, eqb, eqb→eq}
use borrow.Author.Tests.{eq-eqb, ne_eqb}
use Rattle.scenario.specs.Rows.{Row}
use Rattle.scenario.specs.Sheet.{Sheet, count as count_of, antiscenario, chosen, choices, choose, total, flat}
use Rattle.scenario.specs.Fields.{Tagged, tag, tagged}
use Rattle.scenario.specs.Reading.{SheetRead, Pattern}
use Rattle.scenario.proofs.Base.{tell, is_true, is_false, Order, lower, level, upper, order}
use Rattle.scenario.proofs.Patterns.{antiscenario-pattern}
use Rattle.row.specs.Memory.{section_at, row_at, listed, rows_of, tag_at, tags_of}
use Rattle.sheet.specs.Held.{sheet_at, SheetHeld}
use Rattle.plan.specs.Tables.{count_of_rows, Drawn}
use Rattle.plan.specs.declared.Tables.{Tables}
use Rattle.pair.specs.Antecedent.{leading, AntecedentPlanned}

-- The antecedent's rows stand first.

leading-none : (i : ℕ) (cs : List (List Row)) → leading (tagged (suc i) cs) ≡ 0
unfolding leading tagged
leading-none i [] = refl
leading-none i ([] ∷ cs) = leading-none (suc i) cs
leading-none i ((r ∷ c) ∷ cs) = rw (ne_eqb (suc i) 0 (λ q. omega arith))

leading-front : (rs : List Row) (ts : List Tagged) → leading ts ≡ 0 → leading (map (tag 0) rs ++ ts) ≡ length rs
unfolding leading
leading-front [] ts h = h
leading-front (r ∷ rs) ts h = ap suc (leading-front rs ts h)

rows_of-tags : (rows : List ℕ) (a j left : ℕ) → a ≤ left → listed (row_at rows) j a ≡ map (λ (t : Tagged). t.row) (take a (listed (tag_at rows) j left))
unfolding listed
rows_of-tags rows zero j left h = refl
rows_of-tags rows (suc a) j zero h = absurd (omega arith)
rows_of-tags rows (suc a) j (suc left) h = ap (λ (z : List Row). row_at rows j ∷ z) (rows_of-tags rows a (suc j) left (omega arith))

listed-length : (rows : List ℕ) (j left : ℕ) → length (listed (tag_at rows) j left) ≡ left
unfolding listed
listed-length rows j zero = refl
listed-length rows j (suc left) = ap suc (listed-length rows (suc j) left)

untag : (rs : List Row) → map (λ (t : Tagged). t.row) (map (tag 0) rs) ≡ rs
untag [] = refl
untag (r ∷ rs) = ap (λ (z : List Row). r ∷ z) (untag rs)

-- so many rows at the front are of section 0
leading-own : (rows : List ℕ) (j left i : ℕ) → j ≤ i → i < j + leading (listed (tag_at rows) j left) → section_at rows i ≡ 0
unfolding leading listed
leading-own rows j zero i h l = absurd (omega arith)
leading-own rows j (suc left) i h l = go (order j i) (tell (eqb (section_at rows j) 0)) (λ g m. leading-own rows (suc j) left i g m)
  where
    go : Order j i → T (eqb (section_at rows j) 0) ⊎ T (not (eqb (section_at rows j) 0)) → (suc j ≤ i → i < suc j + leading (listed (tag_at rows) (suc j) left) → section_at rows i ≡ 0) → section_at rows i ≡ 0
    go (lower g) (inl t) f = f g (omega (arith, l, ap (λ (b : Bool). cond b (suc (leading (listed (tag_at rows) (suc j) left))) 0) (is_true (eqb (section_at rows j) 0) t)))
    go (level e) (inl t) f = ap (section_at rows) (sym e) ∙ eqb→eq (section_at rows j) 0 t
    go o (inr t) f = absurd (omega (arith, l, ap (λ (b : Bool). cond b (suc (leading (listed (tag_at rows) (suc j) left))) 0) (is_false (eqb (section_at rows j) 0) t)))
    go (upper g) (inl t) f = absurd (omega arith)

module _ (rows : List ℕ) (count k : ℕ) (S : SheetHeld rows count k) where
  abbrev whole_sheet : Sheet
  whole_sheet = sheet_at rows count k

  pub antecedent-count : leading (tags_of rows count) ≡ length whole_sheet.antecedent
  unfolding tagged
  antecedent-count = ap leading S.tags ∙ leading-front whole_sheet.antecedent (tagged 1 whole_sheet.consequents) (leading-none 0 whole_sheet.consequents)

  pub antecedent-below : length whole_sheet.antecedent ≤ count
  unfolding tagged tags_of
  antecedent-below = omega (arith, listed-length rows 0 count, ap length S.tags, length-append (map (tag 0) whole_sheet.antecedent) (tagged 1 whole_sheet.consequents), length-map whole_sheet.antecedent (tag 0))

  pub antecedent-small : (a : ℕ) → a ≡ length whole_sheet.antecedent → a ≤ 200
  antecedent-small a e = omega (arith, antecedent-below, S.few)

  pub antecedent_rows : rows_of rows (length whole_sheet.antecedent) ≡ whole_sheet.antecedent
  unfolding rows_of tags_of tagged
  antecedent_rows =
      rows_of-tags rows (length whole_sheet.antecedent) 0 count antecedent-below
      ∙ ap (λ (z : List Tagged). map (λ (t : Tagged). t.row) (take (length whole_sheet.antecedent) z)) S.tags
      ∙ ap (map (λ (t : Tagged). t.row)) (take_at (map (tag 0) whole_sheet.antecedent) (tagged 1 whole_sheet.consequents) (length whole_sheet.antecedent) (length-map whole_sheet.antecedent (tag 0)))
      ∙ untag whole_sheet.antecedent

  -- the antecedent alone is a whole-sheet without consequents, and its one antiscenario is it
  alone : Sheet
  alone = record { antecedent = whole_sheet.antecedent; consequents = [] }

  antecedent-pattern : Pattern whole_sheet.antecedent
  unfolding alone antiscenario chosen choices choose total count_of flat
  antecedent-pattern = subst Pattern (append-nil whole_sheet.antecedent) (antiscenario-pattern alone read 1 (omega arith) (omega arith))
    where
      read : SheetRead alone
      read = record { numbers = S.read.numbers; few = S.read.few; uses = S.read.uses; consequents = tt; count = omega arith }

  pub rows-pattern : (a : ℕ) → a ≡ length whole_sheet.antecedent → Pattern (rows_of rows a)
  rows-pattern a e = subst Pattern (sym (ap (rows_of rows) e ∙ antecedent_rows)) antecedent-pattern

  -- the plan for so many rows is the antecedent's
  pub antecedent-planned : (plan : Tables) → count_of_rows plan ≡ length whole_sheet.antecedent → Drawn rows plan → AntecedentPlanned rows count k plan
  unfolding tags_of
  antecedent-planned plan e D = record { antecedent_rows = ap (rows_of rows) e ∙ antecedent_rows; drawn = D; pattern = rows-pattern (count_of_rows plan) e; few = antecedent-small (count_of_rows plan) e; within = omega (arith, e, antecedent-below); own = λ i h. own i (omega (arith, e, antecedent-count)) }
    where
      own : (i : ℕ) → i < leading (tags_of rows count) → section_at rows i ≡ 0
      own i h = leading-own rows 0 count i (omega arith) (omega arith)

-- One row more at the front

module _ (rows : List ℕ) (count j : ℕ) where
  pub lead_end : count ≤ j → leading (listed (tag_at rows) j (count - j)) ≡ 0
  unfolding leading listed
  lead_end h = let e : count - j ≡ 0 = omega arith in rw e

  module _ (h : j < count) (s : ℕ) (es : s ≡ section_at rows j) where
    more : count - j ≡ suc (count - (j + 1))
    more = omega arith

    pub lead_other : (s ≡ 0 → ⊥) → leading (listed (tag_at rows) j (count - j)) ≡ 0
    unfolding leading listed
    lead_other n = rw more (simp (ne_eqb _ _ (λ e. n (es ∙ e))))

    pub lead_on : s ≡ 0 → leading (listed (tag_at rows) j (count - j)) ≡ suc (leading (listed (tag_at rows) (j + 1) (count - (j + 1))))
    unfolding leading listed
    lead_on z = rw more (simp (eq-eqb _ _ (sym es ∙ z), add-one))
