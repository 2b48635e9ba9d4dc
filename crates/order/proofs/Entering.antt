-- A table with one more link entered, and with those of a section.
-- Assumes nothing.
use mathlib.Core.Path.{◌≡◌, refl, sym, ap, ap₂, ◌∙◌, subst}
use mathlib.Core.Bool.{Bool, true, false, cond, ◌&&◌}
use mathlib.Core.List.{List, ◌∷◌}
use Prim.Native.Nat.{ℕ, suc, ◌+◌, ◌-◌, ◌%◌, ◌≤◌, ◌<◌}
use native.Mathlib.Omega.{arith}
use lib.ListN.{length, get_or}
use lib.Dec.{ltb, eqb}
use borrow.Author.Tests.{ltb-true, eq-eqb, ne_eqb}
use Rattle.scenario.specs.Links.{Link, leads}
use Rattle.row.specs.declared.Line.{Line}
use Rattle.row.specs.Memory.{line_in}
use Rattle.links.specs.Table.{most_places, Tells, entered}
use Rattle.links.proofs.Entering.{link-entered}
use Rattle.order.specs.Leading.{places, place, link_of, links_in, Led}

pub place-low : (p : ℕ) → place p < places
unfolding place
place-low p = go (ltb p 10) refl
  where
    go : (b : Bool) → ltb p 10 ≡ b → cond b p (10 + p % 10) < places
    go true e = omega (arith, ltb-true p 10 e)
    go false e = omega arith

pub is-low : (r p : ℕ) → r ≡ place p → r < places
is-low r p e = subst (λ (x : ℕ). x < places) (sym e) (place-low p)

pub link-low : (upward : Bool) (line : Line) → ((link_of upward line).from < places) × ((link_of upward line).to < places)
link-low true line = (place-low line.p, place-low line.q)
link-low false line = (place-low line.q, place-low line.p)

-- a link between places fits a table of them
pub link_fits : (table : List ℕ) → length table ≡ places → (r p t q : ℕ) → r ≡ place p → t ≡ place q → (length table ≤ most_places) × (r < length table) × (t < length table)
link_fits table n r p t q e f = (omega arith, omega (arith, is-low r p e), omega (arith, is-low t q f))

pub sized : (table table' : List ℕ) (R : ℕ → ℕ → Bool) → length table ≡ places → Tells (length table) table' R → Tells places table' R
sized table table' R n t = subst (λ (k : ℕ). Tells k table' R) n t

-- the link of a row, by its places
module _ (line : Line) (table table' : List ℕ) (f t : ℕ) where
  pub upward-link : (upward : Bool) → upward ≡ true → f ≡ place line.p → t ≡ place line.q → Tells places table' (entered table f t)
      → Tells places table' (entered table (link_of upward line).from (link_of upward line).to)
  upward-link upward e a b T = rw (e, sym a, sym b) T

  pub downward-link : (upward : Bool) → upward ≡ false → f ≡ place line.q → t ≡ place line.p → Tells places table' (entered table f t)
      → Tells places table' (entered table (link_of upward line).from (link_of upward line).to)
  downward-link upward e a b T = rw (e, sym a, sym b) T

pub none-entered : (table m : List ℕ) (s : ℕ) (upward : Bool) (n : ℕ) → Tells places table eqb → Tells places table (leads (links_in m s upward n (n - n)))
unfolding leads links_in
none-entered table m s upward n t = let e : n - n ≡ 0 = omega arith in rw e (record { size = t.size; tells = t.tells })

-- the links of a section from row i on, and with those of the row before it
module _ (m : List ℕ) (s : ℕ) (upward : Bool) (i n : ℕ) (l : 0 < i) (h : i ≤ n) where
  abbrev row : Line
  row = line_in m (i - 1)

  abbrev after : List Link
  after = links_in m s upward i (n - i)

  abbrev here : List Link
  here = links_in m s upward (i - 1) (n - (i - 1))

  here-is : here ≡ cond (eqb row.section s && eqb row.kind 6) (link_of upward row ∷ after) after
  unfolding links_in
  here-is =
      let k : n - (i - 1) ≡ suc (n - i) = omega arith in
      let j : suc (i - 1) ≡ i = omega arith in
      rw k (rw j refl)

  pub other-section : (row.section ≡ s → ⊥) → here ≡ after
  other-section d = here-is ∙ simp (ne_eqb row.section s d)

  pub other-kind : row.section ≡ s → (row.kind ≡ 6 → ⊥) → here ≡ after
  other-kind d e = here-is ∙ simp (eq-eqb row.section s d, ne_eqb row.kind 6 e)

  row-taken : row.section ≡ s → row.kind ≡ 6 → here ≡ link_of upward row ∷ after
  row-taken d e = here-is ∙ simp (eq-eqb row.section s d, eq-eqb row.kind 6 e)

  pub row-entered : row.section ≡ s → row.kind ≡ 6 → (line : Line) → line ≡ row → (table table' : List ℕ) → Tells places table (leads after)
      → Tells places table' (entered table (link_of upward line).from (link_of upward line).to) → Tells places table' (leads here)
  unfolding leads
  row-entered d e line q table table' t u =
      let k = link_of upward row in
      let low = link-low upward row in
      rw (row-taken d e)
      (link-entered places (leads after) table table' k.from k.to low.0 low.1 t
      (subst (λ (z : Line). Tells places table' (entered table (link_of upward z).from (link_of upward z).to)) q u))

-- with all rows entered
pub all-entered : (m : List ℕ) (s : ℕ) (upward : Bool) (i n : ℕ) (table : List ℕ) → i ≤ 0 → Tells places table (leads (links_in m s upward i (n - i)))
    → (p x : ℕ) → x ≡ place p → Led (get_or table x 0) (links_in m s upward 0 n) (place p)
all-entered m s upward i n table h t p x e y k =
    let z : i ≡ 0 = omega arith in
    let w : n - 0 ≡ n = omega arith in
    t.tells x y (is-low x p e) k ∙ ap₂ (λ (j r : ℕ). leads (links_in m s upward j (n - j)) r y) z e ∙ ap (λ (j : ℕ). leads (links_in m s upward 0 j) (place p) y) w
