-- What a row tells by a table, by its kind.
-- Assumes nothing.
use mathlib.Core.Path.{◌≡◌, refl, sym, ap, ap₂, ◌∙◌}
use mathlib.Core.Bool.{Bool, true, false, not, ◌||◌, cond}
use mathlib.Core.List.{List, [], ◌∷◌, ◌++◌}
use Prim.Native.Nat.{ℕ, ◌≤◌}
use native.Mathlib.Omega.{arith}
use lib.Dec.{eqb}
use borrow.Author.Tests.{eq-eqb, ne_eqb}
use Rattle.scenario.specs.Links.{Link, link}
use Rattle.scenario.specs.Rows.{Row, event_count, full_set, set_of, below}
use Rattle.scenario.specs.Fields.{decode}
use Rattle.row.specs.declared.Line.{Line}
use Rattle.row.specs.Row.{row_in}
use Rattle.row.specs.Memory.{line_in, kind_at, row_at}
use Rattle.impossibility.specs.Impossible.{SetFor, set_for, sets, any}
use Rattle.contradiction.specs.Table.{link_if, upward, downward, asking, leads_in, shared_in, Common, torn, circling}
use Rattle.contradiction.proofs.Parts.{linked, asked, has_apart, apart_asks_none, one_way}
use Rattle.contradiction.proofs.Events.{no_event-shared}

or_none : (b : Bool) → b || false ≡ b
or_none true = refl
or_none false = refl

module _ (table : List ℕ) (k p q a b s : ℕ) where
  -- "lower than"
  by_links : circling table (decode k p q a b s) ≡ any (λ l. leads_in table l.to l.from) (link_if (upward false k) p q ++ link_if (downward false k) q p)
  unfolding circling
  by_links = ap (any (λ (l : Link). leads_in table l.to l.from)) (linked p q a b s false k)

  by-ways : (u d : Bool) → upward false k ≡ u → downward false k ≡ d → circling table (decode k p q a b s) ≡ any (λ l. leads_in table l.to l.from) (link_if u p q ++ link_if d q p)
  by-ways u d e f = by_links ∙ ap₂ (λ (x y : Bool). any (λ (l : Link). leads_in table l.to l.from) (link_if x p q ++ link_if y q p)) e f

  pub circles_up : upward false k ≡ true → leads_in table q p ≡ circling table (decode k p q a b s)
  unfolding any
  circles_up e = sym (by-ways true false e (one_way k e) ∙ or_none (leads_in table q p))

  pub circles_down : upward false k ≡ false → downward false k ≡ true → leads_in table p q ≡ circling table (decode k p q a b s)
  unfolding any
  circles_down e f = sym (by-ways false true e f ∙ or_none (leads_in table p q))

  pub circles_not : upward false k ≡ false → downward false k ≡ false → false ≡ circling table (decode k p q a b s)
  unfolding any
  circles_not e f = sym (by-ways false false e f)

  -- joined points
  module _ (rows : List Row) (low : 1 ≤ k) (high : k ≤ 12) where
    by_parts : (x y : Bool) → eqb k 7 ≡ x → asking k ≡ y → torn table rows (decode k p q a b s)
        ≡ (any (λ l. leads_in table l.from l.to) (cond x (link p q ∷ []) []) || any (λ h. not (below (shared_in table (sets rows) h.at) event_count)) (cond y (set_for p s ∷ []) []))
    unfolding torn
    by_parts x y e f =
        ap₂ (λ (ls : List Link) (hs : List SetFor). any (λ (l : Link). leads_in table l.from l.to) ls || any (λ (h : SetFor). not (below (shared_in table (sets rows) h.at) event_count)) hs)
        (has_apart p q a b s k low high ∙ ap (λ (c : Bool). cond c (link p q ∷ []) []) e)
        (asked p q a b s k ∙ ap (λ (c : Bool). cond c (set_for p s ∷ []) []) f)

    torn_apart : k ≡ 7 → leads_in table p q ≡ torn table rows (decode k p q a b s)
    unfolding any
    torn_apart e = sym (by_parts true false (eq-eqb k 7 e) (apart_asks_none k e) ∙ or_none (leads_in table p q || false) ∙ or_none (leads_in table p q))

    torn-sets : (k ≡ 7 → ⊥) → asking k ≡ true → (set : ℕ) → set ≤ full_set → Common table (sets rows) p set → eqb set 0 ≡ torn table rows (decode k p q a b s)
    unfolding any
    torn-sets n e set h c =
        sym (by_parts false true (ne_eqb k 7 n) e ∙ or_none (not (below (shared_in table (sets rows) p) event_count)) ∙ no_event-shared table (sets rows) p set h c)

    torn-not : (k ≡ 7 → ⊥) → asking k ≡ false → false ≡ torn table rows (decode k p q a b s)
    unfolding any
    torn-not n e = sym (by_parts false false (ne_eqb k 7 n) e)

-- A row in memory
module _ (memory : List ℕ) (j : ℕ) (line : Line) (e : line ≡ line_in memory j) (known : (1 ≤ kind_at memory j) × (kind_at memory j ≤ 12)) where
  pub row_is : decode line.kind line.p line.q line.a line.b (set_of line.a line.b) ≡ row_at memory j
  unfolding row_at row_in
  row_is = ap row_in e

  kind-is : line.kind ≡ kind_at memory j
  unfolding line_in
  kind-is = ap (λ (l : Line). l.kind) e

  module _ (table : List ℕ) (rows : List Row) where
    abbrev Says : Bool → Type 0
    Says r = r ≡ torn table rows (row_at memory j)

    said : (r : Bool) → r ≡ torn table rows (decode line.kind line.p line.q line.a line.b (set_of line.a line.b)) → Says r
    said r f = f ∙ ap (torn table rows) row_is

    low : 1 ≤ line.kind
    low = omega (arith, kind-is, known.0)

    high : line.kind ≤ 12
    high = omega (arith, kind-is, known.1)

    pub line_apart : (r : Bool) → r ≡ leads_in table line.p line.q → line.kind ≡ 7 → Says r
    line_apart r f k = said r (f ∙ torn_apart table line.kind line.p line.q line.a line.b (set_of line.a line.b) rows low high k)

    pub line_sets : (line.kind ≡ 7 → ⊥) → asking line.kind ≡ true → (set : ℕ) → set ≤ full_set → Common table (sets rows) line.p set → Says (eqb set 0)
    line_sets n a set h c = said (eqb set 0) (torn-sets table line.kind line.p line.q line.a line.b (set_of line.a line.b) rows low high n a set h c)

    pub line-neither : (line.kind ≡ 7 → ⊥) → asking line.kind ≡ false → Says false
    line-neither n a = said false (torn-not table line.kind line.p line.q line.a line.b (set_of line.a line.b) rows low high n a)
