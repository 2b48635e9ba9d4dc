-- A table with the links of a row entered, and with those of all rows.
-- Assumes nothing.
use mathlib.Core.Path.{◌≡◌, refl, sym, ap, ap₂, ◌∙◌, subst}
use mathlib.Core.Bool.{Bool, true, false}
use mathlib.Core.List.{List, [], ◌∷◌, ◌++◌, map}
use Prim.Native.Nat.{ℕ, suc, ◌-◌, ◌≤◌, ◌<◌}
use native.Mathlib.Omega.{arith}
use lib.ListN.{length}
use Rattle.scenario.specs.Links.{Link}
use Rattle.scenario.specs.Rows.{Row, gather}
use Rattle.scenario.specs.Fields.{decode}
use Rattle.scenario.specs.Reading.{All}
use Rattle.row.specs.Memory.{row_at, listed, rows_of}
use Rattle.links.specs.Table.{most_places, told, Tells, entered, leads_on, placed}
use Rattle.links.proofs.Entering.{links_entered, leads_on_append}
use Rattle.contradiction.specs.Table.{places, place, link_if, links_of, upward, downward}
use Rattle.contradiction.proofs.Parts.{linked}
use Rattle.contradiction.proofs.Places.{place-low, is-low, links_low}

-- a link between two places may be entered; entered, and not
module _ (table : List ℕ) (size : length table ≡ places) where
  pub may_enter : (x y x' y' : ℕ) → x' ≡ place x → y' ≡ place y → (length table ≤ most_places) × (x' < length table) × (y' < length table)
  may_enter x y x' y' e f =
      let l = is-low x' x e in
      let m = is-low y' y f in
      (omega arith, omega arith, omega arith)

  pub link-entered : (table' : List ℕ) (from to : ℕ) → Tells (length table) table' (entered table from to) → Tells places table' (leads_on (told table) (link_if true from to))
  unfolding leads_on
  link-entered table' from to t = subst (λ (n : ℕ). Tells n table' (entered table from to)) size t

  pub none_entered : Tells places table (leads_on (told table) [])
  unfolding leads_on
  none_entered = record { size = size; tells = λ x y a b. refl }

-- links between places, of links between points
placed_both : (p q : ℕ) (u d : Bool) → link_if u (place p) (place q) ++ link_if d (place q) (place p) ≡ map (placed place) (link_if u p q ++ link_if d q p)
placed_both p q true true = refl
placed_both p q true false = refl
placed_both p q false true = refl
placed_both p q false false = refl

link_if-low : (wanted : Bool) (x y : ℕ) → x < places → y < places → All (λ (l : Link). (l.from < places) × (l.to < places)) (link_if wanted x y)
link_if-low true x y a b = ((a, b), tt)
link_if-low false x y a b = tt

-- a row's links, the downward one first
pub row-entered : (k p q a b s : ℕ) (joining : Bool) (table table1 table2 : List ℕ) (p' q' : ℕ) (d u : Bool) → p' ≡ place p → q' ≡ place q → d ≡ downward joining k → u ≡ upward joining k
    → Tells places table1 (leads_on (told table) (link_if d q' p')) → Tells places table2 (leads_on (told table1) (link_if u p' q'))
    → Tells places table2 (leads_on (told table) (map (placed place) (links_of joining (decode k p q a b s))))
row-entered k p q a b s joining table table1 table2 p' q' d u ep eq ed eu t1 t2 =
    subst (λ (ls : List Link). Tells places table2 (leads_on (told table) ls)) same
    (subst (Tells places table2) (leads_on_append (told table) (link_if u p' q') (link_if d q' p'))
    (links_entered places (leads_on (told table) (link_if d q' p')) table1 table2 (link_if u p' q') (link_if-low u p' q' (low p' p ep) (low q' q eq)) t1 t2))
  where
    low : (x y : ℕ) → x ≡ place y → x < places
    low x y e = subst (λ (z : ℕ). z < places) (sym e) (place-low y)

    same : link_if u p' q' ++ link_if d q' p' ≡ map (placed place) (links_of joining (decode k p q a b s))
    same =
        ap₂ (λ (x y : ℕ). link_if u x y ++ link_if d y x) ep eq ∙ placed_both p q u d
        ∙ ap₂ (λ (x y : Bool). map (placed place) (link_if x p q ++ link_if y q p)) eu ed
        ∙ ap (map (placed place)) (sym (linked p q a b s joining k))

-- Rows in memory, from number i on, and with the one before them

pub none-listed : (f : ℕ → Row) (n : ℕ) → listed f n (n - n) ≡ []
unfolding listed
none-listed f n = let e : n - n ≡ 0 = omega arith in rw e

pub one_more : (f : ℕ → Row) (i n : ℕ) → 0 < i → i ≤ n → listed f (i - 1) (n - (i - 1)) ≡ f (i - 1) ∷ listed f i (n - i)
unfolding listed
one_more f i n l h = let k : n - (i - 1) ≡ suc (n - i) = omega arith in let j : suc (i - 1) ≡ i = omega arith in rw k (rw j refl)

pub all_listed : (f : ℕ → Row) (i n : ℕ) → i ≤ 0 → listed f i (n - i) ≡ listed f 0 n
all_listed f i n h = let e : i ≡ 0 = omega arith in let w : n - 0 ≡ n = omega arith in ap (λ (j : ℕ). listed f j (n - j)) e ∙ ap (listed f 0) w

pub map_both : (f : Link → Link) (ks ls : List Link) → map f (ks ++ ls) ≡ map f ks ++ map f ls
map_both f [] ls = refl
map_both f (k ∷ ks) ls = ap (λ (z : List Link). f k ∷ z) (map_both f ks ls)

module _ (rows : List ℕ) (joining : Bool) where
  abbrev pub links_from : (i n : ℕ) → List Link
  links_from i n = map (placed place) (gather (links_of joining) (listed (row_at rows) i (n - i)))

  module _ (table₀ : List ℕ) where
    pub none-entered : (n : ℕ) → length table₀ ≡ places → Tells places table₀ (leads_on (told table₀) (links_from n n))
    unfolding leads_on gather
    none-entered n size = rw (none-listed (row_at rows) n) (record { size = size; tells = λ x y a b. refl })

    pub more-entered : (table table' : List ℕ) (i n : ℕ) → 0 < i → i ≤ n → (row : Row) → row ≡ row_at rows (i - 1)
        → Tells places table (leads_on (told table₀) (links_from i n)) → Tells places table' (leads_on (told table) (map (placed place) (links_of joining row)))
        → Tells places table' (leads_on (told table₀) (links_from (i - 1) n))
    unfolding gather
    more-entered table table' i n l h row e t u =
        subst (λ (ls : List Link). Tells places table' (leads_on (told table₀) ls)) same
        (subst (Tells places table') (leads_on_append (told table₀) (map (placed place) (links_of joining row)) (links_from i n))
        (links_entered places (leads_on (told table₀) (links_from i n)) table table' (map (placed place) (links_of joining row)) (links_low (links_of joining row)) t u))
      where
        same : map (placed place) (links_of joining row) ++ links_from i n ≡ links_from (i - 1) n
        same =
            sym (map_both (placed place) (links_of joining row) (gather (links_of joining) (listed (row_at rows) i (n - i))))
            ∙ ap (λ (k : Row). map (placed place) (links_of joining k ++ gather (links_of joining) (listed (row_at rows) i (n - i)))) e
            ∙ sym (ap (λ (ks : List Row). map (placed place) (gather (links_of joining) ks)) (one_more (row_at rows) i n l h))

    pub all-entered : (table : List ℕ) (i n : ℕ) → i ≤ 0 → Tells places table (leads_on (told table₀) (links_from i n))
        → Tells places table (leads_on (told table₀) (map (placed place) (gather (links_of joining) (rows_of rows n))))
    unfolding rows_of
    all-entered table i n h = subst (λ (ks : List Row). Tells places table (leads_on (told table₀) (map (placed place) (gather (links_of joining) ks)))) (all_listed (row_at rows) i n h)
