-- How far into the antecedent's points a section reaches: row by row; and that its rows use none behind.
-- Assumes nothing.
use mathlib.Core.Path.{◌≡◌, sym, ◌∙◌, ap, subst}
use mathlib.Core.Logic.{⊎_elim}
use mathlib.Core.List.{List, [], ◌∷◌, map}
use Prim.Native.Nat.{ℕ, zero, suc, ◌+◌, ◌≤◌, ◌<◌, max}
use native.Mathlib.Omega.{arith}
use lib.ListN.{length, get_or, set, take, drop}
use lib.Seq.{get_or-set_same, get_or-set_other}
use lib.Dec.{T, eqb, eqb→eq}
use Rattle.scenario.specs.Rows.{Row, introduced, needs, elem}
use Rattle.scenario.specs.Fields.{Tagged, tag, tagged}
use Rattle.scenario.specs.Reading.{All, Ordinary, Distinct}
use Rattle.scenario.proofs.Base.{either, right, neqb→neq, tell, Order, lower, level, upper, order, all_map, all_append, all-at, all-elem, elem_at, elem_back}
use Rattle.row.specs.Memory.{section_at, row_at, listed, tag_at, tags_of}
use Rattle.row.proofs.Memory.{listed_mem}
use Rattle.sheet.specs.Held.{sheet_at, SheetHeld}
use Rattle.turn.specs.Due.{place, due}
use Rattle.turn.proofs.Places.{elem_wider, place_in, due-most, due-place}
use Rattle.verdict.specs.Memory.{Reaches}

-- One row more
module _ (rows ps R : List ℕ) (size : length R ≡ 7) (most : (s : ℕ) → get_or R s 0 ≤ length ps) (j : ℕ) (used : (i : ℕ) → i < j → due ps (row_at rows i) ≤ get_or R (section_at rows i) 0)
    (s v : ℕ) (es : s ≡ section_at rows j) (small : s < 7) (ev : v ≡ max (get_or R s 0) (due ps (row_at rows j))) where
  here : get_or (set R s v) s 0 ≡ v
  here = get_or-set_same R s v 0 (omega arith)

  -- a section's reach does not fall
  wider : (t : ℕ) → get_or R t 0 ≤ get_or (set R s v) t 0
  wider t = ⊎_elim
      (λ e. let q = eqb→eq t s e in omega (arith, ap (λ (z : ℕ). get_or (set R s v) z 0) q ∙ here, ap (λ (z : ℕ). get_or R z 0) q, ev))
      (λ e. omega (arith, get_or-set_other R s t v 0 (neqb→neq t s e)))
      (tell (eqb t s))

  pub reach_most : (t : ℕ) → get_or (set R s v) t 0 ≤ length ps
  reach_most t = ⊎_elim
      (λ e. omega (arith, ap (λ (z : ℕ). get_or (set R s v) z 0) (eqb→eq t s e) ∙ here, ev, most s, due-most ps (row_at rows j)))
      (λ e. omega (arith, get_or-set_other R s t v 0 (neqb→neq t s e), most t))
      (tell (eqb t s))

  pub reach_used : (i : ℕ) → i < j + 1 → due ps (row_at rows i) ≤ get_or (set R s v) (section_at rows i) 0
  reach_used i h = go (order i j)
    where
      go : Order i j → due ps (row_at rows i) ≤ get_or (set R s v) (section_at rows i) 0
      go (lower q) = omega (arith, used i q, wider (section_at rows i))
      go (level q) = subst (λ (z : ℕ). due ps (row_at rows z) ≤ get_or (set R s v) (section_at rows z) 0) (sym q) (omega (arith, ap (λ (z : ℕ). get_or (set R s v) z 0) (sym es) ∙ here, ev))
      go (upper q) = absurd (omega arith)

-- by rows with their sections
reach_tags : (rows : List ℕ) (Q : Tagged → Type 0) (j left : ℕ) → ((i : ℕ) → j ≤ i → i < j + left → Q (tag_at rows i)) → All Q (listed (tag_at rows) j left)
unfolding listed
reach_tags rows Q j zero f = tt
reach_tags rows Q j (suc left) f = (f j (omega arith) (omega arith), reach_tags rows Q (suc j) left (λ i a b. f i (omega arith) (omega arith)))

pub reached : (rows : List ℕ) (count : ℕ) (ps reaches : List ℕ) → Reaches rows count ps reaches → All (λ (t : Tagged). due ps t.row ≤ get_or reaches t.section 0) (tags_of rows count)
unfolding tags_of
reached rows count ps reaches X = reach_tags rows (λ (t : Tagged). due ps t.row ≤ get_or reaches t.section 0) 0 count (λ i a b. X.used i (omega arith))

-- a point behind some is among all
elem_dropped : (m r : ℕ) (l : List ℕ) → T (elem m (drop r l)) → T (elem m l)
unfolding elem
elem_dropped m zero l t = t
elem_dropped m (suc r) [] t = t
elem_dropped m (suc r) (x ∷ l) t = right (eqb m x) (elem m l) (elem_dropped m r l t)

-- no point is among the first r and behind them
split_once : (m r : ℕ) (l : List ℕ) → Distinct l → T (elem m (take r l)) → T (elem m (drop r l)) → ⊥
unfolding elem
split_once m zero l d s t = s
split_once m (suc r) [] d s t = s
split_once m (suc r) (x ∷ l) d s t =
    ⊎_elim (λ e. d.0 (subst (λ (z : ℕ). T (elem z l)) (eqb→eq m x e) (elem_dropped m r l t))) (λ u. split_once m r l d.1 u t) (either (eqb m x) (elem m (take r l)) s)

-- rows that are due with r points placed use none behind them
pub uses-none-behind : (ps : List ℕ) (r : ℕ) → Distinct ps → All Ordinary ps → (c : List Row) → All (λ (k : Row). due ps k ≤ r) c → All (λ (k : Row). All (λ (m : ℕ). T (elem m (drop r ps)) → ⊥) (needs k)) c
uses-none-behind ps r d o = all_map
    (λ k l. all-elem (λ (m : ℕ). T (elem m (drop r ps)) → ⊥) (needs k)
    (λ m u t. let a = elem_dropped m r ps t in
    split_once m r ps d
    (elem_wider m (place m ps) r ps (omega (arith, due-place ps k m (elem_back m (introduced k) (needs k) u))) (place_in m ps (elem_at Ordinary m ps a o).not_start a)) t))

-- The sections of a sheet in memory are 0 to k.
module _ (rows : List ℕ) (count k : ℕ) (S : SheetHeld rows count k) where
  tagged-below : (i n : ℕ) (cs : List (List Row)) → i + length cs ≤ n → All (λ (t : Tagged). t.section < n) (tagged i cs)
  unfolding tagged
  tagged-below i n [] h = tt
  tagged-below i n (c ∷ cs) h = all_append (λ (t : Tagged). t.section < n) (map (tag i) c) (tagged (suc i) cs) (own c) (tagged-below (suc i) n cs (omega arith))
    where
      own : (c : List Row) → All (λ (t : Tagged). t.section < n) (map (tag i) c)
      own [] = tt
      own (r ∷ c) = (omega arith, own c)

  pub section-small : (j : ℕ) → j < count → section_at rows j < 7
  unfolding tags_of
  section-small j h = all-at (λ (t : Tagged). t.section < 7) (listed_mem (tag_at rows) 0 count j (omega arith) (omega arith))
      (subst (All (λ (t : Tagged). t.section < 7)) (sym S.tags) (tagged-below 0 7 ((sheet_at rows count k).antecedent ∷ (sheet_at rows count k).consequents) (omega (arith, S.read.count))))
