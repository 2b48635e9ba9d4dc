-- What the rows tell by two tables, of joined points and of lower ones, is whether they are impossible.
-- Assumes nothing.
use mathlib.Core.Path.{◌≡◌, refl, sym, ap, ap₂, ◌∙◌, subst}
use mathlib.Core.Bool.{Bool, true, false, not, ◌||◌}
use mathlib.Core.List.{List, ◌++◌, map}
use Prim.Native.Nat.{ℕ}
use native.Mathlib.Omega.{arith}
use lib.Dec.{eqb}
use Rattle.scenario.specs.Links.{Link, leads}
use Rattle.scenario.specs.Rows.{Row, point, next, last, earlier, later, before, apart, same, free, within, outside, event, event_count, below, gather}
use Rattle.scenario.specs.Log.{in_set}
use Rattle.scenario.specs.Reading.{All}
use Rattle.scenario.proofs.Base.{all_map, all_append}
use Rattle.scenario.proofs.Links.{all-gather}
use Rattle.links.specs.Table.{told, Tells, leads_on, placed}
use Rattle.links.proofs.Entering.{links_entered, leads_on-eqb, leads_on_append}
use Rattle.links.proofs.Places.{leads-placed}
use Rattle.impossibility.specs.Impossible.{SetFor, part, joins, lowers, aparts, sets, any, joined, shared, no_common_event, apart_inside, circular, impossible}
use Rattle.contradiction.specs.Table.{places, place, Here, Placed, links_of, leads_in, shared_in, torn, circling, contradicting}
use Rattle.impossibility.proofs.Tests.{any_same, all_same, any_or, any-gather, below-same}
use Rattle.contradiction.proofs.Places.{place-low, links_low, one_place}
use Rattle.contradiction.proofs.Entering.{map_both}

-- The points of what a row says have places of their own

abbrev Between : Link → Type 0
Between l = Here l.from × Here l.to

record PartPlaced (k : Row) : Type 0 where
  joins : All Between (part k).joins
  lowers : All Between (part k).lowers
  aparts : All Between (part k).aparts
  sets : All (λ (h : SetFor). Here h.at) (part k).sets

part_placed : (k : Row) → Placed k → PartPlaced k
part_placed (point p s) h = record { joins = tt; lowers = tt; aparts = tt; sets = (h.0, tt) }
part_placed (next p q s) h = record { joins = tt; lowers = ((h.1.0, h.0), tt); aparts = tt; sets = (h.0, tt) }
part_placed (last p q s) h = record { joins = tt; lowers = ((h.0, h.1.0), tt); aparts = tt; sets = (h.0, tt) }
part_placed (earlier p q a) h = record { joins = tt; lowers = tt; aparts = tt; sets = tt }
part_placed (later p q a) h = record { joins = tt; lowers = tt; aparts = tt; sets = tt }
part_placed (before p q) h = record { joins = tt; lowers = ((h.0, h.1.0), tt); aparts = tt; sets = tt }
part_placed (apart p q) h = record { joins = tt; lowers = tt; aparts = ((h.0, h.1.0), tt); sets = tt }
part_placed (same p q) h = record { joins = ((h.0, h.1.0), ((h.1.0, h.0), tt)); lowers = tt; aparts = tt; sets = tt }
part_placed (free p q s) h = record { joins = tt; lowers = tt; aparts = tt; sets = tt }
part_placed (within p q lo hi) h = record { joins = tt; lowers = tt; aparts = tt; sets = tt }
part_placed (outside p q lo hi) h = record { joins = tt; lowers = tt; aparts = tt; sets = tt }
part_placed (event p s) h = record { joins = tt; lowers = tt; aparts = tt; sets = (h.0, tt) }

-- The tables

module _ (t0 t1 : List ℕ) (ks : List Link) where
  -- links entered into the table in which every place leads to itself
  first_links : Tells places t0 eqb → Tells places t1 (leads_on (told t0) (map (placed place) ks)) → Tells places t1 (leads (map (placed place) ks))
  first_links b e =
      let t = links_entered places eqb t0 t1 (map (placed place) ks) (links_low ks) b e in
      record { size = t.size; tells = λ x y h k. t.tells x y h k ∙ leads_on-eqb (map (placed place) ks) x y }

-- and others into that one
more_links : (t0 t1 t2 : List ℕ) (ks ls : List Link) → Tells places t0 eqb → Tells places t1 (leads_on (told t0) (map (placed place) ks))
    → Tells places t2 (leads_on (told t1) (map (placed place) ls)) → Tells places t2 (leads (map (placed place) (ls ++ ks)))
more_links t0 t1 t2 ks ls b e f =
    let s = links_entered places eqb t0 t1 (map (placed place) ks) (links_low ks) b e in
    let t = links_entered places (leads_on eqb (map (placed place) ks)) t1 t2 (map (placed place) ls) (links_low ls) s f in
    let u = subst (Tells places t2) (leads_on_append eqb (map (placed place) ls) (map (placed place) ks)) t in
    subst (λ (ms : List Link). Tells places t2 (leads ms)) (sym (map_both (placed place) ls ks))
    (record { size = u.size; tells = λ x y h k. u.tells x y h k ∙ leads_on-eqb (map (placed place) ls ++ map (placed place) ks) x y })

module _ (rows : List Row) (here : All Placed rows) where
  joins-placed : All Between (joins rows)
  joins-placed = all-gather Between (λ (k : Row). (part k).joins) rows (all_map (λ k h. (part_placed k h).joins) rows here)

  lowers-placed : All Between (lowers rows)
  lowers-placed = all-gather Between (λ (k : Row). (part k).lowers) rows (all_map (λ k h. (part_placed k h).lowers) rows here)

  aparts-placed : All Between (aparts rows)
  aparts-placed = all-gather Between (λ (k : Row). (part k).aparts) rows (all_map (λ k h. (part_placed k h).aparts) rows here)

  sets-placed : All (λ (h : SetFor). Here h.at) (sets rows)
  sets-placed = all-gather (λ (h : SetFor). Here h.at) (λ (k : Row). (part k).sets) rows (all_map (λ k h. (part_placed k h).sets) rows here)

  -- by places, as by points
  by-points : (table : List ℕ) (ls : List Link) → All Between ls → Tells places table (leads (map (placed place) ls)) → (p q : ℕ) → Here p → Here q → leads_in table p q ≡ leads ls p q
  by-points table ls b t p q hp hq = t.tells (place p) (place q) (place-low p) (place-low q) ∙ leads-placed place Here one_place ls b p q hp hq

  -- Joined points
  module _ (table : List ℕ) (t : Tells places table (leads (map (placed place) (joins rows)))) where
    one : (p q : ℕ) → Here p → Here q → leads_in table p q ≡ joined rows p q
    unfolding joined
    one = by-points table (joins rows) joins-placed t

    shared_same : (p x : ℕ) → Here p → shared_in table (sets rows) p x ≡ shared rows p x
    unfolding shared_in shared
    shared_same p x hp =
        all_same (λ (h : SetFor). not (leads_in table p h.at) || in_set h.set x) (λ (h : SetFor). not (joined rows p h.at) || in_set h.set x) (sets rows)
        (all_map (λ h hh. ap (λ (b : Bool). not b || in_set h.set x) (one p h.at hp hh)) (sets rows) sets-placed)

    torn-some : any (torn table rows) rows ≡ apart_inside rows || no_common_event rows
    unfolding torn apart_inside no_common_event
    torn-some =
        any_or (λ (k : Row). any (λ (l : Link). leads_in table l.from l.to) (part k).aparts)
        (λ (k : Row). any (λ (h : SetFor). not (below (shared_in table (sets rows) h.at) event_count)) (part k).sets) rows
        ∙ ap₂ ◌||◌
        (sym (any-gather (λ (l : Link). leads_in table l.from l.to) (λ (k : Row). (part k).aparts) rows)
        ∙ any_same (λ (l : Link). leads_in table l.from l.to) (λ (l : Link). joined rows l.from l.to) (aparts rows)
        (all_map (λ l h. one l.from l.to h.0 h.1) (aparts rows) aparts-placed))
        (sym (any-gather (λ (h : SetFor). not (below (shared_in table (sets rows) h.at) event_count)) (λ (k : Row). (part k).sets) rows)
        ∙ any_same (λ (h : SetFor). not (below (shared_in table (sets rows) h.at) event_count)) (λ (h : SetFor). not (below (shared rows h.at) event_count)) (sets rows)
        (all_map (λ h hh. ap not (below-same (shared_in table (sets rows) h.at) (shared rows h.at) event_count (λ x b. shared_same h.at x hh))) (sets rows) sets-placed))

  -- Lower points
  module _ (table : List ℕ) (t : Tells places table (leads (map (placed place) (lowers rows ++ joins rows)))) where
    circling-some : any (circling table) rows ≡ circular rows
    unfolding circling circular
    circling-some =
        sym (any-gather (λ (l : Link). leads_in table l.to l.from) (λ (k : Row). (part k).lowers) rows)
        ∙ any_same (λ (l : Link). leads_in table l.to l.from) (λ (l : Link). leads (lowers rows ++ joins rows) l.to l.from) (lowers rows)
        (all_map (λ l h. by-points table (lowers rows ++ joins rows) (all_append Between (lowers rows) (joins rows) lowers-placed joins-placed) t l.to l.from h.1 h.0) (lowers rows) lowers-placed)

  -- The answer, by what some row tells of the one table and of the other
  module _ (t0 t1 : List ℕ) (begun : Tells places t0 eqb) (joining : Tells places t1 (leads_on (told t0) (map (placed place) (gather (links_of true) rows))))
      (r : Bool) (said : r ≡ any (contradicting t1 rows true) rows) where
    torn-is : r ≡ apart_inside rows || no_common_event rows
    torn-is = said ∙ torn-some t1 (first_links t0 t1 (joins rows) begun joining)

    pub torn-impossible : r ≡ true → true ≡ impossible rows
    unfolding impossible
    torn-impossible f = go (apart_inside rows) (no_common_event rows) (circular rows) (sym f ∙ torn-is)
      where
        go : (a n c : Bool) → true ≡ a || n → true ≡ n || (a || c)
        go true true c h = refl
        go true false c h = refl
        go false n c h = ap (λ (b : Bool). b || c) h

    pub circling-impossible : r ≡ false → (t2 : List ℕ) → Tells places t2 (leads_on (told t1) (map (placed place) (gather (links_of false) rows)))
        → (s : Bool) → s ≡ any (contradicting t2 rows false) rows → s ≡ impossible rows
    unfolding impossible
    circling-impossible f t2 lowering s e =
        e ∙ circling-some t2 (more_links t0 t1 t2 (joins rows) (lowers rows) begun joining lowering)
        ∙ go (apart_inside rows) (no_common_event rows) (circular rows) (sym f ∙ torn-is)
      where
        go : (a n c : Bool) → false ≡ a || n → c ≡ n || (a || c)
        go true n c h = let z : ◌≡◌ {A = ℕ} 0 1 = cc in absurd (omega arith)
        go false true c h = let z : ◌≡◌ {A = ℕ} 0 1 = cc in absurd (omega arith)
        go false false c h = refl
