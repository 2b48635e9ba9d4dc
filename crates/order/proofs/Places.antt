-- The far end that the code finds, by places, is the sheet's: no two points that the rows of a section may use have one place.
-- Assumes nothing.
use mathlib.Core.Path.{◌≡◌, refl, sym, ap, ap₂, ◌∙◌, subst}
use mathlib.Core.Logic.{◌⊎◌, inl, inr, ⊎_elim}
use mathlib.Core.Bool.{Bool, true, false, not, ◌&&◌, ◌||◌, cond, and-false}
use mathlib.Core.List.{List, [], ◌∷◌, ◌++◌, map}
use Prim.Native.Nat.{ℕ, zero, suc, ◌+◌, ◌*◌, ◌%◌, ◌≤◌, ◌<◌}
use native.Mathlib.Omega.{arith}
use lib.ListN.{length, take, drop}
use lib.Dec.{eqb}
use borrow.Author.Tests.{lt-ltb, le-ltb, eqb-true, eqb-false, eq-eqb, ne_eqb}
use Rattle.scenario.specs.Links.{Link, link, leads}
use Rattle.scenario.specs.Rows.{Row, point, next, last, earlier, later, before, apart, same, free, within, outside, event, points, introduced, needs, gather, before_link, ascends, may_end, first_or, far_end}
use Rattle.scenario.specs.Fields.{decode, row_of}
use Rattle.scenario.specs.Reading.{All, Counted, Seen, first, final, antecedent, own, RowsRead}
use Rattle.scenario.proofs.Base.{all_map, tell, is_false}
use Rattle.scenario.proofs.Reading.{short, counted-all}
use Rattle.scenario.proofs.Links.{all-gather, leads_in_lem}
use Rattle.scenario.proofs.Numbers.{any-kind}
use Rattle.row.specs.declared.Line.{Line}
use Rattle.row.specs.Row.{six, row_in}
use Rattle.row.specs.Memory.{line_in, lines_in}
use Rattle.sheet.specs.Reading.{section}
use Rattle.links.proofs.Places.{same_place, leads-placed}
use Rattle.order.specs.Leading.{place, link_of, links_in}
use Rattle.order.specs.Ending.{antecedent_points, end_in, far_in}
use Rattle.order.proofs.Ending.{first_or-same, far_of_other}

-- Places

pub place_below : (p : ℕ) → p < 10 → place p ≡ p
unfolding place
place_below p h = simp (lt-ltb p 10 h)

place-above : (p : ℕ) → 10 ≤ p → place p ≡ 10 + p % 10
unfolding place
place-above p h = simp (le-ltb p 10 h)

eqb_swap : (x y : ℕ) → eqb x y ≡ eqb y x
eqb_swap x y = go (eqb x y) refl
  where
    go : (b : Bool) → eqb x y ≡ b → b ≡ eqb y x
    go true e = sym (eq-eqb y x (sym (eqb-true x y e)))
    go false e = sym (ne_eqb y x (λ q. eqb-false x y e (sym q)))

and_swap : (a b : Bool) → a && b ≡ b && a
and_swap true true = refl
and_swap true false = refl
and_swap false true = refl
and_swap false false = refl

-- a link between places, upward or the other way
abbrev toward : Bool → Link → Link
toward upward l = cond upward (link (place l.from) (place l.to)) (link (place l.to) (place l.from))

-- the points that rows of section s may use, a being the antecedent's last
module _ (a s : ℕ) (few : a ≤ 4) (pos : 1 ≤ s) where
  abbrev pub Here : ℕ → Type 0
  Here = Seen a s 8

  -- such a point is the start or the antecedent's; or the close; or the section's own
  data Sort (x : ℕ) : Type 0 where
    front : place x ≡ x → x ≤ a → Sort x
    back : place x ≡ 19 → x ≡ 99 → Sort x
    inside : place x ≡ 10 + x % 10 → 10 * s < x → x ≤ 10 * s + 8 → Sort x

  sort : (x : ℕ) → Here x → Sort x
  sort x (first e) = front (place_below x (omega arith)) (omega arith)
  sort x (final e) = back (place-above x (omega arith) ∙ omega arith) e
  sort x (antecedent l u) = front (place_below x (omega arith)) u
  sort x (own l u) = inside (place-above x (omega arith)) l u

  one_place : (x y : ℕ) → Here x → Here y → place x ≡ place y → x ≡ y
  one_place x y hx hy e = go (sort x hx) (sort y hy)
    where
      go : Sort x → Sort y → x ≡ y
      go (front p u) (front q v) = omega arith
      go (front p u) (back q v) = absurd (omega arith)
      go (front p u) (inside q l v) = absurd (omega arith)
      go (back p u) (front q v) = absurd (omega arith)
      go (back p u) (back q v) = omega arith
      go (back p u) (inside q l v) = absurd (omega arith)
      go (inside p k u) (front q v) = absurd (omega arith)
      go (inside p k u) (back q v) = absurd (omega arith)
      go (inside p k u) (inside q l v) = omega arith

  -- links between such points lead as those between their places
  abbrev Between : Link → Type 0
  Between l = Here l.from × Here l.to

  leads-downward : (ls : List Link) → All Between ls → (x y : ℕ) → Here x → Here y → leads (map (toward false) ls) (place x) (place y) ≡ leads ls y x
  unfolding leads
  leads-downward [] h x y hx hy = same_place place Here one_place x y hx hy ∙ eqb_swap x y
  leads-downward (l ∷ ls) h x y hx hy =
      ap₂ ◌||◌ (leads-downward ls h.1 x y hx hy)
      (ap₂ ◌&&◌ (leads-downward ls h.1 x l.to hx h.0.1) (leads-downward ls h.1 l.from y h.0.0 hy) ∙ and_swap (leads ls l.to x) (leads ls y l.from))

  leads-toward : (upward : Bool) (ls : List Link) → All Between ls → (x y : ℕ) → Here x → Here y
      → leads (map (toward upward) ls) (place x) (place y) ≡ cond upward (leads ls x y) (leads ls y x)
  leads-toward true = leads-placed place Here one_place
  leads-toward false = leads-downward

  -- and to no other place
  abbrev Ends_here : ℕ → ℕ → Type 0
  Ends_here x y = (x ≡ y) ⊎ ((k : ℕ) × Here k × (place k ≡ y))

  ends-chain : (x y z : ℕ) → Ends_here x y → Ends_here y z → Ends_here x z
  ends-chain x y z e (inl f) = subst (Ends_here x) f e
  ends-chain x y z e (inr f) = inr f

  toward-ends : (upward : Bool) (ls : List Link) → All Between ls → All (λ (l : Link). Ends_here l.from l.to) (map (toward upward) ls)
  toward-ends upward [] h = tt
  toward-ends true (l ∷ ls) h = (inr (l.to, h.0.1, refl), toward-ends true ls h.1)
  toward-ends false (l ∷ ls) h = (inr (l.from, h.0.0, refl), toward-ends false ls h.1)

  pub nowhere_else : (upward : Bool) (ls : List Link) → All Between ls → (x z : ℕ) → 4 < x → a < z → z ≤ 4 → leads (map (toward upward) ls) x z ≡ false
  nowhere_else upward ls h x z k l u =
      ⊎_elim (λ t. absurd (not_there (leads_in_lem Ends_here (λ x. inl refl) ends-chain (map (toward upward) ls) (toward-ends upward ls h) x z t))) (is_false (leads (map (toward upward) ls) x z))
      (tell (leads (map (toward upward) ls) x z))
    where
      far : (k : ℕ) → place k ≡ z → Sort k → ⊥
      far k e (front p v) = omega arith
      far k e (back p v) = omega arith
      far k e (inside p v w) = omega arith

      not_there : Ends_here x z → ⊥
      not_there (inl e) = omega arith
      not_there (inr e) = far e.0 e.2 (sort e.0 e.1)

-- The links of a section in memory are those of its BEFORE rows

module _ (p q a b : ℕ) where
  abbrev Linked : ℕ → Type 0
  Linked k = before_link (row_of k p q a b) ≡ cond (eqb k 6) (link p q ∷ []) []

  linked : (k : ℕ) → Linked k
  unfolding decode
  linked = any-kind Linked refl refl refl refl refl refl refl refl refl refl refl refl refl
      (λ k. ap (λ (b : Bool). cond b (link p q ∷ []) []) (sym (ne_eqb (suc (suc (suc (suc (suc (suc (suc (suc (suc (suc (suc (suc (suc k))))))))))))) 6 (λ e. omega arith))))

links_are : (m : List ℕ) (s : ℕ) (upward : Bool) (left i : ℕ) → links_in m s upward i left ≡ map (toward upward) (gather before_link (section s (lines_in m i left)))
unfolding links_in gather section lines_in row_in
links_are m s upward zero i = refl
links_are m s upward (suc left) i = go (eqb (line_in m i).section s) (eqb (line_in m i).kind 6) (links_are m s upward left (suc i)) (linked (line_in m i).p (line_in m i).q (line_in m i).a (line_in m i).b (line_in m i).kind)
  where
    after : {ls : List Link} → before_link (row_in (line_in m i)) ≡ ls
        → map (toward upward) (ls ++ gather before_link (section s (lines_in m (suc i) left))) ≡ map (toward upward) (before_link (row_in (line_in m i)) ++ gather before_link (section s (lines_in m (suc i) left)))
    after e = ap (λ (ks : List Link). map (toward upward) (ks ++ gather before_link (section s (lines_in m (suc i) left)))) (sym e)

    go : (x y : Bool) → links_in m s upward (suc i) left ≡ map (toward upward) (gather before_link (section s (lines_in m (suc i) left)))
        → before_link (row_in (line_in m i)) ≡ cond y (link (line_in m i).p (line_in m i).q ∷ []) []
        → cond (x && y) (link_of upward (line_in m i) ∷ links_in m s upward (suc i) left) (links_in m s upward (suc i) left)
        ≡ map (toward upward) (gather before_link (cond x (row_in (line_in m i) ∷ section s (lines_in m (suc i) left)) (section s (lines_in m (suc i) left))))
    go false y r e = r
    go true true r e = ap (λ (ls : List Link). link_of upward (line_in m i) ∷ ls) r ∙ after e
    go true false r e = r ∙ after e

-- What reading has seen of the points of rows

module _ (P : ℕ → Type 0) where
  before-between : (row : Row) → All P (needs row) → All (λ (l : Link). P l.from × P l.to) (before_link row)
  before-between (point p s) h = tt
  before-between (next p q s) h = tt
  before-between (last p q s) h = tt
  before-between (earlier p q a) h = tt
  before-between (later p q a) h = tt
  before-between (before p q) h = ((h.0, h.1.0), tt)
  before-between (apart p q) h = tt
  before-between (same p q) h = tt
  before-between (free p q s) h = tt
  before-between (within p q lo hi) h = tt
  before-between (outside p q lo hi) h = tt
  before-between (event p s) h = tt

module _ (a s : ℕ) where
  abbrev pub Own : ℕ → Type 0
  Own p = (10 * s < p) × (p ≤ 10 * s + 8)

  -- a row's points are the section's own where it introduces them, and such as the section may use
  abbrev pub Within : Row → Type 0
  Within row = All Own (introduced row) × All (Seen a s 8) (needs row)

  wider : (c x : ℕ) → c ≤ 8 → Seen a s c x → Seen a s 8 x
  wider c x h (first e) = first e
  wider c x h (final e) = final e
  wider c x h (antecedent l u) = antecedent l u
  wider c x h (own l u) = own l (omega arith)

  of_antecedent : (x : ℕ) → Seen a 0 0 x → Seen a s 8 x
  of_antecedent x (first e) = first e
  of_antecedent x (final e) = final e
  of_antecedent x (antecedent l u) = antecedent l u
  of_antecedent x (own l u) = absurd (omega arith)

  one_more : (c : ℕ) (ps : List ℕ) → c ≤ 8 → length ps ≤ 1 → All (λ (p : ℕ). (p ≡ 10 * s + c + 1) × (c < 8)) ps → length ps + c ≤ 8
  one_more c [] h k d = omega arith
  one_more c (p ∷ ps) h k d = omega (arith, d.0.1)

  pub rows-within : (c : ℕ) (rows : List Row) → c ≤ 8 → RowsRead a s c rows → All Within rows
  rows-within c [] h r = tt
  rows-within c (row ∷ rows) h r = (
    (all_map (λ p d. (omega (arith, d.0), omega (arith, d.0, d.1))) (introduced row) r.0.due, all_map (λ x k. wider c x h k) (needs row) r.0.known),
    rows-within (length (introduced row) + c) rows (one_more c (introduced row) h (short row) r.0.due) r.1,
  )

-- The first of the antecedent's points

counted_is : (b : ℕ) (ps zs : List ℕ) → Counted b ps → Counted b zs → length ps ≤ length zs → ps ≡ take (length ps) zs
counted_is b [] zs c d h = refl
counted_is b (p ∷ ps) [] c d h = absurd (omega arith)
counted_is b (p ∷ ps) (z ∷ zs) c d h = ap₂ (λ (x : ℕ) (xs : List ℕ). x ∷ xs) (c.0 ∙ sym d.0) (counted_is (suc b) ps zs c.1 d.1 (omega arith))

first_of_front : (long : ℕ) (f : ℕ → Bool) (j : ℕ) (zs : List ℕ) → All (λ (z : ℕ). f z ≡ false) (drop j zs) → first_or long f zs ≡ first_or long f (take j zs)
unfolding first_or
first_of_front long f j [] h = go j
  where
    go : (j : ℕ) → long ≡ first_or long f (take j [])
    go zero = refl
    go (suc j) = refl
first_of_front long f zero (z ∷ zs) h = ap (λ (b : Bool). cond b z (first_or long f zs)) h.0 ∙ first_of_front long f zero zs h.1
first_of_front long f (suc j) (z ∷ zs) h = ap (cond (f z) z) (first_of_front long f j zs h)

-- A test of a point that is not q goes by whether both are so.
may_end-same : (beyond ordered beyond' ordered' : ℕ → Bool) (q edge z : ℕ) → beyond z ≡ beyond' z → ((z ≡ q → ⊥) → ordered z ≡ ordered' z)
    → may_end beyond ordered q edge z ≡ may_end beyond' ordered' q edge z
unfolding may_end
may_end-same beyond ordered beyond' ordered' q edge z e f = ap (λ (b : Bool). b && not (eqb z q) && (eqb q edge || ordered z)) e ∙ go (eqb z q) refl
  where
    go : (b : Bool) → eqb z q ≡ b → beyond' z && not b && (eqb q edge || ordered z) ≡ beyond' z && not b && (eqb q edge || ordered' z)
    go true d = rw (and-false (beyond' z))
    go false d = ap (λ (o : Bool). beyond' z && true && (eqb q edge || o)) (f (eqb-false z q d))

-- of two different points
ascends-leads : (rows : List Row) (x y : ℕ) → (x ≡ y → ⊥) → ascends rows x y ≡ leads (gather before_link rows) x y
unfolding ascends
ascends-leads rows x y d = ap (λ (b : Bool). not b && leads (gather before_link rows) x y) (ne_eqb x y d)

-- THE THEOREM, of rows in memory of which reading has seen the points: section 0 and section s.
module _ (m : List ℕ) (n s : ℕ) (pos : 1 ≤ s) where
  abbrev before_rows : List Row
  before_rows = section 0 (lines_in m 0 n)

  abbrev rows : List Row
  rows = section s (lines_in m 0 n)

  abbrev last_point : ℕ
  last_point = length (points before_rows)

  module _ (numbers : Counted 0 (points before_rows)) (few : last_point ≤ 4)
      (uses : All (λ (k : Row). All (Seen last_point 0 0) (needs k)) before_rows) (within : All (Within last_point s) rows) where
    abbrev Mine : ℕ → Type 0
    Mine = Here last_point s few pos

    -- the links of both sections are between points that section s may use
    own-between : All (Between last_point s few pos) (gather before_link rows)
    own-between = all-gather (Between last_point s few pos) before_link rows (all_map (λ k w. before-between Mine k w.1) rows within)

    antecedent-between : All (Between last_point s few pos) (gather before_link before_rows)
    antecedent-between =
        all-gather (Between last_point s few pos) before_link before_rows
        (all_map (λ k u. before-between Mine k (all_map (of_antecedent last_point s) (needs k) u)) before_rows uses)

    -- where the rows of both lead from a point to z, by places
    module _ (upward : Bool) (z : ℕ) (hz : Mine z) (ez : place z ≡ z) where
      leads-by_places : (t : ℕ) → All (Between last_point s few pos) (gather before_link (section t (lines_in m 0 n))) → (x : ℕ) → Mine x
          → leads (links_in m t upward 0 n) (place x) z ≡ cond upward (leads (gather before_link (section t (lines_in m 0 n))) x z) (leads (gather before_link (section t (lines_in m 0 n))) z x)
      leads-by_places t b x hx =
          ap₂ (λ (ls : List Link) (y : ℕ). leads ls (place x) y) (links_are m t upward n 0) (sym ez)
          ∙ leads-toward last_point s few pos upward (gather before_link (section t (lines_in m 0 n))) b x z hx hz

    -- a far end by places, for tests that say where the rows lead
    module _ (upward : Bool) (p q edge long : ℕ) (hp : Own last_point s p) (hq : Mine q) (beyond ordered : ℕ → Bool)
        (is-beyond : (z : ℕ) → (p ≡ z → ⊥) → beyond z ≡ cond upward (leads (gather before_link rows) p z) (leads (gather before_link rows) z p))
        (is-ordered : (z : ℕ) → (z ≡ q → ⊥) → ordered z ≡ cond upward (leads (gather before_link before_rows) q z) (leads (gather before_link before_rows) z q)) where
      abbrev by_places : ℕ → Bool
      by_places = may_end (leads (links_in m s upward 0 n) (place p)) (leads (links_in m 0 upward 0 n) (place q)) q edge

      -- of the antecedent's points
      test_is : (z : ℕ) → (0 < z) × (z ≤ 0 + last_point) → by_places z ≡ may_end beyond ordered q edge z
      test_is z h =
          let hz : Mine z = antecedent h.0 (omega (arith, h.1)) in
          let ez = place_below z (omega (arith, h.1)) in
          may_end-same (leads (links_in m s upward 0 n) (place p)) (leads (links_in m 0 upward 0 n) (place q)) beyond ordered q edge z
          (leads-by_places upward z hz ez s own-between p (own hp.0 hp.1) ∙ sym (is-beyond z (λ e. omega (arith, hp.0, h.1))))
          (λ d. leads-by_places upward z hz ez 0 antecedent-between q hq ∙ sym (is-ordered z d))

      -- and of no others
      test_fails : (z : ℕ) → last_point < z → z ≤ 4 → by_places z ≡ false
      unfolding may_end
      test_fails z l u =
          ap (λ (b : Bool). b && not (eqb z q) && (eqb q edge || leads (links_in m 0 upward 0 n) (place q) z))
          (ap (λ (ls : List Link). leads ls (place p) z) (links_are m s upward n 0)
          ∙ nowhere_else last_point s few pos upward (gather before_link rows) own-between (place p) z (omega (arith, place-above p (omega (arith, hp.0)))) l u)

      pub end-by_places : first_or long by_places antecedent_points ≡ first_or long (may_end beyond ordered q edge) (points before_rows)
      end-by_places =
          first_of_front long by_places last_point antecedent_points (rest last_point few (λ z l u. test_fails z l u))
          ∙ ap (first_or long by_places) (sym (counted_is 0 (points before_rows) antecedent_points numbers (refl, (refl, (refl, (refl, tt)))) few))
          ∙ first_or-same long by_places (may_end beyond ordered q edge) (points before_rows)
          (all_map (λ z h. test_is z h) (points before_rows) (counted-all 0 (points before_rows) numbers))
        where
          rest : (j : ℕ) → j ≤ 4 → ((z : ℕ) → j < z → z ≤ 4 → by_places z ≡ false) → All (λ (z : ℕ). by_places z ≡ false) (drop j antecedent_points)
          rest zero h f = (f 1 (omega arith) (omega arith), (f 2 (omega arith) (omega arith), (f 3 (omega arith) (omega arith), (f 4 (omega arith) (omega arith), tt))))
          rest (suc zero) h f = (f 2 (omega arith) (omega arith), (f 3 (omega arith) (omega arith), (f 4 (omega arith) (omega arith), tt)))
          rest (suc (suc zero)) h f = (f 3 (omega arith) (omega arith), (f 4 (omega arith) (omega arith), tt))
          rest (suc (suc (suc zero))) h f = (f 4 (omega arith) (omega arith), tt)
          rest (suc (suc (suc (suc zero)))) h f = tt
          rest (suc (suc (suc (suc (suc j))))) h f = absurd (omega arith)

    -- a row's far end
    module _ (p q a b : ℕ) where
      abbrev Far : ℕ → Type 0
      Far k = Within last_point s (row_of k p q a b) → far_in m n (six s k p q a b) ≡ far_end before_rows rows (row_of k p q a b)

      far_next : Far 2
      unfolding decode far_end far_in end_in
      far_next w =
          end-by_places true p q 0 99 w.0.0 w.1.0 (ascends rows p) (ascends before_rows q) (λ z d. ascends-leads rows p z d) (λ z d. ascends-leads before_rows q z (λ e. d (sym e)))

      far_last : Far 3
      unfolding decode far_end far_in end_in
      far_last w =
          end-by_places false p q 99 0 w.0.0 w.1.0 (λ z. ascends rows z p) (λ z. ascends before_rows z q) (λ z d. ascends-leads rows z p (λ e. d (sym e))) (λ z d. ascends-leads before_rows z q d)

      far_kind : (k : ℕ) → Far k
      unfolding decode far_end
      far_kind =
          any-kind Far (other 0 (λ e. omega arith) (λ e. omega arith)) (other 1 (λ e. omega arith) (λ e. omega arith)) far_next far_last
          (other 4 (λ e. omega arith) (λ e. omega arith))
          (other 5 (λ e. omega arith) (λ e. omega arith))
          (other 6 (λ e. omega arith) (λ e. omega arith))
          (other 7 (λ e. omega arith) (λ e. omega arith))
          (other 8 (λ e. omega arith) (λ e. omega arith))
          (other 9 (λ e. omega arith) (λ e. omega arith))
          (other 10 (λ e. omega arith) (λ e. omega arith))
          (other 11 (λ e. omega arith) (λ e. omega arith))
          (other 12 (λ e. omega arith) (λ e. omega arith))
          (λ k. other (suc (suc (suc (suc (suc (suc (suc (suc (suc (suc (suc (suc (suc k))))))))))))) (λ e. omega arith) (λ e. omega arith))
        where
          other : (k : ℕ) → (k ≡ 2 → ⊥) → (k ≡ 3 → ⊥) → Within last_point s (row_of k p q a b) → far_in m n (six s k p q a b) ≡ 0
          other k d e w = sym (far_of_other m n (six s k p q a b) d e)

    pub far_is : (l : Line) → l.section ≡ s → Within last_point s (row_in l) → far_in m n l ≡ far_end before_rows rows (row_in l)
    unfolding row_in
    far_is l y w = subst (λ (t : ℕ). far_in m n (six t l.kind l.p l.q l.a l.b) ≡ far_end before_rows rows (row_in l)) (sym y) (far_kind l.p l.q l.a l.b l.kind w)
