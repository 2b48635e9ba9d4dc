-- The rearranged sheet is valid: what document 01 permits of a row of one section it permits of the row as another section's.
-- Carried by the points introduced so far: those of the antecedent are the same, and those of the section have moved with it.
-- Assumes nothing.
use mathlib.Core.Path.{◌≡◌, refl, sym, ◌∙◌, ap, subst}
use mathlib.Core.Logic.{inl, inr, ⊎_elim}
use mathlib.Core.List.{List, [], ◌∷◌, ◌++◌, map, map-append, Memᴰ}
use Prim.Native.Nat.{ℕ, zero, suc, ◌+◌, ◌*◌, ◌≤◌, ◌<◌}
use native.Mathlib.Omega.{arith}
use lib.ListN.{length, get_or, length-append, length-map}
use lib.Dec.{T, eqb, eqb→eq}
use Rattle.scenario.specs.Rows.{Row, point, next, last, earlier, later, before, apart, same, free, within, outside, event, introduced, points, elem}
use Rattle.scenario.specs.Fields.{Tagged, tag, tagged}
use Rattle.scenario.specs.Sheet.{Sheet}
use Rattle.scenario.specs.Reading.{All, Ordinary, Counted, SheetRead}
use Rattle.scenario.specs.Renumber.{move, renamed, moved}
use Rattle.scenario.proofs.Base.{left, right, either, eq→eqb, elem_at, all_get_d, get_or-all, all-at, Order, lower, level, upper, order}
use Rattle.scenario.proofs.Renumber.{Such, introduced-renamed, Common, fixed-start, fixed-close, Named, move-own, move_common, move-one, antecedent_points_common, consequent_named}
use Rattle.sheet.specs.Valid.{rows_of, Introduced, OrdinaryPoint, KnownPoint, the_start, the_close, an_ordinary, last_point, Due, Pair, Permitted, ValidRow, ValidSheet}
use Rattle.rearrangement.specs.Order.{Rearrangement, reordered}
use Rattle.rearrangement.proofs.Patterns.{length-reordered, reordered-at}
use Rattle.rearrangement.proofs.Sections.{At, at_map, front_of, Stands, stands, stands_there, rows_at, own-before, antecedent-before, in_order, tagged-length}

-- Points

points-renamed : (f : ℕ → ℕ) (rows : List Row) → points (map (renamed f) rows) ≡ map f (points rows)
unfolding points
points-renamed f [] = refl
points-renamed f (k ∷ rows) =
    ap (λ (ps : List ℕ). ps ++ points (map (renamed f) rows)) (introduced-renamed f k)
    ∙ ap (λ (ps : List ℕ). map f (introduced k) ++ ps) (points-renamed f rows) ∙ sym (map-append f (introduced k) (points rows))

elem-renamed : (f : ℕ → ℕ) (m : ℕ) (ps : List ℕ) → T (elem m ps) → T (elem (f m) (map f ps))
unfolding elem
elem-renamed f m [] t = absurd t
elem-renamed f m (p ∷ ps) t =
    ⊎_elim (λ e. left (eqb (f m) (f p)) (elem (f m) (map f ps)) (eq→eqb (f m) (f p) (ap f (eqb→eq m p e))))
    (λ e. right (eqb (f m) (f p)) (elem (f m) (map f ps)) (elem-renamed f m ps e)) (either (eqb m p) (elem m ps) t)

-- the number that comes next
next-number : (b : ℕ) (ps : List ℕ) (p : ℕ) → Counted b (ps ++ (p ∷ [])) → p ≡ b + length ps + 1
next-number b [] p c = omega (arith, c.0)
next-number b (q ∷ ps) p c = omega (arith, next-number (suc b) ps p c.1)

-- Section j + 1 as section i + 1, the rows `was` standing before one of its rows, and `is` before that row where it has moved

module _ (j i : ℕ) (jh : suc j ≤ 6) (ih : suc i ≤ 6) where
  abbrev f : ℕ → ℕ
  f = move (suc j) (suc i)

  stays : (m : ℕ) → Common m → f m ≡ m
  stays = move_common (suc j) (suc i) (omega arith) jh

  counted-moved : (c : ℕ) (ps : List ℕ) → Counted (10 * suc j + c) ps → c + length ps ≤ 9 → Counted (10 * suc i + c) (map f ps)
  counted-moved c [] h l = tt
  counted-moved c (p ∷ ps) h l = (
    move-own (suc j) (suc i) p (omega (arith, h.0)) (omega (arith, h.0)) ∙ omega (arith, h.0),
    subst (λ (b : ℕ). Counted b (map f ps)) there (counted-moved (suc c) ps (subst (λ (b : ℕ). Counted b ps) here h.1) (omega arith)),
  )
    where
      here : suc (10 * suc j + c) ≡ 10 * suc j + suc c
      here = omega arith

      there : 10 * suc i + suc c ≡ suc (10 * suc i + c)
      there = omega arith

  ordinary-moved : (m : ℕ) → Named (suc j) m → Ordinary m → Ordinary (f m)
  ordinary-moved m (inl c) o = subst Ordinary (sym (stays m c)) o
  ordinary-moved m (inr h) o = record {
    not_start = λ q. omega (arith, q, move-own (suc j) (suc i) m h.0 h.1, h.0);
    not_close = λ q. omega (arith, q, move-own (suc j) (suc i) m h.0 h.1, h.1);
  }

  different-moved : (p q : ℕ) → Named (suc j) p → Named (suc j) q → (q ≡ p → ⊥) → f q ≡ f p → ⊥
  different-moved p q h k n e = n (move-one (suc j) (suc i) (omega arith) jh (omega arith) ih q p k h e)

  -- it does not become a point that keeps its number
  still_not : (m d : ℕ) → Named (suc j) m → Common d → (m ≡ d → ⊥) → f m ≡ d → ⊥
  still_not m d h c n e = different-moved d m (inl c) h n (e ∙ sym (stays d c))

  module _ (was is : List Tagged) (own : points (rows_of (suc i) is) ≡ map f (points (rows_of (suc j) was))) (passed : points (rows_of 0 is) ≡ points (rows_of 0 was))
      (common : All Common (points (rows_of 0 was))) where
    introduced-moved : (m : ℕ) → Introduced was (suc j) m → Introduced is (suc i) (f m)
    introduced-moved m (inl t) = inl (subst (λ (ps : List ℕ). T (elem (f m) ps)) (sym own) (elem-renamed f m (points (rows_of (suc j) was)) t))
    introduced-moved m (inr t) =
        inr (subst (λ (x : ℕ). T (elem x (points (rows_of 0 is)))) (sym (stays m (elem_at Common m (points (rows_of 0 was)) t common)))
        (subst (λ (ps : List ℕ). T (elem m ps)) (sym passed) t))

    point-moved : (m : ℕ) → Named (suc j) m → OrdinaryPoint was (suc j) m → OrdinaryPoint is (suc i) (f m)
    point-moved m h o = record { ordinary = ordinary-moved m h o.ordinary; introduced = introduced-moved m o.introduced }

    known-moved : (m : ℕ) → Named (suc j) m → KnownPoint was (suc j) m → KnownPoint is (suc i) (f m)
    known-moved m h (the_start q) = the_start (stays m (fixed-start q) ∙ q)
    known-moved m h (the_close q) = the_close (stays m (fixed-close q) ∙ q)
    known-moved m h (an_ordinary o) = an_ordinary (point-moved m h o)

    due-moved : (p : ℕ) → Due was (suc j) p → Due is (suc i) (f p)
    unfolding last_point
    due-moved p d =
        let ps = points (rows_of (suc j) was) in
        let n = next-number (10 * suc j) ps p d.in_order in
        let z : 10 * suc j ≡ 10 * suc j + 0 = omega arith in
        let y : 10 * suc i + 0 ≡ 10 * suc i = omega arith in
        record {
          in_order = subst (λ (l : List ℕ). Counted (10 * suc i) (l ++ (f p ∷ []))) (sym own)
              (subst (Counted (10 * suc i)) (map-append f ps (p ∷ []))
              (subst (λ (b : ℕ). Counted b (map f (ps ++ (p ∷ [])))) y
              (counted-moved 0 (ps ++ (p ∷ [])) (subst (λ (b : ℕ). Counted b (ps ++ (p ∷ []))) z d.in_order) (omega (arith, length-append ps (p ∷ []), n, d.up_to)))));
          up_to = omega (arith, move-own (suc j) (suc i) p (omega (arith, n)) (omega (arith, d.up_to)), n, d.up_to);
        }

    points-moved : (p q : ℕ) → Named (suc j) p → Named (suc j) q → Pair (OrdinaryPoint was (suc j)) p q → Pair (OrdinaryPoint is (suc i)) (f p) (f q)
    points-moved p q h k P = record { different = different-moved p q h k P.different; first = point-moved p h P.first; second = point-moved q k P.second }

    pair_moved : (p q : ℕ) → Named (suc j) p → Named (suc j) q → Pair (KnownPoint was (suc j)) p q → Pair (KnownPoint is (suc i)) (f p) (f q)
    pair_moved p q h k P = record { different = different-moved p q h k P.different; first = known-moved p h P.first; second = known-moved q k P.second }

    permitted-moved : (r : Row) → Such (Named (suc j)) r → Permitted was (suc j) r → Permitted is (suc i) (renamed f r)
    permitted-moved (point p s) h w = absurd (omega (arith, w.0))
    permitted-moved (next p q s) h w = (omega arith, due-moved p w.1, known-moved q h.0.0 w.2, still_not q 99 h.0.0 (fixed-close refl) w.3, w.4)
    permitted-moved (last p q s) h w = (omega arith, due-moved p w.1, known-moved q h.0.0 w.2, still_not q 0 h.0.0 (fixed-start refl) w.3, w.4)
    permitted-moved (earlier p q a) h w = (omega arith, due-moved p w.1, points-moved q a h.0.0 h.0.1.0 w.2)
    permitted-moved (later p q a) h w = (omega arith, due-moved p w.1, points-moved q a h.0.0 h.0.1.0 w.2)
    permitted-moved (before p q) h w = points-moved p q h.0.0 h.0.1.0 w
    permitted-moved (apart p q) h w = points-moved p q h.0.0 h.0.1.0 w
    permitted-moved (same p q) h w = points-moved p q h.0.0 h.0.1.0 w
    permitted-moved (free p q s) h w = (pair_moved p q h.0.0 h.0.1.0 w.0, w.1)
    permitted-moved (within p q lo hi) h w = (pair_moved p q h.0.0 h.0.1.0 w.0, w.1)
    permitted-moved (outside p q lo hi) h w = (pair_moved p q h.0.0 h.0.1.0 w.0, w.1)
    permitted-moved (event p s) h w = (point-moved p h.0.0 w.0, w.1)

-- The sheet

module _ (sheet : Sheet) (R : SheetRead sheet) (M : Rearrangement (length sheet.consequents)) (W : ValidSheet (length sheet.consequents) (tagged 0 (sheet.antecedent ∷ sheet.consequents)))
    (antecedent-room : length sheet.antecedent ≤ 32) (consequent-room : All (λ (c : List Row). length c ≤ 24) sheet.consequents) where
  abbrev k : ℕ
  k = length sheet.consequents

  abbrev parts : List (List Row)
  parts = reordered k M.old sheet.consequents

  abbrev sections : List (List Row)
  sections = sheet.antecedent ∷ sheet.consequents

  abbrev sections' : List (List Row)
  sections' = sheet.antecedent ∷ parts

  parts-room : (p : ℕ) → length (get_or parts p []) ≤ 24
  parts-room p = go (order p k)
    where
      past : (ls : List (List Row)) (p : ℕ) → length ls ≤ p → get_or ls p [] ≡ []
      past [] p h = refl
      past (l ∷ ls) zero h = absurd (omega arith)
      past (l ∷ ls) (suc p) h = past ls p (omega arith)

      none : k ≤ p → length (get_or parts p []) ≤ 24
      none h = omega (arith, ap length (past parts p (omega (arith, length-reordered k M.old sheet.consequents))))

      go : Order p k → length (get_or parts p []) ≤ 24
      go (lower h) =
          omega (
            arith,
            ap length (reordered-at k M.old sheet.consequents p h),
            length-map (get_or sheet.consequents (M.old p) []) (renamed (move (suc (M.old p)) (suc p))),
            all_get_d (λ (c : List Row). length c ≤ 24) [] sheet.consequents consequent-room (M.old p) (M.old_low p h),
          )
      go (level e) = none (omega arith)
      go (upper h) = none (omega arith)

  -- a row of the antecedent stands where it stood
  antecedent-row : (own : List Row) (t : Tagged) → At sheet.antecedent own t.row → t.section ≡ 0 → ValidRow k (front_of 0 sections' 0 own) t
  antecedent-row own t a s =
      let g = stands_there 0 sections 0 own t.row (omega arith) a in
      let z : t ≡ tag (0 + 0) t.row = ap (λ (x : ℕ). tag x t.row) (s ∙ zero_more) in
      subst (ValidRow k (front_of 0 sections' 0 own)) (sym z) (W.each (front_of 0 sections 0 own) (tag (0 + 0) t.row) g.0 g.1)
    where
      zero_more : 0 ≡ 0 + 0
      zero_more = omega arith

  -- a row of a consequent stood in its old section
  module _ (i : ℕ) (l : i < k) (own' : List Row) (t : Tagged) (a : At (get_or parts i []) own' t.row) (s : t.section ≡ suc i) where
    abbrev j : ℕ
    j = M.old i

    it : (was : List Row) × (row : Row) × At (get_or sheet.consequents j []) was row × (own' ≡ moved (suc j) (suc i) was) × (t.row ≡ renamed (move (suc j) (suc i)) row)
    it =
        at_map (renamed (move (suc j) (suc i))) (get_or sheet.consequents j []) own' t.row
        (record { behind = a.behind; rows = sym (reordered-at k M.old sheet.consequents i l) ∙ a.rows })

    abbrev was : List Row
    was = it.0

    abbrev row : Row
    row = it.1

    abbrev front : List Tagged
    front = front_of 0 sections (suc j) was

    abbrev front' : List Tagged
    front' = front_of 0 sections' (suc i) own'

    stood : ValidRow k front (tag (0 + suc j) row)
    stood = let g = stands_there 0 sections (suc j) was row (omega (arith, M.old_low i l)) it.2 in W.each front (tag (0 + suc j) row) g.0 g.1

    named : Such (Named (suc j)) row
    named = all-at (Such (Named (suc j))) (there was it.2.behind) (subst (All (Such (Named (suc j)))) it.2.rows (consequent_named sheet R j (M.old_low i l)))
      where
        there : (front back : List Row) → Memᴰ row (front ++ (row ∷ back))
        there [] back = Memᴰ.head refl
        there (x ∷ front) back = Memᴰ.tail (there front back)

    own-points : points (rows_of (suc i) front') ≡ map (move (suc j) (suc i)) (points (rows_of (suc j) front))
    own-points =
        ap points (own-before sections' (suc i) own' ∙ it.3) ∙ points-renamed (move (suc j) (suc i)) was
        ∙ ap (λ (rows : List Row). map (move (suc j) (suc i)) (points rows)) (sym (own-before sections (suc j) was))

    passed : rows_of 0 front' ≡ rows_of 0 front
    passed = antecedent-before sheet.antecedent parts i own' ∙ sym (antecedent-before sheet.antecedent sheet.consequents j was)

    permits : Permitted front' (suc i) (renamed (move (suc j) (suc i)) row)
    permits =
        permitted-moved j i (omega (arith, M.old_low i l, R.count)) (omega (arith, R.count)) front front' own-points (ap points passed)
        (subst (λ (rows : List Row). All Common (points rows)) (sym (antecedent-before sheet.antecedent sheet.consequents j was)) (antecedent_points_common sheet R))
        row named (subst (λ (x : ℕ). Permitted front x row) zero_more stood.permitted)
      where
        zero_more : 0 + suc j ≡ suc j
        zero_more = omega arith

    consequent-row : ValidRow k front' t
    consequent-row = record {
      top = omega (arith, s);
      order = omega (arith, s, in_order sections' (suc i) own');
      permitted = subst (λ (x : ℕ). Permitted front' x t.row) (sym s) (subst (Permitted front' (suc i)) (sym it.4) permits);
    }

  each_row : (front : List Tagged) (t : Tagged) (back : List Tagged) → tagged 0 sections' ≡ front ++ (t ∷ back) → ValidRow k front t
  each_row front t back e = let S = stands 0 sections' front t back e in by S.place S refl
    where
      zero_more : (p : ℕ) → 0 + p ≡ p
      zero_more p = omega arith

      by : (p : ℕ) (S : Stands 0 sections' front t) → S.place ≡ p → ValidRow k front t
      by zero S q =
          subst (λ (x : List Tagged). ValidRow k x t) (sym (S.before ∙ ap (λ (x : ℕ). front_of 0 sections' x S.own) q))
          (antecedent-row S.own t (subst (λ (x : ℕ). At (get_or sections' x []) S.own t.row) q S.at) (S.section ∙ zero_more S.place ∙ q))
      by (suc i) S q =
          subst (λ (x : List Tagged). ValidRow k x t) (sym (S.before ∙ ap (λ (x : ℕ). front_of 0 sections' x S.own) q))
          (consequent-row i (omega (arith, S.inside, q, length-reordered k M.old sheet.consequents)) S.own t
          (subst (λ (x : ℕ). At (get_or sections' x []) S.own t.row) q S.at) (S.section ∙ zero_more S.place ∙ q))

  -- THE THEOREM: the rearranged rows are those of a valid sheet.
  pub rearranged-valid : ValidSheet k (tagged 0 sections')
  unfolding tagged
  rearranged-valid = record {
    few_consequents = R.count;
    few_rows =
        omega (
          arith,
          length-append (map (tag 0) sheet.antecedent) (tagged 1 parts),
          length-map sheet.antecedent (tag 0),
          antecedent-room,
          tagged-length 24 1 parts (get_or-all (λ (c : List Row). length c ≤ 24) [] parts (λ p b. parts-room p)),
          length-reordered k M.old sheet.consequents,
          R.count,
        );
    each = each_row;
    antecedent_rows = rw (rows_at 0 0 sections') antecedent-room;
    consequent_rows = λ i h. rooms i h;
  }
    where
      rooms : (i : ℕ) → 1 ≤ i → length (rows_of i (tagged 0 sections')) ≤ 24
      rooms zero h = absurd (omega arith)
      rooms (suc p) h =
          let q : 0 + suc p ≡ suc p = omega arith in
          omega (arith, ap length (ap (λ (x : ℕ). rows_of x (tagged 0 sections')) (sym q) ∙ rows_at 0 (suc p) sections'), parts-room p)
