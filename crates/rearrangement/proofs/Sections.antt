-- Rows with their sections: where a row of the list stands, and which rows a section has.
-- Assumes nothing.
use mathlib.Core.Path.{◌≡◌, refl, sym, ◌∙◌, ap, ap₂, subst}
use mathlib.Core.Logic.{◌⊎◌, inl, inr, ⊎_elim}
use mathlib.Core.List.{List, [], ◌∷◌, ◌++◌, map, append_assoc, append-nil}
use Prim.Native.Nat.{ℕ, zero, suc, ◌+◌, ◌*◌, ◌≤◌, ◌<◌}
use native.Mathlib.Omega.{arith}
use lib.ListN.{length, get_or, take, length-append, length-map}
use borrow.Author.Tests.{eq-eqb, ne_eqb}
use Rattle.scenario.specs.Rows.{Row}
use Rattle.scenario.specs.Fields.{Tagged, tag, tagged}
use Rattle.scenario.specs.Sheet.{Sheet}
use Rattle.scenario.specs.Reading.{All}
use Rattle.scenario.proofs.Base.{all_append, same-places}
use Rattle.sheet.specs.Valid.{rows_of, sections_of, sheet_from, preceding}
use Rattle.sheet.proofs.Valid.{rows_append}

-- A row of a list

-- the rows before it and behind it
pub record At (l own : List Row) (r : Row) : Type 0 where
  pub behind : List Row
  pub rows : l ≡ own ++ (r ∷ behind)

-- a row of renumbered rows
pub at_map : (f : Row → Row) (l own : List Row) (r : Row) → At (map f l) own r → (was : List Row) × (row : Row) × At l was row × (own ≡ map f was) × (r ≡ f row)
at_map f [] own r a = absurd (omega (arith, ap length a.rows, length-append own (r ∷ a.behind)))
at_map f (x ∷ l) [] r a = let e = a.rows in ([], x, record { behind = l; rows = refl }, refl, cc)
at_map f (x ∷ l) (y ∷ own) r a =
    let e = a.rows in
    let q : map f l ≡ own ++ (r ∷ a.behind) = cc in
    let z : f x ≡ y = cc in
    one_more z (at_map f l own r (record { behind = a.behind; rows = q }))
  where
    one_more : f x ≡ y → (was : List Row) × (row : Row) × At l was row × (own ≡ map f was) × (r ≡ f row)
        → (was : List Row) × (row : Row) × At (x ∷ l) was row × (y ∷ own ≡ map f was) × (r ≡ f row)
    one_more z (was, row, at, front, same) = (
      x ∷ was,
      row,
      record { behind = at.behind; rows = ap (λ (u : List Row). x ∷ u) at.rows },
      ap₂ (λ u v. u ∷ v) (sym z) front,
      same,
    )

-- A row of the sections i, i + 1, ..: its section, the rows of that section before it, and all that stand before it

-- what stands before a row that is behind the rows own of the section at place p
abbrev pub front_of : (i : ℕ) (ls : List (List Row)) (p : ℕ) (own : List Row) → List Tagged
front_of i ls p own = tagged i (take p ls) ++ map (tag (i + p)) own

pub record Stands (i : ℕ) (ls : List (List Row)) (front : List Tagged) (t : Tagged) : Type 0 where
  pub place : ℕ
  pub inside : place < length ls
  pub own : List Row
  pub at : At (get_or ls place []) own t.row
  pub section : t.section ≡ i + place
  pub before : front ≡ front_of i ls place own

-- it stands in these rows, or behind them all
record Within (i : ℕ) (l : List Row) (front : List Tagged) (t : Tagged) : Type 0 where
  own : List Row
  at : At l own t.row
  section : t.section ≡ i
  before : front ≡ map (tag i) own

record Behind (i : ℕ) (l : List Row) (ts front : List Tagged) (t : Tagged) (back : List Tagged) : Type 0 where
  further : List Tagged
  before : front ≡ map (tag i) l ++ further
  rest : ts ≡ further ++ (t ∷ back)

within_or_behind : (i : ℕ) (l : List Row) (ts front : List Tagged) (t : Tagged) (back : List Tagged) → map (tag i) l ++ ts ≡ front ++ (t ∷ back) → Within i l front t ⊎ Behind i l ts front t back
within_or_behind i [] ts front t back e = inr (record { further = front; before = refl; rest = e })
within_or_behind i (r ∷ l) ts [] t back e =
    let q : tag i r ≡ t = cc in
    inl (record { own = []; at = record { behind = l; rows = ap (λ (x : Tagged). x.row ∷ l) q }; section = sym (ap (λ (x : Tagged). x.section) q); before = refl })
within_or_behind i (r ∷ l) ts (u ∷ front) t back e =
    let q : tag i r ≡ u = cc in
    let z : map (tag i) l ++ ts ≡ front ++ (t ∷ back) = cc in
    ⊎_elim (λ w. inl (within q w)) (λ b. inr (behind q b)) (within_or_behind i l ts front t back z)
  where
    within : tag i r ≡ u → Within i l front t → Within i (r ∷ l) (u ∷ front) t
    within q w = record {
      own = r ∷ w.own;
      at = record { behind = w.at.behind; rows = ap (λ (x : List Row). r ∷ x) w.at.rows };
      section = w.section;
      before = ap₂ (λ x xs. x ∷ xs) (sym q) w.before;
    }

    behind : tag i r ≡ u → Behind i l ts front t back → Behind i (r ∷ l) ts (u ∷ front) t back
    behind q b = record { further = b.further; before = ap₂ (λ x xs. x ∷ xs) (sym q) b.before; rest = b.rest }

pub stands : (i : ℕ) (ls : List (List Row)) (front : List Tagged) (t : Tagged) (back : List Tagged) → tagged i ls ≡ front ++ (t ∷ back) → Stands i ls front t
unfolding tagged
stands i [] front t back e = absurd (omega (arith, ap length e, length-append front (t ∷ back)))
stands i (l ∷ ls) front t back e =
    ⊎_elim
    (λ w. record {
      place = 0;
      inside = omega arith;
      own = w.own;
      at = w.at;
      section = w.section ∙ same;
      before = w.before ∙ ap (λ (x : ℕ). map (tag x) w.own) same;
    })
    (λ b. let S = stands (suc i) ls b.further t back b.rest in record {
      place = suc S.place;
      inside = omega (arith, S.inside);
      own = S.own;
      at = S.at;
      section = S.section ∙ next S.place;
      before = b.before ∙ ap (λ (x : List Tagged). map (tag i) l ++ x) (S.before ∙ ap (λ (x : ℕ). tagged (suc i) (take S.place ls) ++ map (tag x) S.own) (next S.place))
          ∙ sym (append_assoc (map (tag i) l) (tagged (suc i) (take S.place ls)) (map (tag (i + suc S.place)) S.own));
    })
    (within_or_behind i l (tagged (suc i) ls) front t back e)
  where
    same : i ≡ i + 0
    same = omega arith

    next : (p : ℕ) → suc i + p ≡ i + suc p
    next p = omega arith

-- and the other way round
pub stands_there : (i : ℕ) (ls : List (List Row)) (p : ℕ) (own : List Row) (r : Row) → p < length ls → At (get_or ls p []) own r
    → (back : List Tagged) × (tagged i ls ≡ front_of i ls p own ++ (tag (i + p) r ∷ back))
unfolding tagged
stands_there i [] p own r h a = absurd (omega arith)
stands_there i (l ∷ ls) zero own r h a = (
  map (tag i) a.behind ++ tagged (suc i) ls,
  ap (λ (x : List Row). map (tag i) x ++ tagged (suc i) ls) a.rows ∙ apart own ∙ ap (λ (x : ℕ). map (tag x) own ++ (tag x r ∷ (map (tag i) a.behind ++ tagged (suc i) ls))) same,
)
  where
    same : i ≡ i + 0
    same = omega arith

    apart : (own : List Row) → map (tag i) (own ++ (r ∷ a.behind)) ++ tagged (suc i) ls ≡ map (tag i) own ++ (tag i r ∷ (map (tag i) a.behind ++ tagged (suc i) ls))
    apart [] = refl
    apart (x ∷ own) = ap (λ (ts : List Tagged). tag i x ∷ ts) (apart own)
stands_there i (l ∷ ls) (suc p) own r h a =
    let g = stands_there (suc i) ls p own r (omega arith) a in (
      g.0,
      ap (λ (x : List Tagged). map (tag i) l ++ x)
          (g.1 ∙ ap (λ (x : ℕ). (tagged (suc i) (take p ls) ++ map (tag x) own) ++ (tag x r ∷ g.0)) next)
          ∙ sym (append_assoc (map (tag i) l) (tagged (suc i) (take p ls) ++ map (tag (i + suc p)) own) (tag (i + suc p) r ∷ g.0))
          ∙ ap (λ (x : List Tagged). x ++ (tag (i + suc p) r ∷ g.0)) (sym (append_assoc (map (tag i) l) (tagged (suc i) (take p ls)) (map (tag (i + suc p)) own))),
    )
  where
    next : suc i + p ≡ i + suc p
    next = omega arith

-- The rows of a section

rows-own : (s i : ℕ) (l : List Row) → s ≡ i → rows_of s (map (tag i) l) ≡ l
unfolding rows_of
rows-own s i [] e = refl
rows-own s i (r ∷ l) e = simp (eq-eqb i s (sym e)) (ap (λ (x : List Row). r ∷ x) (rows-own s i l e))

rows_none : (s i : ℕ) (l : List Row) → (s ≡ i → ⊥) → rows_of s (map (tag i) l) ≡ []
unfolding rows_of
rows_none s i [] n = refl
rows_none s i (r ∷ l) n = simp (ne_eqb i s (λ e. n (sym e))) (rows_none s i l n)

rows-below : (s i : ℕ) (ls : List (List Row)) → s < i → rows_of s (tagged i ls) ≡ []
unfolding rows_of tagged
rows-below s i [] h = refl
rows-below s i (l ∷ ls) h = rows_append s (map (tag i) l) (tagged (suc i) ls) ∙ ap₂ (λ (x y : List Row). x ++ y) (rows_none s i l (λ e. omega arith)) (rows-below s (suc i) ls (omega arith))

pub rows_at : (i d : ℕ) (ls : List (List Row)) → rows_of (i + d) (tagged i ls) ≡ get_or ls d []
unfolding rows_of tagged
rows_at i d [] = refl
rows_at i zero (l ∷ ls) =
    rows_append (i + 0) (map (tag i) l) (tagged (suc i) ls)
    ∙ ap₂ (λ (x y : List Row). x ++ y) (rows-own (i + 0) i l (omega arith)) (rows-below (i + 0) (suc i) ls (omega arith)) ∙ append-nil l
rows_at i (suc d) (l ∷ ls) =
    let q : i + suc d ≡ suc i + d = omega arith in
    rows_append (i + suc d) (map (tag i) l) (tagged (suc i) ls)
    ∙ ap₂ (λ (x y : List Row). x ++ y) (rows_none (i + suc d) i l (λ e. omega arith)) (ap (λ (s : ℕ). rows_of s (tagged (suc i) ls)) q ∙ rows_at (suc i) d ls)

-- of the rows before a row of the section at place p: its own are those before it there, and section 0 is passed whole
past_end : (n : ℕ) (ls : List (List Row)) → get_or (take n ls) n [] ≡ []
past_end zero ls = refl
past_end (suc n) [] = refl
past_end (suc n) (l ∷ ls) = past_end n ls

pub own-before : (ls : List (List Row)) (p : ℕ) (own : List Row) → rows_of p (front_of 0 ls p own) ≡ own
own-before ls p own =
    let q : 0 + p ≡ p = omega arith in
    subst (λ (s : ℕ). rows_of s (front_of 0 ls p own) ≡ own) q
    (rows_append (0 + p) (tagged 0 (take p ls)) (map (tag (0 + p)) own)
    ∙ ap₂ (λ (x y : List Row). x ++ y) (rows_at 0 p (take p ls) ∙ past_end p ls) (rows-own (0 + p) (0 + p) own refl))

pub antecedent-before : (l : List Row) (ls : List (List Row)) (p : ℕ) (own : List Row) → rows_of 0 (front_of 0 (l ∷ ls) (suc p) own) ≡ l
antecedent-before l ls p own =
    let q : 0 + 0 ≡ 0 = omega arith in
    subst (λ (s : ℕ). rows_of s (front_of 0 (l ∷ ls) (suc p) own) ≡ l) q
    (rows_append (0 + 0) (tagged 0 (take (suc p) (l ∷ ls))) (map (tag (0 + suc p)) own)
    ∙ ap₂ (λ (x y : List Row). x ++ y) (rows_at 0 0 (take (suc p) (l ∷ ls))) (rows_none (0 + 0) (0 + suc p) own (λ e. omega arith)) ∙ append-nil l)

-- no section before is higher
preceding-most : (n s : ℕ) (ts : List Tagged) → s ≤ n → All (λ (t : Tagged). t.section ≤ n) ts → preceding s ts ≤ n
unfolding preceding
preceding-most n s [] h a = h
preceding-most n s (t ∷ ts) h a = preceding-most n t.section ts a.0 a.1

tags-most : (n i : ℕ) (l : List Row) → i ≤ n → All (λ (t : Tagged). t.section ≤ n) (map (tag i) l)
tags-most n i [] h = tt
tags-most n i (r ∷ l) h = (h, tags-most n i l h)

tagged-most : (n i : ℕ) (ls : List (List Row)) → i + length ls ≤ n + 1 → All (λ (t : Tagged). t.section ≤ n) (tagged i ls)
unfolding tagged
tagged-most n i [] h = tt
tagged-most n i (l ∷ ls) h = all_append (λ (t : Tagged). t.section ≤ n) (map (tag i) l) (tagged (suc i) ls) (tags-most n i l (omega arith)) (tagged-most n (suc i) ls (omega arith))

length-take : (n : ℕ) (ls : List (List Row)) → length (take n ls) ≤ n
length-take zero ls = omega arith
length-take (suc n) [] = omega arith
length-take (suc n) (l ∷ ls) = omega (arith, length-take n ls)

pub in_order : (ls : List (List Row)) (p : ℕ) (own : List Row) → preceding 0 (front_of 0 ls p own) ≤ p
in_order ls p own =
    preceding-most p 0 (front_of 0 ls p own) (omega arith)
    (all_append (λ (t : Tagged). t.section ≤ p) (tagged 0 (take p ls)) (map (tag (0 + p)) own) (tagged-most p 0 (take p ls) (omega (arith, length-take p ls))) (tags-most p (0 + p) own (omega arith)))

-- The sheet of its own rows

sections-length : (ts : List Tagged) (left i : ℕ) → length (sections_of i left ts) ≡ left
unfolding sections_of
sections-length ts zero i = refl
sections-length ts (suc left) i = ap suc (sections-length ts left (suc i))

sections-at : (ts : List Tagged) (left i p : ℕ) → p < left → get_or (sections_of i left ts) p [] ≡ rows_of (i + p) ts
unfolding sections_of
sections-at ts zero i p h = absurd (omega arith)
sections-at ts (suc left) i zero h = let q : i ≡ i + 0 = omega arith in ap (λ (s : ℕ). rows_of s ts) q
sections-at ts (suc left) i (suc p) h = let q : suc i + p ≡ i + suc p = omega arith in sections-at ts left (suc i) p (omega arith) ∙ ap (λ (s : ℕ). rows_of s ts) q

pub sheet_of-rows : (sheet : Sheet) (k : ℕ) → length sheet.consequents ≡ k → sheet_from k (tagged 0 (sheet.antecedent ∷ sheet.consequents)) ≡ sheet
unfolding sheet_from
sheet_of-rows sheet k h =
    let q : 0 ≡ 0 + 0 = omega arith in
    ap₂ (λ (a : List Row) (cs : List (List Row)). record { antecedent = a; consequents = cs })
    (ap (λ (s : ℕ). rows_of s (tagged 0 ls)) q ∙ rows_at 0 0 ls)
    (same-places [] (sections_of 1 k (tagged 0 ls)) sheet.consequents (sections-length (tagged 0 ls) k 1 ∙ sym h) (λ p b.
    let l : p < k = omega (arith, sections-length (tagged 0 ls) k 1) in
    let e : 1 + p ≡ 0 + suc p = omega arith in
    sections-at (tagged 0 ls) k 1 p l ∙ ap (λ (s : ℕ). rows_of s (tagged 0 ls)) e ∙ rows_at 0 (suc p) ls))
  where
    ls : List (List Row)
    ls = sheet.antecedent ∷ sheet.consequents

-- how many rows they are together
pub tagged-length : (n i : ℕ) (ls : List (List Row)) → All (λ (l : List Row). length l ≤ n) ls → length (tagged i ls) ≤ n * length ls
unfolding tagged
tagged-length n i [] h = omega arith
tagged-length n i (l ∷ ls) h = omega (arith, length-append (map (tag i) l) (tagged (suc i) ls), length-map l (tag i), h.0, tagged-length n (suc i) ls h.1)
