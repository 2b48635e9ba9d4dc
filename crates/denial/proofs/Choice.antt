-- What the code builds is the core's antiscenario, row by row.
-- Assumes nothing.
use mathlib.Core.Path.{◌≡◌, refl, sym, ap, ap₂, ◌∙◌, subst}
use mathlib.Core.Bool.{Bool, true, false, cond, ◌&&◌, ◌||◌}
use mathlib.Core.List.{List, [], ◌∷◌, ◌++◌, map, map-map, map-append, append-nil}
use Prim.Native.Nat.{ℕ, zero, suc, ◌+◌, ◌*◌, ◌-◌, ◌/◌, ◌%◌, ◌≤◌, ◌<◌}
use native.Mathlib.Nat.{sub-zero}
use native.Mathlib.Omega.{arith}
use lib.ListN.{length, get_or, set, length-set, length-map, replicate, length-replicate, get_or-replicate, get_or-append, get_or-map}
use lib.Seq.{get_or-set_same, get_or-set_other}
use lib.Dec.{eqb, leb, ltb}
use borrow.Author.Tests.{le-ltb, eqb-true, eqb-false, ltb-true, ltb-false}
use Rattle.scenario.specs.Rows.{Row, introduced, needs, brings, elem, closure, points, denying_rows, denials, far_end}
use Rattle.scenario.specs.Fields.{fields, five, decode, row_of, Tagged, tagged, written}
use Rattle.scenario.specs.Sheet.{choices, total, choose, chosen}
use Rattle.scenario.specs.Reading.{All, RowsRead, SectionsRead, SheetRead}
use Rattle.scenario.proofs.Base.{Order, lower, level, upper, order}
use Rattle.row.specs.declared.Line.{Line}
use Rattle.row.specs.Row.{six, row_in}
use Rattle.sheet.specs.Reading.{section, sections, sheet_of}
use Rattle.row.specs.Memory.{line_in, lines_in}
use Rattle.sheet.specs.Count.{weight, weigh_line, product}
use Rattle.scenario.proofs.Numbers.{any-kind}
use Rattle.sheet.proofs.Denials.{line-weight, choices-product}
use Rattle.sheet.specs.Text.{numbers_of}
use Rattle.denial.specs.Build.{line_from, own, denied, denial_from, chosen_from, of_section, built}
use Rattle.introduction.specs.Bringing.{uses, marked, wanted, brought}
use Rattle.order.specs.Ending.{far_in}
use Rattle.order.proofs.Places.{Within, rows-within, far_is}

-- What reading gives of a line: its numbers are its row's, its kind is one of the twelve, and a consequent's points are below 100.
pub record Fair (l : Line) : Type 0 where
  pub numbers : fields (row_in l) ≡ five l.kind l.p l.q l.a l.b
  pub low : 1 ≤ l.kind
  pub high : l.kind ≤ 12
  pub small : 1 ≤ l.section → l.kind ≤ 5 → l.p < 100

line-back : (l : Line) (s : ℕ) → Fair l → l.section ≡ s → line_from s (row_in l) ≡ l
unfolding line_from numbers_of
line-back l s f e = rw (f.numbers, sym e)

-- Marks by number are a list of points

pub record Marks (marks ps : List ℕ) : Type 0 where
  pub long : length marks ≡ 100
  pub is : (x : ℕ) → x < 100 → eqb (get_or marks x 0) 1 ≡ elem x ps

or_swap : (a b c : Bool) → (a || (b || c)) ≡ (b || (a || c))
or_swap true true c = refl
or_swap true false c = refl
or_swap false true c = refl
or_swap false false c = refl

or-false : (a : Bool) → a ≡ (a || false)
or-false true = refl
or-false false = refl

elem_swap : (x : ℕ) (qs : List ℕ) (q : ℕ) (ps : List ℕ) → elem x (qs ++ (q ∷ ps)) ≡ elem x (q ∷ (qs ++ ps))
unfolding elem
elem_swap x [] q ps = refl
elem_swap x (r ∷ qs) q ps = ap (λ (b : Bool). eqb x r || b) (elem_swap x qs q ps) ∙ or_swap (eqb x r) (eqb x q) (elem x (qs ++ ps))

marks_one : (marks ps : List ℕ) (p : ℕ) → Marks marks ps → Marks (set marks p 1) (p ∷ ps)
unfolding elem
marks_one marks ps p M = record {
  long = length-set marks p 1 ∙ M.long;
  is = λ x h. go x h (eqb x p) refl;
}
  where
    go : (x : ℕ) → x < 100 → (b : Bool) → eqb x p ≡ b → eqb (get_or (set marks p 1) x 0) 1 ≡ (b || elem x ps)
    go x h true e =
        let q = eqb-true x p e in
        ap (λ (y : ℕ). eqb (get_or (set marks p 1) y 0) 1) q ∙ ap (λ (y : ℕ). eqb y 1) (get_or-set_same marks p 1 0 (omega (arith, M.long)))
    go x h false e = ap (λ (y : ℕ). eqb y 1) (get_or-set_other marks p x 1 0 (λ q. eqb-false x p e q)) ∙ M.is x h

marks_all : (qs marks ps : List ℕ) → Marks marks ps → Marks (marked marks qs) (qs ++ ps)
unfolding marked
marks_all [] marks ps M = M
marks_all (q ∷ qs) marks ps M =
    let R = marks_all qs (set marks q 1) (q ∷ ps) (marks_one marks ps q M) in
    record { long = R.long; is = λ x h. R.is x h ∙ elem_swap x qs q ps }

marks_none : Marks (replicate 100 0) []
unfolding elem
marks_none = record { long = length-replicate {A = ℕ} 100 0; is = λ x h. ap (λ (y : ℕ). eqb y 1) (get_or-replicate 100 x 0 0 h) }

-- The points that a row introduces and those it needs, by kind

module _ (marks ps : List ℕ) (p q a b : ℕ) where
  abbrev Brings : ℕ → Type 0
  Brings k = 1 ≤ k → k ≤ 12 → (k ≤ 5 → eqb (get_or marks p 0) 1 ≡ elem p ps) → (leb 1 k && leb k 5 && eqb (get_or marks p 0) 1) ≡ brings (introduced (row_of k p q a b)) ps

  brings-is : (k : ℕ) → Brings k
  unfolding decode brings
  brings-is =
      any-kind Brings
      (λ lo hi h. absurd (omega arith))
      (λ lo hi h. h (omega arith) ∙ or-false (elem p ps))
      (λ lo hi h. h (omega arith) ∙ or-false (elem p ps))
      (λ lo hi h. h (omega arith) ∙ or-false (elem p ps))
      (λ lo hi h. h (omega arith) ∙ or-false (elem p ps))
      (λ lo hi h. h (omega arith) ∙ or-false (elem p ps))
      (λ lo hi h. refl) (λ lo hi h. refl) (λ lo hi h. refl) (λ lo hi h. refl) (λ lo hi h. refl) (λ lo hi h. refl) (λ lo hi h. refl)
      (λ k lo hi h. absurd (omega arith))

module _ (s p q a b : ℕ) where
  abbrev Uses : ℕ → Type 0
  Uses k = 1 ≤ k → k ≤ 12 → uses (six s k p q a b) ≡ needs (row_of k p q a b)

  uses-kind : (k : ℕ) → Uses k
  unfolding decode uses
  uses-kind =
      any-kind Uses
      (λ lo hi. absurd (omega arith))
      (λ lo hi. refl) (λ lo hi. refl) (λ lo hi. refl) (λ lo hi. refl) (λ lo hi. refl) (λ lo hi. refl) (λ lo hi. refl) (λ lo hi. refl) (λ lo hi. refl) (λ lo hi. refl) (λ lo hi. refl) (λ lo hi. refl)
      (λ k lo hi. absurd (omega arith))

uses-is : (l : Line) → Fair l → uses l ≡ needs (row_in l)
unfolding row_in
uses-is l f = uses-kind l.section l.p l.q l.a l.b l.kind f.low f.high

-- Lists

get_d_default : {A : Type 0} (l : List A) (j : ℕ) (d e : A) → j < length l → get_or l j d ≡ get_or l j e
get_d_default [] j d e h = absurd (omega arith)
get_d_default (x ∷ l) zero d e h = refl
get_d_default (x ∷ l) (suc j) d e h = get_d_default l j d e (omega arith)

get_or_right : {A : Type 0} (xs ys : List A) (j : ℕ) (d : A) → length xs ≤ j → get_or (xs ++ ys) j d ≡ get_or ys (j - length xs) d
get_or_right [] ys j d h = let e : j - length {A = ℕ} [] ≡ j = omega arith in rw sub-zero refl
get_or_right (x ∷ xs) ys zero d h = absurd (omega arith)
get_or_right (x ∷ xs) ys (suc j) d h =
    let e : suc j - suc (length xs) ≡ j - length xs = omega arith in rw e (get_or_right xs ys j d (omega arith))

-- the row of a line of section s
row_in_lem : (P : Row → Type 0) (m : List ℕ) (s left i : ℕ) → All P (section s (lines_in m i left)) → (j : ℕ) → i ≤ j → j < i + left → (line_in m j).section ≡ s → P (row_in (line_in m j))
unfolding section lines_in
row_in_lem P m s zero i A j lo hi y = absurd (omega arith)
row_in_lem P m s (suc left) i A j lo hi y = go (eqb (line_in m i).section s) refl A (order i j) (λ B l. row_in_lem P m s left (suc i) B j l (omega arith) y)
  where
    go : (b : Bool) → eqb (line_in m i).section s ≡ b → All P (cond b (row_in (line_in m i) ∷ section s (lines_in m (suc i) left)) (section s (lines_in m (suc i) left))) → Order i j
        → (All P (section s (lines_in m (suc i) left)) → suc i ≤ j → P (row_in (line_in m j))) → P (row_in (line_in m j))
    go true e A (lower h) r = r A.1 (omega arith)
    go true e A (level h) r = subst (λ (x : ℕ). P (row_in (line_in m x))) h A.0
    go true e A (upper h) r = absurd (omega arith)
    go false e A (lower h) r = r A (omega arith)
    go false e A (level h) r = absurd (eqb-false (line_in m i).section s e (ap (λ (x : ℕ). (line_in m x).section) h ∙ y))
    go false e A (upper h) r = absurd (omega arith)

-- the rows of a section that is read
section-read : (a : ℕ) (ls : List Line) (left i : ℕ) → SectionsRead a i (sections i left ls) → (s : ℕ) → i ≤ s → s < i + left → RowsRead a s 0 (section s ls)
unfolding sections
section-read a ls zero i R s lo hi = absurd (omega arith)
section-read a ls (suc left) i R s lo hi = go (order i s) (λ l. section-read a ls left (suc i) R.1 s l (omega arith))
  where
    go : Order i s → (suc i ≤ s → RowsRead a s 0 (section s ls)) → RowsRead a s 0 (section s ls)
    go (lower h) r = r (omega arith)
    go (level h) r = subst (λ (x : ℕ). RowsRead a x 0 (section x ls)) h R.0
    go (upper h) r = absurd (omega arith)

-- the rows of section s among the first i, the last first
unfoldable past : (m : List ℕ) (s i : ℕ) → List Row
past m s zero = []
past m s (suc i) = cond (eqb (line_in m i).section s) (row_in (line_in m i) ∷ past m s i) (past m s i)

module _ (m : List ℕ) (n : ℕ) (fair : (i : ℕ) → i < n → Fair (line_in m i)) where
  module _ (s : ℕ) (pos : 1 ≤ s) where
    -- what is brought is the closure
    brought-is : (i : ℕ) → i ≤ n → (marks ps : List ℕ) → Marks marks ps → brought m s marks i ≡ map (line_from s) (closure (past m s i) ps)
    unfolding brought closure past wanted row_in
    brought-is zero h marks ps M = refl
    brought-is (suc i) h marks ps M = go (eqb (line_in m i).section s) refl (brought-is i (omega arith))
      where
        go : (b : Bool) → eqb (line_in m i).section s ≡ b → ((marks ps : List ℕ) → Marks marks ps → brought m s marks i ≡ map (line_from s) (closure (past m s i) ps))
            → cond (b && (leb 1 (line_in m i).kind && leb (line_in m i).kind 5 && eqb (get_or marks (line_in m i).p 0) 1)) (brought m s (marked marks (uses (line_in m i))) i ++ (line_in m i ∷ [])) (brought m s marks i)
            ≡ map (line_from s) (closure (cond b (row_in (line_in m i) ∷ past m s i) (past m s i)) ps)
        go false e f = f marks ps M
        go true e f =
            let x = line_in m i in
            let F = fair i (omega arith) in
            let y = eqb-true x.section s e in
            let B = brings-is marks ps x.p x.q x.a x.b x.kind F.low F.high (λ k. M.is x.p (F.small (omega arith) k)) in
            rw B (is_line (brings (introduced (row_in x)) ps) (line-back x s F y) (f marks ps M) (f (marked marks (uses x)) (needs (row_in x) ++ ps) (subst (λ (z : List ℕ). Marks (marked marks (uses x)) (z ++ ps)) (uses-is x F) (marks_all (uses x) marks ps M))))
          where
            is_line : (b : Bool) → line_from s (row_in (line_in m i)) ≡ line_in m i → brought m s marks i ≡ map (line_from s) (closure (past m s i) ps)
                → brought m s (marked marks (uses (line_in m i))) i ≡ map (line_from s) (closure (past m s i) (needs (row_in (line_in m i)) ++ ps))
                → cond b (brought m s (marked marks (uses (line_in m i))) i ++ (line_in m i ∷ [])) (brought m s marks i)
                ≡ map (line_from s) (cond b (closure (past m s i) (needs (row_in (line_in m i)) ++ ps) ++ (row_in (line_in m i) ∷ [])) (closure (past m s i) ps))
            is_line true r g h =
                ap₂ (λ (u : List Line) (v : Line). u ++ (v ∷ [])) h (sym r)
                ∙ sym (map-append (line_from s) (closure (past m s i) (needs (row_in (line_in m i)) ++ ps)) (row_in (line_in m i) ∷ []))
            is_line false r g h = g

    -- the denials of the section, from row i on
    module _ (z : Row → ℕ) (is_far : (i : ℕ) → i < n → (line_in m i).section ≡ s → far_in m n (line_in m i) ≡ z (row_in (line_in m i))) where
      denied-is : (i j : ℕ) → i < n → (line_in m i).section ≡ s → j < length (denying_rows (z (row_in (line_in m i))) (10 * s + 9) (row_in (line_in m i)))
          → denied m n i j ≡ map (line_from s) (closure (past m s i) (needs (row_in (line_in m i))) ++ get_or (denying_rows (z (row_in (line_in m i))) (10 * s + 9) (row_in (line_in m i))) j [])
      unfolding denied own
      denied-is i j h y w =
          let x = line_in m i in
          let F = fair i h in
          let M : Marks (marked (replicate 100 0) (uses x)) (needs (row_in x)) =
          subst (λ (v : List ℕ). Marks (marked (replicate 100 0) (uses x)) v) (append-nil (uses x) ∙ uses-is x F) (marks_all (uses x) (replicate 100 0) [] marks_none) in
          let a : brought m x.section (marked (replicate 100 0) (uses x)) i ≡ map (line_from s) (closure (past m s i) (needs (row_in x))) =
          ap (λ (v : ℕ). brought m v (marked (replicate 100 0) (uses x)) i) y ∙ brought-is i (omega arith) (marked (replicate 100 0) (uses x)) (needs (row_in x)) M in
          let b : map (line_from x.section) (get_or (denying_rows (far_in m n x) (10 * x.section + 9) (row_in x)) j []) ≡ map (line_from s) (get_or (denying_rows (z (row_in x)) (10 * s + 9) (row_in x)) j []) =
          ap₂ (λ (v f : ℕ). map (line_from v) (get_or (denying_rows f (10 * v + 9) (row_in x)) j [])) y (is_far i h y) in
          ap₂ (λ (u v : List Line). u ++ v) a b ∙ sym (map-append (line_from s) (closure (past m s i) (needs (row_in x))) (get_or (denying_rows (z (row_in x)) (10 * s + 9) (row_in x)) j []))

      -- denial j of a row's and those of the rows after it
      step-hit : (ks : List Row) (x : Row) (ys : List (List Row)) (j : ℕ) → j < length (denying_rows (z x) (10 * s + 9) x)
          → get_or (map (λ d. closure ks (needs x) ++ d) (denying_rows (z x) (10 * s + 9) x) ++ ys) j [] ≡ closure ks (needs x) ++ get_or (denying_rows (z x) (10 * s + 9) x) j []
      step-hit ks x ys j h =
          let f : List Row → List Row = λ d. closure ks (needs x) ++ d in
          let D = denying_rows (z x) (10 * s + 9) x in
          let h' : j < length (map f D) = subst (λ (v : ℕ). j < v) (sym (length-map D f)) h in
          get_or-append (map f D) ys [] j h' ∙ get_d_default (map f D) j [] (f []) h' ∙ get_or-map f D j []

      step-on : (ks : List Row) (x : Row) (ys : List (List Row)) (j : ℕ) → length (denying_rows (z x) (10 * s + 9) x) ≤ j
          → get_or (map (λ d. closure ks (needs x) ++ d) (denying_rows (z x) (10 * s + 9) x) ++ ys) j [] ≡ get_or ys (j - length (denying_rows (z x) (10 * s + 9) x)) []
      step-on ks x ys j h =
          let f : List Row → List Row = λ d. closure ks (needs x) ++ d in
          let D = denying_rows (z x) (10 * s + 9) x in
          let e = length-map D f in
          get_or_right (map f D) ys j [] (subst (λ (v : ℕ). v ≤ j) (sym e) h) ∙ ap (λ (v : ℕ). get_or ys (j - v) []) e

      denial_is : (left i j : ℕ) → i + left ≤ n → denial_from m n s i left j ≡ map (line_from s) (get_or (denials z (10 * s + 9) (past m s i) (section s (lines_in m i left))) j [])
      unfolding denial_from denials section lines_in past weigh_line
      denial_is zero i j h = refl
      denial_is (suc left) i j h = go (eqb (line_in m i).section s) refl (λ j. denial_is left (suc i) j (omega arith))
        where
          go : (b : Bool) → eqb (line_in m i).section s ≡ b
              → ((j : ℕ) → denial_from m n s (suc i) left j ≡ map (line_from s) (get_or (denials z (10 * s + 9) (cond (eqb (line_in m i).section s) (row_in (line_in m i) ∷ past m s i) (past m s i)) (section s (lines_in m (suc i) left))) j []))
              → cond (ltb j (cond b (weight (line_in m i).kind (line_in m i).p (line_in m i).q) 0)) (denied m n i j) (denial_from m n s (suc i) left (j - cond b (weight (line_in m i).kind (line_in m i).p (line_in m i).q) 0))
              ≡ map (line_from s) (get_or (denials z (10 * s + 9) (past m s i) (cond b (row_in (line_in m i) ∷ section s (lines_in m (suc i) left)) (section s (lines_in m (suc i) left)))) j [])
          go false e f = rw (le-ltb j 0 (omega arith), sub-zero) (f j ∙ rw e)
          go true e f =
              let x = row_in (line_in m i) in
              let w = line-weight (z x) (10 * s + 9) (line_in m i) in
              is_line (ltb j (weight (line_in m i).kind (line_in m i).p (line_in m i).q)) refl w
            where
              is_line : (b : Bool) → ltb j (weight (line_in m i).kind (line_in m i).p (line_in m i).q) ≡ b
                  → length (denying_rows (z (row_in (line_in m i))) (10 * s + 9) (row_in (line_in m i))) ≡ weight (line_in m i).kind (line_in m i).p (line_in m i).q
                  → cond b (denied m n i j) (denial_from m n s (suc i) left (j - weight (line_in m i).kind (line_in m i).p (line_in m i).q))
                  ≡ map (line_from s) (get_or (denials z (10 * s + 9) (past m s i) (row_in (line_in m i) ∷ section s (lines_in m (suc i) left))) j [])
              is_line true t w =
                  let h' = subst (λ (v : ℕ). j < v) (sym w) (ltb-true j (weight (line_in m i).kind (line_in m i).p (line_in m i).q) t) in
                  denied-is i j (omega arith) (eqb-true (line_in m i).section s e) h'
                  ∙ ap (map (line_from s)) (sym (step-hit (past m s i) (row_in (line_in m i)) (denials z (10 * s + 9) (row_in (line_in m i) ∷ past m s i) (section s (lines_in m (suc i) left))) j h'))
              is_line false t w =
                  let h' = subst (λ (v : ℕ). v ≤ j) (sym w) (ltb-false j (weight (line_in m i).kind (line_in m i).p (line_in m i).q) t) in
                  f (j - weight (line_in m i).kind (line_in m i).p (line_in m i).q) ∙ rw (e, sym w) (ap (map (line_from s))
                  (sym (step-on (past m s i) (row_in (line_in m i)) (denials z (10 * s + 9) (row_in (line_in m i) ∷ past m s i) (section s (lines_in m (suc i) left))) j h')))

  front : (s : ℕ) (h : 1 ≤ s) (z : Row → ℕ) → ((i : ℕ) → i < n → (line_in m i).section ≡ s → far_in m n (line_in m i) ≡ z (row_in (line_in m i))) → (j : ℕ) → denial_from m n s 0 n j ≡ map (λ (r : Row). numbers_of (record { section = s; row = r })) (get_or (denials z (10 * s + 9) [] (section s (lines_in m 0 n))) j [])
  unfolding past line_from
  front s h z e j = denial_is s h z e n 0 j (omega arith)

  -- the antecedent's rows
  ante_is : (left i : ℕ) → i + left ≤ n → of_section 0 (lines_in m i left) ≡ map (line_from 0) (section 0 (lines_in m i left))
  unfolding of_section section lines_in
  ante_is zero i h = refl
  ante_is (suc left) i h = go (eqb (line_in m i).section 0) refl (ante_is left (suc i) (omega arith))
    where
      go : (b : Bool) → eqb (line_in m i).section 0 ≡ b → of_section 0 (lines_in m (suc i) left) ≡ map (line_from 0) (section 0 (lines_in m (suc i) left))
          → cond b (line_in m i ∷ of_section 0 (lines_in m (suc i) left)) (of_section 0 (lines_in m (suc i) left)) ≡ map (line_from 0) (cond b (row_in (line_in m i) ∷ section 0 (lines_in m (suc i) left)) (section 0 (lines_in m (suc i) left)))
      go true e f = ap₂ (λ (u : Line) (v : List Line). u ∷ v) (sym (line-back (line_in m i) 0 (fair i (omega arith)) (eqb-true (line_in m i).section 0 e))) f
      go false e f = f

  -- of a sheet that is read
  module _ (k : ℕ) (R : SheetRead (sheet_of k (lines_in m 0 n))) where
    abbrev antecedent_rows : List Row
    antecedent_rows = section 0 (lines_in m 0 n)

    sheet_far : (s : ℕ) → 1 ≤ s → s ≤ k → (i : ℕ) → i < n → (line_in m i).section ≡ s → far_in m n (line_in m i) ≡ far_end antecedent_rows (section s (lines_in m 0 n)) (row_in (line_in m i))
    unfolding sheet_of
    sheet_far s h u i b y =
        let W = rows-within (length (points antecedent_rows)) s 0 (section s (lines_in m 0 n)) (omega arith) (section-read (length (points antecedent_rows)) (lines_in m 0 n) k 1 R.consequents s h (omega arith)) in
        far_is m n s h R.numbers R.few R.uses W (line_in m i) y (row_in_lem (Within (length (points antecedent_rows)) s) m s n 0 W i (omega arith) (omega arith) y)

    -- one denial of each section
    chosen_is : (left s j : ℕ) → 1 ≤ s → s + left ≤ k + 1
        → chosen_from m n s left j ≡ map numbers_of (tagged s (choose [] (choices (far_end antecedent_rows) s (sections s left (lines_in m 0 n))) j))
    unfolding chosen_from tagged choose choices sections
    chosen_is zero s j h u = refl
    chosen_is (suc left) s j h u =
        let ls = lines_in m 0 n in
        let T = total (choices (far_end antecedent_rows) (suc s) (sections (suc s) left ls)) in
        let t : product (suc s) left ls ≡ T = sym (choices-product (far_end antecedent_rows) ls left (suc s)) in
        let d = get_or (denials (far_end antecedent_rows (section s ls)) (10 * s + 9) [] (section s ls)) (j / T) [] in
        let rest = tagged (suc s) (choose [] (choices (far_end antecedent_rows) (suc s) (sections (suc s) left ls)) (j % T)) in
        let tag : Row → Tagged = λ r. record { section = s; row = r } in
        let a : denial_from m n s 0 n (j / product (suc s) left ls) ≡ map numbers_of (map tag d) =
        ap (λ (v : ℕ). denial_from m n s 0 n (j / v)) t ∙ front s h (far_end antecedent_rows (section s ls)) (sheet_far s h (omega arith)) (j / T) ∙ sym (map-map numbers_of tag d) in
        let b : chosen_from m n (suc s) left (j % product (suc s) left ls) ≡ map numbers_of rest =
        ap (λ (v : ℕ). chosen_from m n (suc s) left (j % v)) t ∙ chosen_is left (suc s) (j % T) (omega arith) (omega arith) in
        ap₂ (λ (u v : List Line). u ++ v) a b ∙ sym (map-append numbers_of (map tag d) rest)

    -- THE THEOREM: what is built is the antiscenario
    pub built-is : (number : ℕ) → built m n k (number - 1) ≡ map numbers_of (written (sheet_of k (lines_in m 0 n)) number)
    unfolding built written tagged chosen sheet_of line_from
    built-is number =
        let ls = lines_in m 0 n in
        let tag : Row → Tagged = λ r. record { section = 0; row = r } in
        let rest = tagged 1 (choose [] (choices (far_end antecedent_rows) 1 (sections 1 k ls)) (number - 1)) in
        ap₂ (λ (u v : List Line). u ++ v) (ante_is n 0 (omega arith) ∙ sym (map-map numbers_of tag (section 0 ls))) (chosen_is k 1 (number - 1) (omega arith) (omega arith))
        ∙ sym (map-append numbers_of (map tag (section 0 ls)) rest)
