-- Rows that are accepted one after another make a sheet that demand 3 asks for. Carried by where the reading stands: its numbers are the points introduced.
-- Assumes nothing.
use mathlib.Core.Path.{◌≡◌, refl, sym, ap, ap₂, ◌∙◌, subst}
use mathlib.Core.Bool.{Bool, true, false, ◌&&◌, cond}
use mathlib.Core.List.{List, [], ◌∷◌, ◌++◌}
use Prim.Native.Nat.{ℕ, zero, suc, ◌+◌, ◌*◌, ◌≤◌, ◌<◌}
use native.Mathlib.Omega.{arith}
use lib.ListN.{length, length-append}
use lib.Dec.{eqb, leb}
use borrow.Author.Tests.{eqb-true, leb-true, eq-eqb, ne_eqb}
use Rattle.scenario.specs.Rows.{Row, introduced, needs, points}
use Rattle.scenario.specs.Fields.{row_of}
use Rattle.scenario.specs.Reading.{All, Seen, first, final, antecedent as seen-antecedent, own as seen-own, Counted, RowRead, RowsRead, SectionsRead, SheetRead}
use Rattle.scenario.proofs.Base.{all_map, Order, lower, level, upper, order}
use Rattle.scenario.proofs.Reading.{short}
use Rattle.row.specs.declared.Line.{Line}
use Rattle.rules.specs.declared.Stand.{Stand}
use Rattle.rules.specs.Rules.{stand, start, enter, advance, section_fits, kind_fits, p_fits, q_fits, rest_fits, room_fits, unless, refusal_within, refusal}
use Rattle.sheet.specs.Reading.{after, section, sections, sheet_of}
use Rattle.row.specs.Row.{row_in}
use Rattle.sheet.specs.Text.{Fits}
use Rattle.sheet.proofs.Points.{both_true, AnteRow, ante_row, cons_row, cons_next, ante_next}

-- What a row that is not refused has passed

unless_0 : (b : Bool) (n r : ℕ) → unless b (suc n) r ≡ 0 → (b ≡ true) × (r ≡ 0)
unless_0 true n r e = (refl, e)
unless_0 false n r e = absurd (omega arith)

pub record Passes (k : ℕ) (at : Stand) (l : Line) : Type 0 where
  pub low : at.section ≤ l.section
  pub top : l.section ≤ k
  pub kind : kind_fits l.section l.kind ≡ true
  pub p : p_fits l.kind l.section (enter at l.section).antecedent (enter at l.section).own l.p ≡ true
  pub q : q_fits l.kind l.section (enter at l.section).antecedent (enter at l.section).own l.p l.q l.a ≡ true
  pub rest : rest_fits l.kind l.q l.a l.b ≡ true
  pub room : room_fits l.section (enter at l.section).rows ≡ true

pub passes : (k : ℕ) (at : Stand) (l : Line) → refusal k at l ≡ 0 → Passes k at l
unfolding refusal refusal_within section_fits
passes k at l e =
    let s = unless_0 _ 4 _ e in
    let b = both_true (leb at.section l.section) (leb l.section k) s.0 in
    let t = unless_0 _ 5 _ s.1 in
    let u = unless_0 _ 6 _ t.1 in
    let v = unless_0 _ 7 _ u.1 in
    let w = unless_0 _ 8 _ v.1 in
    let x = unless_0 _ 9 _ w.1 in
    record { low = leb-true _ _ b.0; top = leb-true _ _ b.1; kind = t.0; p = u.0; q = v.0; rest = w.0; room = x.0 }

-- Where the reading stands

if_section : (b : Bool) (x y : Stand) (s : ℕ) → (b ≡ true → x.section ≡ s) → y.section ≡ s → (cond b x y).section ≡ s
if_section true x y s f g = f refl
if_section false x y s f g = g

enter-section : (at : Stand) (s : ℕ) → (enter at s).section ≡ s
unfolding enter
enter-section at s = if_section (eqb at.section s) at (stand s 0 at.antecedent 0) s (λ e. eqb-true at.section s e) refl

pub enter_ante : (at : Stand) (s : ℕ) → (enter at s).antecedent ≡ at.antecedent
unfolding enter
enter_ante at s = go (eqb at.section s)
  where
    go : (b : Bool) → (cond b at (stand s 0 at.antecedent 0)).antecedent ≡ at.antecedent
    go true = refl
    go false = refl

pub enter-same : (at : Stand) (s : ℕ) → at.section ≡ s → enter at s ≡ at
unfolding enter
enter-same at s e = simp (eq-eqb at.section s e)

pub enter-new : (at : Stand) (s : ℕ) → (at.section ≡ s → ⊥) → (enter at s).own ≡ 0
unfolding enter
enter-new at s e = simp (ne_eqb at.section s e)

advance-section : (at : Stand) (k : ℕ) → (advance at k).section ≡ at.section
unfolding advance
advance-section at k = go (eqb k 1) (leb 2 k && leb k 5)
  where
    go : (b c : Bool) → (cond b (stand at.section (at.rows + 1) (at.antecedent + 1) at.own)
        (cond c (stand at.section (at.rows + 1) at.antecedent (at.own + 1)) (stand at.section (at.rows + 1) at.antecedent at.own))).section ≡ at.section
    go true c = refl
    go false true = refl
    go false false = refl

pub after-section : (at : Stand) (l : Line) → (after at l).section ≡ l.section
unfolding after
after-section at l = advance-section (enter at l.section) l.kind ∙ enter-section at l.section

-- Bounds that the reading keeps
pub record Fair (at : Stand) : Type 0 where
  pub antecedent : at.antecedent ≤ 4
  pub own : at.own ≤ 8
  pub none : at.section ≡ 0 → at.own ≡ 0

pub enter-own : (at : Stand) (s : ℕ) → at.own ≤ 8 → (enter at s).own ≤ 8
unfolding enter
enter-own at s h = go (eqb at.section s)
  where
    go : (b : Bool) → (cond b at (stand s 0 at.antecedent 0)).own ≤ 8
    go true = h
    go false = omega arith

short-due : (b n m : ℕ) (l : List ℕ) → length l ≤ 1 → n ≤ m → All (λ (p : ℕ). (p ≡ b + n + 1) × (n < m)) l → length l + n ≤ m
short-due b n m [] s h d = omega arith
short-due b n m (p ∷ []) s h d = omega (arith, d.0.1)
short-due b n m (p ∷ q ∷ l) s h d = absurd (omega arith)

-- An accepted row of the antecedent
module _ (k : ℕ) (at : Stand) (l : Line) (P : Passes k at l) (z : l.section ≡ 0) where
  here_0 : at.section ≡ 0
  here_0 = omega (arith, P.low)

  enter_0 : enter at l.section ≡ at
  enter_0 = enter-same at l.section (here_0 ∙ sym z)

  kind_0 : kind_fits 0 l.kind ≡ true
  kind_0 = ap (λ (s : ℕ). kind_fits s l.kind) (sym z) ∙ P.kind

  module _ (F : Fair at) where
    ante_line : AnteRow at.antecedent (row_in l)
    unfolding row_in
    ante_line =
        ante_row at.antecedent l.p l.q l.a l.b l.kind kind_0
        (sym (ap₂ (λ (s : ℕ) (h : Stand). p_fits l.kind s h.antecedent h.own l.p) z enter_0 ∙ ap (λ (o : ℕ). p_fits l.kind 0 at.antecedent o l.p) (F.none here_0)) ∙ P.p)
        (sym (ap₂ (λ (s : ℕ) (h : Stand). q_fits l.kind s h.antecedent h.own l.p l.q l.a) z enter_0 ∙ ap (λ (o : ℕ). q_fits l.kind 0 at.antecedent o l.p l.q l.a) (F.none here_0)) ∙ P.q)

  pub ante_after : (after at l).antecedent ≡ length (introduced (row_in l)) + at.antecedent
  unfolding after row_in
  ante_after = ap (λ (h : Stand). (advance h l.kind).antecedent) enter_0 ∙ (ante_next at l.p l.q l.a l.b l.kind kind_0).0

  ante_own : (after at l).own ≡ at.own
  unfolding after
  ante_own = ap (λ (h : Stand). (advance h l.kind).own) enter_0 ∙ (ante_next at l.p l.q l.a l.b l.kind kind_0).1

-- An accepted row of a consequent
module _ (k : ℕ) (k6 : k ≤ 6) (at : Stand) (l : Line) (P : Passes k at l) (s1 : 1 ≤ l.section) where
  module _ (F : Fair at) (fits : Fits l) where
    cons_line : RowRead at.antecedent l.section (enter at l.section).own (row_in l)
    unfolding row_in
    cons_line =
        subst (λ (a : ℕ). RowRead a l.section (enter at l.section).own (row_of l.kind l.p l.q l.a l.b)) (enter_ante at l.section)
        (cons_row l.section (enter at l.section).antecedent (enter at l.section).own s1 (omega (arith, P.top)) (omega (arith, enter_ante at l.section, F.antecedent))
        (enter-own at l.section F.own) l.p l.q l.a l.b fits.a fits.b l.kind P.kind P.p P.q)

  pub cons_ante : (after at l).antecedent ≡ at.antecedent
  unfolding after
  cons_ante = (cons_next (enter at l.section) l.p l.q l.a l.b l.section s1 l.kind P.kind).0 ∙ enter_ante at l.section

  pub cons_own : (after at l).own ≡ length (introduced (row_in l)) + (enter at l.section).own
  unfolding after row_in
  cons_own = (cons_next (enter at l.section) l.p l.q l.a l.b l.section s1 l.kind P.kind).1

-- the bounds are kept
module _ (k : ℕ) (k6 : k ≤ 6) (at : Stand) (l : Line) (P : Passes k at l) (F : Fair at) (fits : Fits l) where
  pub fair_after : Fair (after at l)
  fair_after = go (order l.section 0)
    where
      go : Order l.section 0 → Fair (after at l)
      go (lower h) = absurd (omega arith)
      go (level z) =
          let d = short-due 0 at.antecedent 4 (introduced (row_in l)) (short (row_in l)) F.antecedent (all_map (λ p w. (omega (arith, w.0), w.1)) (introduced (row_in l)) (ante_line k at l P z F).due) in
          record {
            antecedent = omega (arith, ante_after k at l P z, d);
            own = omega (arith, ante_own k at l P z, F.own);
            none = λ e. ante_own k at l P z ∙ F.none (here_0 k at l P z);
          }
      go (upper h) =
          let d = short-due (10 * l.section) (enter at l.section).own 8 (introduced (row_in l)) (short (row_in l)) (enter-own at l.section F.own) (cons_line k k6 at l P h F fits).due in
          record {
            antecedent = omega (arith, cons_ante k k6 at l P h, F.antecedent);
            own = omega (arith, cons_own k k6 at l P h, d);
            none = λ e. absurd (omega (arith, after-section at l));
          }

-- Rows that are accepted one after another, their numbers in columns
abbrev pub Accepted : ℕ → Stand → List Line → Type 0
Accepted k at [] = Unit {0}
Accepted k at (l ∷ ls) = (refusal k at l ≡ 0) × (Fits l × Accepted k (after at l) ls)

pub in_columns : (k : ℕ) (at : Stand) (ls : List Line) → Accepted k at ls → All Fits ls
in_columns k at [] A = tt
in_columns k at (l ∷ ls) A = (A.1.0, in_columns k (after at l) ls A.1.1)

-- a section of rows: one row more
pub section_in : (i : ℕ) (l : Line) (ls : List Line) → l.section ≡ i → section i (l ∷ ls) ≡ row_in l ∷ section i ls
unfolding section
section_in i l ls e = simp (eq-eqb l.section i e)

pub section-out : (i : ℕ) (l : Line) (ls : List Line) → (l.section ≡ i → ⊥) → section i (l ∷ ls) ≡ section i ls
unfolding section
section-out i l ls e = simp (ne_eqb l.section i e)

-- a section that is passed has no more rows
pub passed : (k i : ℕ) (ls : List Line) (at : Stand) → Accepted k at ls → i < at.section → section i ls ≡ []
unfolding section
passed k i [] at A h = refl
passed k i (l ∷ ls) at A h =
    let P = passes k at l A.0 in
    section-out i l ls (λ e. omega (arith, P.low)) ∙ passed k i ls (after at l) A.1.1 (omega (arith, P.low, after-section at l))

-- how many points the antecedent has in the end
abbrev ends : Stand → List Line → ℕ
ends at ls = at.antecedent + length (points (section 0 ls))

ends-step : (k : ℕ) (k6 : k ≤ 6) (at : Stand) (l : Line) (ls : List Line) → Passes k at l → ends (after at l) ls ≡ ends at (l ∷ ls)
unfolding points
ends-step k k6 at l ls P = go (order l.section 0)
  where
    go : Order l.section 0 → ends (after at l) ls ≡ ends at (l ∷ ls)
    go (lower h) = absurd (omega arith)
    go (level z) = rw (section_in 0 l ls z) (omega (arith, ante_after k at l P z, length-append (introduced (row_in l)) (points (section 0 ls))))
    go (upper h) = rw (section-out 0 l ls (λ e. omega arith), cons_ante k k6 at l P h)

-- a consequent's rows
module _ (k : ℕ) (k6 : k ≤ 6) (a i : ℕ) (i1 : 1 ≤ i) where
  module _ (l : Line) (ls : List Line) (at : Stand) (F : Fair at) (A : Accepted k at (l ∷ ls)) (e : ends at (l ∷ ls) ≡ a) (h : at.section ≤ i) where
    P : Passes k at l
    P = passes k at l A.0

    -- the antecedent is passed, so that all its points are there
    ante_all : l.section ≡ i → at.antecedent ≡ a
    unfolding points
    ante_all z =
        let n : section 0 (l ∷ ls) ≡ [] = section-out 0 l ls (λ q. omega arith) ∙ passed k 0 ls (after at l) A.1.1 (omega (arith, after-section at l)) in
        omega (arith, e, ap (λ (rs : List Row). length (points rs)) n)

    cons_step : ((after at l).section ≤ i → RowsRead a i (enter (after at l) i).own (section i ls)) → RowsRead a i (enter at i).own (section i (l ∷ ls))
    cons_step r = go (order l.section i)
      where
        go : Order l.section i → RowsRead a i (enter at i).own (section i (l ∷ ls))
        go (lower x) =
            subst (λ (rs : List Row). RowsRead a i (enter at i).own rs) (sym (section-out i l ls (λ q. omega arith)))
            (subst (λ (c : ℕ). RowsRead a i c (section i ls))
            (enter-new (after at l) i (λ q. omega (arith, after-section at l)) ∙ sym (enter-new at i (λ q. omega (arith, P.low))))
            (r (omega (arith, after-section at l))))
        go (level z) =
            subst (λ (rs : List Row). RowsRead a i (enter at i).own rs) (sym (section_in i l ls z)) (
              subst (λ (b : ℕ). RowRead b i (enter at i).own (row_in l)) (ante_all z)
                  (subst (λ (s : ℕ). RowRead at.antecedent s (enter at s).own (row_in l)) z (cons_line k k6 at l P (omega arith) F A.1.0)),
              subst (λ (c : ℕ). RowsRead a i c (section i ls))
                  (ap (λ (x : Stand). x.own) (enter-same (after at l) i (after-section at l ∙ z)) ∙ cons_own k k6 at l P (omega arith)
                  ∙ ap (λ (s : ℕ). length (introduced (row_in l)) + (enter at s).own) z)
                  (r (omega (arith, after-section at l))),
            )
        go (upper x) =
            subst (λ (rs : List Row). RowsRead a i (enter at i).own rs)
            (sym (section-out i l ls (λ q. omega arith) ∙ passed k i ls (after at l) A.1.1 (omega (arith, after-section at l)))) tt

  cons_rows : (ls : List Line) (at : Stand) → Fair at → Accepted k at ls → ends at ls ≡ a → at.section ≤ i → RowsRead a i (enter at i).own (section i ls)
  unfolding section
  cons_rows [] at F A e h = tt
  cons_rows (l ∷ ls) at F A e h =
      let P = passes k at l A.0 in
      cons_step l ls at F A e h (λ x. cons_rows ls (after at l) (fair_after k k6 at l P F A.1.0) A.1.1 (ends-step k k6 at l ls P ∙ e) x)

-- the antecedent's rows
counted-more : (a : ℕ) (l ps : List ℕ) → length l ≤ 1 → All (λ (p : ℕ). (p ≡ a + 1) × (a < 4)) l → Counted (length l + a) ps → Counted a (l ++ ps)
counted-more a [] ps s d c = let e : length {A = ℕ} [] + a ≡ a = omega arith in (rw e at c)
counted-more a (p ∷ []) ps s d c = let e : length {A = ℕ} (p ∷ []) + a ≡ suc a = omega arith in (omega (arith, d.0.0), (rw e at c))
counted-more a (p ∷ q ∷ l) ps s d c = absurd (omega arith)

seen_more : (a b m : ℕ) → a ≤ b → Seen a 0 0 m → Seen b 0 0 m
seen_more a b m h (first e) = first e
seen_more a b m h (final e) = final e
seen_more a b m h (seen-antecedent x y) = seen-antecedent x (omega arith)
seen_more a b m h (seen-own x y) = absurd (omega arith)

pub record AnteRead (a b : ℕ) (rs : List Row) : Type 0 where
  pub numbers : Counted a (points rs)
  pub few : a + length (points rs) ≤ 4
  pub uses : All (λ (k : Row). All (Seen b 0 0) (needs k)) rs

ante_none : (a b : ℕ) → a ≤ 4 → AnteRead a b []
unfolding points
ante_none a b h = record { numbers = tt; few = omega arith; uses = tt }

ante_more : (a b : ℕ) (r : Row) (rs : List Row) → a ≤ b → AnteRow a r → AnteRead (length (introduced r) + a) b rs → AnteRead a b (r ∷ rs)
unfolding points
ante_more a b r rs h o A = record {
  numbers = counted-more a (introduced r) (points rs) (short r) o.due A.numbers;
  few = omega (arith, A.few, length-append (introduced r) (points rs));
  uses = (all_map (λ m x. seen_more a b m h x) (needs r) o.known, A.uses);
}

module _ (k : ℕ) (k6 : k ≤ 6) (b : ℕ) where
  antecedent_rows : (ls : List Line) (at : Stand) → Fair at → Accepted k at ls → ends at ls ≡ b → AnteRead at.antecedent b (section 0 ls)
  unfolding section
  antecedent_rows [] at F A e = ante_none at.antecedent b F.antecedent
  antecedent_rows (l ∷ ls) at F A e =
      let P = passes k at l A.0 in
      step (order l.section 0) P (antecedent_rows ls (after at l) (fair_after k k6 at l P F A.1.0) A.1.1 (ends-step k k6 at l ls P ∙ e))
    where
      step : Order l.section 0 → Passes k at l → AnteRead (after at l).antecedent b (section 0 ls) → AnteRead at.antecedent b (section 0 (l ∷ ls))
      step (lower h) P R = absurd (omega arith)
      step (level z) P R =
          subst (AnteRead at.antecedent b) (sym (section_in 0 l ls z))
          (ante_more at.antecedent b (row_in l) (section 0 ls) (omega (arith, e)) (ante_line k at l P z F)
          (subst (λ (n : ℕ). AnteRead n b (section 0 ls)) (ante_after k at l P z) R))
      step (upper h) P R =
          subst (AnteRead at.antecedent b) (sym (section-out 0 l ls (λ q. omega arith) ∙ passed k 0 ls (after at l) A.1.1 (omega (arith, after-section at l))))
          (ante_none at.antecedent b F.antecedent)

-- all sections
pub fair_start : Fair start
fair_start = record { antecedent = omega arith; own = omega arith; none = λ e. refl }

pub start-own : (i : ℕ) → (enter start i).own ≡ 0
unfolding enter
start-own i = go (eqb 0 i)
  where
    go : (b : Bool) → (cond b start (stand i 0 0 0)).own ≡ 0
    go true = refl
    go false = refl

pub sections-length : (ls : List Line) (left i : ℕ) → length (sections i left ls) ≡ left
unfolding sections
sections-length ls zero i = refl
sections-length ls (suc left) i = ap suc (sections-length ls left (suc i))

module _ (k : ℕ) (k6 : k ≤ 6) (ls : List Line) (A : Accepted k start ls) where
  all-sections : (left i : ℕ) → 1 ≤ i → SectionsRead (ends start ls) i (sections i left ls)
  unfolding sections
  all-sections zero i h = tt
  all-sections (suc left) i h = (
    subst (λ (c : ℕ). RowsRead (ends start ls) i c (section i ls)) (start-own i) (cons_rows k k6 (ends start ls) i h ls start fair_start A refl (omega arith)),
    all-sections left (suc i) (omega arith),
  )

  -- an accepted sheet is what demand 3's theorem asks for
  pub sheet_read : SheetRead (sheet_of k ls)
  unfolding sheet_of
  sheet_read =
      let R = antecedent_rows k k6 (ends start ls) ls start fair_start A refl in
      let e : ends start ls ≡ length (points (section 0 ls)) = omega arith in
      record {
        numbers = R.numbers;
        few = omega (arith, R.few);
        uses = subst (λ (n : ℕ). All (λ (x : Row). All (Seen n 0 0) (needs x)) (section 0 ls)) e R.uses;
        consequents = subst (λ (n : ℕ). SectionsRead n 1 (sections 1 k ls)) e (all-sections k 1 (omega arith));
        count = omega (arith, sections-length ls k 1);
      }
