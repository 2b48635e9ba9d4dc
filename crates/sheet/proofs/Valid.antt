-- Reading accepts exactly the texts of valid sheets: rows that are accepted one after another are valid by the rows before them, and the other way round.
-- Carried by Stands: the reading stands where the rows before say, by what they introduce.
-- Assumes nothing.
use mathlib.Core.Path.{◌≡◌, refl, sym, ap, ap₂, ◌∙◌, subst}
use mathlib.Core.Logic.{◌↔◌}
use mathlib.Core.Bool.{Bool, true, false, cond}
use mathlib.Core.List.{List, [], ◌∷◌, ◌++◌, map, append_assoc, append-nil}
use Prim.Native.Nat.{ℕ, zero, suc, ◌+◌, ◌*◌, ◌≤◌, ◌<◌}
use native.Mathlib.Omega.{arith}
use lib.ListN.{length, length-append, length-map}
use lib.Dec.{eqb, ltb}
use borrow.Author.Tests.{eq-eqb, ne_eqb, le-leb, lt-ltb}
use Rattle.scenario.specs.Rows.{Row, introduced, points}
use Rattle.scenario.specs.Fields.{Tagged}
use Rattle.scenario.specs.Sheet.{Sheet, count}
use Rattle.scenario.specs.Reading.{Counted}
use Rattle.scenario.proofs.Base.{Order, lower, level, upper, order}
use Rattle.scenario.proofs.Glue.{points_append}
use Rattle.scenario.proofs.Numbers.{decode-fields}
use Rattle.sheet.specs.Reading.{Answer}
use Rattle.row.specs.declared.Line.{Line}
use Rattle.rules.specs.declared.Stand.{Stand}
use Rattle.rules.specs.Rules.{start, enter, section_fits, room_fits, refusal_within, refusal}
use Rattle.sheet.specs.Reading.{after, section, sections, sheet_of, taken, accepted, answer, sheet_in}
use Rattle.row.specs.Row.{row_in}
use Rattle.sheet.specs.Text.{Fits, numbers_of, sheet_text}
use Rattle.sheet.specs.Valid.{rows_of, sections_of, sheet_from, preceding, Permitted, ValidRow, ValidSheet, rows_spelt, ValidText}
use Rattle.sheet.proofs.Accepted.{Passes, passes, enter_ante, enter-new, enter-own, enter-same, after-section, Fair, ante_after, cons_ante, cons_own, fair_after, fair_start, start-own, Accepted}
use Rattle.sheet.proofs.Room.{enter_no_rows, start_no_rows, after-rows, antecedent-room, consequent-room}
use Rattle.sheet.proofs.Theorems.{tag, accepted-sheet, accepted-rows}
use Rattle.sheet.proofs.OneText.{Acceptable, lines_from-tags, text-read}
use Rattle.sheet.proofs.Permits.{Found, tested, permitted, fitting, still_counted}

-- Rows, and their lines

pub row_of : (t : Tagged) → row_in (numbers_of t) ≡ t.row
unfolding row_in numbers_of
row_of t = decode-fields t.row

pub rows_append : (i : ℕ) (a b : List Tagged) → rows_of i (a ++ b) ≡ rows_of i a ++ rows_of i b
unfolding rows_of
rows_append i [] b = refl
rows_append i (t ∷ a) b = go (eqb t.section i) (rows_append i a b)
  where
    go : (x : Bool) → rows_of i (a ++ b) ≡ rows_of i a ++ rows_of i b
        → cond x (t.row ∷ rows_of i (a ++ b)) (rows_of i (a ++ b)) ≡ cond x (t.row ∷ rows_of i a) (rows_of i a) ++ rows_of i b
    go true e = ap (λ (rs : List Row). t.row ∷ rs) e
    go false e = e

module _ (i : ℕ) (front : List Tagged) (t : Tagged) where
  rows_in : t.section ≡ i → rows_of i (front ++ (t ∷ [])) ≡ rows_of i front ++ (t.row ∷ [])
  unfolding rows_of
  rows_in e = rows_append i front (t ∷ []) ∙ simp (eq-eqb t.section i e)

  rows_out : (t.section ≡ i → ⊥) → rows_of i (front ++ (t ∷ [])) ≡ rows_of i front
  unfolding rows_of
  rows_out n = rows_append i front (t ∷ []) ∙ simp (ne_eqb t.section i n) (append-nil (rows_of i front))

  points_in_lem : t.section ≡ i → points (rows_of i (front ++ (t ∷ []))) ≡ points (rows_of i front) ++ introduced t.row
  unfolding points
  points_in_lem e = ap points (rows_in e) ∙ points_append (rows_of i front) (t.row ∷ []) ∙ ap (λ (ps : List ℕ). points (rows_of i front) ++ ps) (append-nil (introduced t.row))

-- lines of rows with their sections, section by section
section-rows : (i : ℕ) (ts : List Tagged) → section i (map numbers_of ts) ≡ rows_of i ts
unfolding section rows_of numbers_of
section-rows i [] = refl
section-rows i (t ∷ ts) = ap₂ (λ (r : Row) (rs : List Row). cond (eqb t.section i) (r ∷ rs) rs) (row_of t) (section-rows i ts)

sections-rows : (ts : List Tagged) (left i : ℕ) → sections i left (map numbers_of ts) ≡ sections_of i left ts
unfolding sections sections_of
sections-rows ts zero i = refl
sections-rows ts (suc left) i = ap₂ (λ (c : List Row) (cs : List (List Row)). c ∷ cs) (section-rows i ts) (sections-rows ts left (suc i))

sheet-rows : (k : ℕ) (ts : List Tagged) → sheet_of k (map numbers_of ts) ≡ sheet_from k ts
unfolding sheet_of sheet_from
sheet-rows k ts = ap₂ (λ (c : List Row) (cs : List (List Row)). record { antecedent = c; consequents = cs }) (section-rows 0 ts) (sections-rows ts k 1)

preceding-last : (s : ℕ) (front : List Tagged) (t : Tagged) → preceding s (front ++ (t ∷ [])) ≡ t.section
unfolding preceding
preceding-last s [] t = refl
preceding-last s (u ∷ front) t = preceding-last u.section front t

-- Where the reading stands, by the rows before
record Stands (front : List Tagged) (at : Stand) : Type 0 where
  section : preceding 0 front ≡ at.section
  antecedent : at.antecedent ≡ length (points (rows_of 0 front))
  own : (i : ℕ) → at.section ≤ i → 1 ≤ i → (enter at i).own ≡ length (points (rows_of i front))
  rows : (i : ℕ) → at.section ≤ i → (enter at i).rows ≡ length (rows_of i front)
  counted : (i : ℕ) → Counted (10 * i) (points (rows_of i front))
  fair : Fair at

stands_start : Stands [] start
unfolding preceding rows_of points
stands_start = record { section = refl; antecedent = refl; own = λ i h g. start-own i; rows = λ i h. start_no_rows i; counted = λ i. tt; fair = fair_start }

-- A row of section i, where the reading stands at the rows before it
module _ (k : ℕ) (k6 : k ≤ 6) (front : List Tagged) (at : Stand) (S : Stands front at) where
  finds : (i : ℕ) → at.section ≤ i → i ≤ k → Found front i (enter at i).antecedent (enter at i).own
  finds i h g = record {
    low = omega arith;
    antecedent = enter_ante at i ∙ S.antecedent;
    own = λ x. S.own i h x;
    none = λ z. ap (λ (q : Stand). q.own) (enter-same at i (omega arith)) ∙ S.fair.none (omega arith);
    few = omega (arith, enter_ante at i, S.fair.antecedent);
    few-own = enter-own at i S.fair.own;
    counted-antecedent = S.counted 0;
    counted = S.counted i;
  }

  module _ (t : Tagged) where
    -- what is said of the row gives the tests, and room is left in its section
    row-passes : ValidRow k front t → room_fits t.section (length (rows_of t.section front)) ≡ true → Passes k at (numbers_of t)
    unfolding numbers_of
    row-passes W room =
        let h : at.section ≤ t.section = omega (arith, W.order, S.section) in
        let T = tested front t.section (enter at t.section).antecedent (enter at t.section).own (finds t.section h W.top) t.row W.permitted in
        record {
          low = h;
          top = W.top;
          kind = T.kind;
          p = T.p;
          q = T.q;
          rest = T.rest;
          room = ap (room_fits t.section) (S.rows t.section h) ∙ room;
        }

    row_fits : ValidRow k front t → Fits (numbers_of t)
    row_fits W =
        let h : at.section ≤ t.section = omega (arith, W.order, S.section) in
        fitting front t.section (enter at t.section).antecedent (enter at t.section).own (finds t.section h W.top) t.row W.permitted

    row-valid : Passes k at (numbers_of t) → Fits (numbers_of t) → ValidRow k front t
    unfolding numbers_of
    row-valid P N = record {
      top = P.top;
      order = omega (arith, P.low, S.section);
      permitted = permitted front t.section (enter at t.section).antecedent (enter at t.section).own (finds t.section P.low P.top) t.row N
          (record { kind = P.kind; p = P.p; q = P.q; rest = P.rest });
    }

    -- one row further
    module _ (P : Passes k at (numbers_of t)) (N : Fits (numbers_of t)) where
      abbrev next : Stand
      next = after at (numbers_of t)

      next-section : next.section ≡ t.section
      unfolding numbers_of
      next-section = after-section at (numbers_of t)

      one_more : length (introduced (row_in (numbers_of t))) ≡ length (introduced t.row)
      one_more = ap (λ (r : Row). length (introduced r)) (row_of t)

      introduced-more : (i : ℕ) → t.section ≡ i → length (points (rows_of i (front ++ (t ∷ [])))) ≡ length (introduced t.row) + length (points (rows_of i front))
      introduced-more i e = ap length (points_in_lem i front t e) ∙ omega (arith, length-append (points (rows_of i front)) (introduced t.row))

      next-antecedent : next.antecedent ≡ length (points (rows_of 0 (front ++ (t ∷ []))))
      unfolding numbers_of
      next-antecedent = go (order t.section 0)
        where
          go : Order t.section 0 → next.antecedent ≡ length (points (rows_of 0 (front ++ (t ∷ []))))
          go (lower h) = absurd (omega arith)
          go (level z) = omega (arith, ante_after k at (numbers_of t) P z, one_more, introduced-more 0 z, S.antecedent)
          go (upper h) = cons_ante k k6 at (numbers_of t) P h ∙ S.antecedent ∙ ap (λ (rs : List Row). length (points rs)) (sym (rows_out 0 front t (λ z. omega arith)))

      next-own : (i : ℕ) → next.section ≤ i → 1 ≤ i → (enter next i).own ≡ length (points (rows_of i (front ++ (t ∷ []))))
      unfolding numbers_of
      next-own i h g = go (order t.section i)
        where
          go : Order t.section i → (enter next i).own ≡ length (points (rows_of i (front ++ (t ∷ []))))
          go (lower x) =
              enter-new next i (λ e. omega (arith, next-section)) ∙ sym (enter-new at i (λ e. omega (arith, P.low))) ∙ S.own i (omega (arith, P.low)) g
              ∙ ap (λ (rs : List Row). length (points rs)) (sym (rows_out i front t (λ e. omega arith)))
          go (level e) =
              ap (λ (q : Stand). q.own) (enter-same next i (next-section ∙ e))
              ∙ omega (arith, cons_own k k6 at (numbers_of t) P (omega arith), one_more, introduced-more i e, ap (λ (j : ℕ). (enter at j).own) e, S.own i (omega (arith, P.low)) g)
          go (upper x) = absurd (omega (arith, next-section))

      next-rows : (i : ℕ) → next.section ≤ i → (enter next i).rows ≡ length (rows_of i (front ++ (t ∷ [])))
      unfolding numbers_of
      next-rows i h = go (order t.section i)
        where
          go : Order t.section i → (enter next i).rows ≡ length (rows_of i (front ++ (t ∷ [])))
          go (lower x) =
              enter_no_rows next i (λ e. omega (arith, next-section)) ∙ sym (enter_no_rows at i (λ e. omega (arith, P.low))) ∙ S.rows i (omega (arith, P.low))
              ∙ ap length (sym (rows_out i front t (λ e. omega arith)))
          go (level e) =
              ap (λ (q : Stand). q.rows) (enter-same next i (next-section ∙ e))
              ∙ omega (arith, after-rows at (numbers_of t), ap (λ (j : ℕ). (enter at j).rows) e, S.rows i (omega (arith, P.low)), ap length (rows_in i front t e), length-append (rows_of i front) (t.row ∷ []))
          go (upper x) = absurd (omega (arith, next-section))

      next-counted : (i : ℕ) → Counted (10 * i) (points (rows_of i (front ++ (t ∷ []))))
      unfolding numbers_of
      next-counted i = go (order t.section i)
        where
          same-section : (e : t.section ≡ i) → Counted (10 * i) (points (rows_of i (front ++ (t ∷ []))))
          same-section e =
              let Q : Permitted front i t.row = subst (λ (j : ℕ). Permitted front j t.row) e (row-valid P N).permitted in
              rw (points_in_lem i front t e) (still_counted front i (enter at i).antecedent (enter at i).own (finds i (omega (arith, P.low)) (omega (arith, P.top))) t.row Q)

          go : Order t.section i → Counted (10 * i) (points (rows_of i (front ++ (t ∷ []))))
          go (lower x) = rw (rows_out i front t (λ e. omega arith)) (S.counted i)
          go (level e) = same-section e
          go (upper x) = rw (rows_out i front t (λ e. omega arith)) (S.counted i)

      stands_on : Stands (front ++ (t ∷ [])) next
      stands_on = record {
        section = preceding-last 0 front t ∙ sym next-section;
        antecedent = next-antecedent;
        own = next-own;
        rows = next-rows;
        counted = next-counted;
        fair = fair_after k k6 at (numbers_of t) P S.fair N;
      }

-- All rows

not-refused : (k : ℕ) (at : Stand) (l : Line) → Passes k at l → refusal k at l ≡ 0
unfolding refusal refusal_within section_fits
not-refused k at l P = simp (le-leb at.section l.section P.low, le-leb l.section k P.top, P.kind, P.p, P.q, P.rest, P.room)

room-left : (i n : ℕ) → (i ≡ 0 → n < 32) → (1 ≤ i → n < 24) → room_fits i n ≡ true
unfolding room_fits
room-left i n f g = go (order i 0)
  where
    go : Order i 0 → cond (eqb i 0) (ltb n 32) (ltb n 24) ≡ true
    go (lower h) = absurd (omega arith)
    go (level z) = simp (eq-eqb i 0 z, lt-ltb n 32 (f z))
    go (upper h) = simp (ne_eqb i 0 (λ z. omega arith), lt-ltb n 24 (g h))

-- rows before a row of their section are fewer than all
rows-fewer : (i : ℕ) (front : List Tagged) (t : Tagged) (back : List Tagged) → t.section ≡ i → length (rows_of i front) < length (rows_of i (front ++ (t ∷ back)))
unfolding rows_of
rows-fewer i front t back e =
    rw (rows_append i front (t ∷ back), eq-eqb t.section i e) (omega (arith, length-append (rows_of i front) (t.row ∷ rows_of i back)))

-- valid rows are accepted one after another
module _ (k : ℕ) (rows : List Tagged) (W : ValidSheet k rows) where
  accepts : (ts front : List Tagged) (at : Stand) → Stands front at → rows ≡ front ++ ts → Accepted k at (map numbers_of ts)
  accepts [] front at S e = tt
  accepts (t ∷ ts) front at S e =
      let row = W.each front t ts e in
      let all : (i : ℕ) → t.section ≡ i → length (rows_of i front) < length (rows_of i rows) = λ i q. rw e (rows-fewer i front t ts q) in
      let room = room-left t.section (length (rows_of t.section front)) (λ z. rw z (omega (arith, all 0 z, W.antecedent_rows))) (λ h. omega (arith, all t.section refl, W.consequent_rows t.section h)) in
      let P = row-passes k W.few_consequents front at S t row room in
      let N = row_fits k W.few_consequents front at S t row in
      let rest = accepts ts (front ++ (t ∷ [])) (after at (numbers_of t)) (stands_on k W.few_consequents front at S t P N) (e ∙ sym (append_assoc front (t ∷ []) ts)) in
      (not-refused k at (numbers_of t) P, (N, rest))

-- rows that are accepted one after another are valid, each by those before it
abbrev ValidFrom : ℕ → (front rows : List Tagged) → Type 0
ValidFrom k front [] = Unit {0}
ValidFrom k front (t ∷ ts) = ValidRow k front t × ValidFrom k (front ++ (t ∷ [])) ts

module _ (k : ℕ) (k6 : k ≤ 6) where
  valid-from : (ts front : List Tagged) (at : Stand) → Stands front at → Accepted k at (map numbers_of ts) → ValidFrom k front ts
  valid-from [] front at S A = tt
  valid-from (t ∷ ts) front at S A =
      let P = passes k at (numbers_of t) A.0 in (
        row-valid k k6 front at S t P A.1.0,
        valid-from ts (front ++ (t ∷ [])) (after at (numbers_of t)) (stands_on k k6 front at S t P A.1.0) A.1.1,
      )

  none-there : (b a : List Tagged) (t : Tagged) → [] ≡ b ++ (t ∷ a) → ⊥
  none-there [] a t e = let z : ◌≡◌ {A = ℕ} 0 1 = cc in omega arith
  none-there (x ∷ b) a t e = let z : ◌≡◌ {A = ℕ} 0 1 = cc in omega arith

  each_of : (ts front : List Tagged) → ValidFrom k front ts → (b : List Tagged) (t : Tagged) (a : List Tagged) → ts ≡ b ++ (t ∷ a) → ValidRow k (front ++ b) t
  each_of [] front F b t a e = absurd (none-there b a t e)
  each_of (u ∷ ts) front F [] t a e = let q : u ≡ t = cc in rw append-nil (subst (ValidRow k front) q F.0)
  each_of (u ∷ ts) front F (x ∷ b) t a e =
      let q : u ≡ x = cc in
      let r : ts ≡ b ++ (t ∷ a) = cc in
      subst (λ (l : List Tagged). ValidRow k l t) (append_assoc front (u ∷ []) b ∙ ap (λ (y : Tagged). front ++ (y ∷ b)) q) (each_of ts (front ++ (u ∷ [])) F.1 b t a r)

-- THE THEOREM: reading accepts the texts of valid sheets, and no other bytes.

module _ (k : ℕ) (rows : List Tagged) (W : ValidSheet k rows) where
  acceptable : Acceptable k (map numbers_of rows)
  acceptable =
      record {
        few_consequents = W.few_consequents;
        few_rows = omega (arith, length-map rows numbers_of, W.few_rows);
        none-refused = accepts k rows W rows [] start stands_start refl;
      }

-- What the text of a valid sheet is read as: k, the row count and N, and its own rows.
pub record ReadAsValid (k : ℕ) (rows : List Tagged) : Type 0 where
  pub answered : answer (rows_spelt k rows) ≡ accepted k (length rows) (count (sheet_from k rows))
  pub sheet : sheet_in (rows_spelt k rows) ≡ sheet_from k rows

pub valid-read : (k : ℕ) (rows : List Tagged) → ValidSheet k rows → ReadAsValid k rows
unfolding rows_spelt
valid-read k rows W =
    let R = text-read k (map numbers_of rows) (acceptable k rows W) in
    let e : answer (sheet_text k (map numbers_of rows)) ≡ accepted k (length rows) (count (sheet_from k rows)) =
    R.answered ∙ ap₂ (λ (n : ℕ) (sh : Sheet). accepted k n (count sh)) (length-map rows numbers_of) (sheet-rows k rows) in
    record { answered = e; sheet = ap₂ sheet_of (ap (λ (a : Answer). a.k) e) R.lines ∙ sheet-rows k rows }

module _ (s : List ℕ) (e : (answer s).refusal ≡ 0) where
  abbrev tags : List Tagged
  tags = map tag (taken s).lines

  back : map numbers_of tags ≡ (taken s).lines
  back = lines_from-tags (taken s).lines (accepted-sheet s e).numbers

  read_sheet : sheet_from (answer s).k tags ≡ sheet_of (answer s).k (taken s).lines
  read_sheet = sym (sheet-rows (answer s).k tags) ∙ ap (sheet_of (answer s).k) back

  read-section : (i : ℕ) → rows_of i tags ≡ section i (taken s).lines
  read-section i = sym (section-rows i tags) ∙ ap (section i) back

  pub read-valid : ValidSheet (answer s).k tags
  read-valid =
      let A = accepted-sheet s e in
      let R = accepted-rows s e in
      record {
        few_consequents = R.few;
        few_rows = omega (arith, length-map tags numbers_of, ap length back, A.size, A.short);
        each = each_of (answer s).k R.few tags []
            (valid-from (answer s).k R.few tags [] start stands_start (rw back R.passed));
        antecedent_rows = rw (read-section 0) (antecedent-room (answer s).k (taken s).lines R.passed);
        consequent_rows = λ i h. rw (read-section i) (consequent-room (answer s).k (taken s).lines R.passed i h);
      }

  pub read-text : s ≡ rows_spelt (answer s).k tags
  unfolding rows_spelt
  read-text = (accepted-sheet s e).text ∙ ap (sheet_text (answer s).k) (sym back)

pub accepted-valid : (s : List ℕ) → ((answer s).refusal ≡ 0) ↔ ValidText s
accepted-valid s = (
  (λ e. record { k = (answer s).k; rows = tags s e; valid = read-valid s e; text = read-text s e }),
  (λ (X : ValidText s). ap (λ (t : List ℕ). (answer t).refusal) X.text ∙ ap (λ (a : Answer). a.refusal) (valid-read X.k X.rows X.valid).answered),
)
