-- A row's text is read as the row, and a sheet that is accepted has no other text than its own.
-- Assumes nothing.
use mathlib.Core.Path.{◌≡◌, refl, sym, ap, ap₂, ◌∙◌}
use mathlib.Core.Bool.{Bool, true, false, cond}
use mathlib.Core.List.{List, [], ◌∷◌, ◌++◌, append_assoc}
use Prim.Native.Nat.{ℕ, zero, suc, ◌+◌, ◌*◌, ◌≤◌}
use native.Mathlib.Omega.{arith}
use lib.ListN.{length, take, drop, get_or, take-append-drop, drop_of_length-le, length-append}
use lib.Seq.{drop-append_seam, take-append_seam, drop-drop, drop-cons, get_or-drop}
use lib.Dec.{eqb}
use borrow.Author.Tests.{eqb-true, eqb-false}
use Rattle.columns.specs.Number.{field_at}
use Rattle.columns.specs.Spell.{spell}
use Rattle.std.specs.Prelude.{Option, Some, None}
use Rattle.columns.proofs.Spelling.{spell-length, spell-read}
use Rattle.columns.proofs.Lines.{past, peel}
use Rattle.row.specs.declared.Line.{Line}
use Rattle.rules.specs.declared.Stand.{Stand}
use Rattle.row.specs.Row.{six, on_field, line_of}
use Rattle.rules.specs.Rules.{refusal}
use Rattle.sheet.specs.Reading.{head_of, Taken, stop, more, on_line, after, row_bytes, rows_from}
use Rattle.sheet.proofs.Loop.{row-length}
use Rattle.sheet.proofs.Memory.{Good}
use Rattle.sheet.proofs.Values.{field-most}
use Rattle.sheet.specs.Text.{Fits, row_text, rows_text, head_text, sheet_text}

-- The lengths of a text

pub row_text-length : (l : Line) → length (row_text l) ≡ 35
unfolding row_text
row_text-length l =
    omega (
      arith,
      length-append (spell 3 l.section) (spell 3 l.kind ++ (spell 3 l.p ++ (spell 3 l.q ++ (spell 11 l.a ++ (spell 11 l.b ++ (10 ∷ [])))))),
      length-append (spell 3 l.kind) (spell 3 l.p ++ (spell 3 l.q ++ (spell 11 l.a ++ (spell 11 l.b ++ (10 ∷ []))))),
      length-append (spell 3 l.p) (spell 3 l.q ++ (spell 11 l.a ++ (spell 11 l.b ++ (10 ∷ [])))),
      length-append (spell 3 l.q) (spell 11 l.a ++ (spell 11 l.b ++ (10 ∷ []))),
      length-append (spell 11 l.a) (spell 11 l.b ++ (10 ∷ [])),
      length-append (spell 11 l.b) (10 ∷ []),
      spell-length 3 l.section,
      spell-length 3 l.kind,
      spell-length 3 l.p,
      spell-length 3 l.q,
      spell-length 11 l.a,
      spell-length 11 l.b,
    )

pub rows_text-length : (ls : List Line) → length (rows_text ls) ≡ 35 * length ls
unfolding rows_text
rows_text-length [] = refl
rows_text-length (l ∷ ls) = omega (arith, length-append (row_text l) (rows_text ls), row_text-length l, rows_text-length ls)

pub head_text-length : (k n : ℕ) → length (head_text k n) ≡ 7
unfolding head_text
head_text-length k n = omega (arith, length-append (spell 3 k) (spell 3 n ++ (10 ∷ [])), length-append (spell 3 n) (10 ∷ []), spell-length 3 k, spell-length 3 n)

pub sheet_text-length : (k : ℕ) (ls : List Line) → length (sheet_text k ls) ≡ 7 + 35 * length ls
unfolding sheet_text
sheet_text-length k ls = omega (arith, length-append (head_text k (length ls)) (rows_text ls), head_text-length k (length ls), rows_text-length ls)

-- the bytes of a row behind as many as stand before it
pub row_at_lem : (front rest : List ℕ) (l : Line) (i : ℕ) → length front ≡ 7 + 35 * i → row_bytes (front ++ (row_text l ++ rest)) i ≡ row_text l
unfolding row_bytes
row_at_lem front rest l i h =
    ap (λ (n : ℕ). take 35 (drop n (front ++ (row_text l ++ rest)))) (sym h) ∙ ap (take 35) (drop-append_seam front (row_text l ++ rest))
    ∙ ap (λ (n : ℕ). take n (row_text l ++ rest)) (sym (row_text-length l)) ∙ take-append_seam (row_text l) rest

-- A row's text is read as the row.
module _ (l : Line) where
  abbrev r6 : List ℕ
  r6 = 10 ∷ []

  abbrev r5 : List ℕ
  r5 = spell 11 l.b ++ r6

  abbrev r4 : List ℕ
  r4 = spell 11 l.a ++ r5

  abbrev r3 : List ℕ
  r3 = spell 3 l.q ++ r4

  abbrev r2 : List ℕ
  r2 = spell 3 l.p ++ r3

  abbrev r1 : List ℕ
  r1 = spell 3 l.kind ++ r2

  abbrev r0 : List ℕ
  r0 = spell 3 l.section ++ r1

  -- the text from each field on, and the line's end
  from_1 : drop 3 r0 ≡ r1
  from_1 = past 3 l.section 0 r1

  from_2 : drop 6 r0 ≡ r2
  from_2 = past 3 l.section 3 r1 ∙ past 3 l.kind 0 r2

  from_3 : drop 9 r0 ≡ r3
  from_3 = past 3 l.section 6 r1 ∙ past 3 l.kind 3 r2 ∙ past 3 l.p 0 r3

  from_4 : drop 12 r0 ≡ r4
  from_4 = past 3 l.section 9 r1 ∙ past 3 l.kind 6 r2 ∙ past 3 l.p 3 r3 ∙ past 3 l.q 0 r4

  from_5 : drop 23 r0 ≡ r5
  from_5 = past 3 l.section 20 r1 ∙ past 3 l.kind 17 r2 ∙ past 3 l.p 14 r3 ∙ past 3 l.q 11 r4 ∙ past 11 l.a 0 r5

  end_is : get_or r0 34 0 ≡ 10
  end_is = sym (get_or-drop 34 r0 0 0) ∙ ap (λ (x : List ℕ). get_or x 0 0) (past 3 l.section 31 r1 ∙ past 3 l.kind 28 r2 ∙ past 3 l.p 25 r3 ∙ past 3 l.q 22 r4 ∙ past 11 l.a 11 r5 ∙ past 11 l.b 0 r6)

  pub row_read : Fits l → line_of (row_text l) ≡ Some l
  unfolding line_of row_text
  row_read F =
      rw (from_1, from_2, from_3, from_4, from_5)
      (rw (
        spell-read 3 l.section r1 (omega arith) (omega (arith, F.section)) (omega (arith, F.section)),
        spell-read 3 l.kind r2 (omega arith) (omega (arith, F.kind)) (omega (arith, F.kind)),
        spell-read 3 l.p r3 (omega arith) (omega (arith, F.p)) (omega (arith, F.p)),
        spell-read 3 l.q r4 (omega arith) (omega (arith, F.q)) (omega (arith, F.q)),
        spell-read 11 l.a r5 (omega arith) (omega (arith, F.a)) (omega (arith, F.a)),
        spell-read 11 l.b r6 (omega arith) (omega (arith, F.b)) (omega (arith, F.b)),
      )
      (rw end_is))

-- No other text: the six fields of a row that is read
record Six (t : List ℕ) (l : Line) : Type 0 where
  section : field_at t 3 ≡ Some l.section
  kind : field_at (drop 3 t) 3 ≡ Some l.kind
  p : field_at (drop 6 t) 3 ≡ Some l.p
  q : field_at (drop 9 t) 3 ≡ Some l.q
  a : field_at (drop 12 t) 11 ≡ Some l.a
  b : field_at (drop 23 t) 11 ≡ Some l.b
  end : get_or t 34 0 ≡ 10

malformed_not : (l : Line) → None ≡ Some l → ⊥
malformed_not l h = let z : ◌≡◌ {A = ℕ} 0 1 = cc in omega arith

six_of : (t : List ℕ) (l : Line) → line_of t ≡ Some l → Six t l
unfolding line_of
six_of t l e = go (field_at t 3) (field_at (drop 3 t) 3) (field_at (drop 6 t) 3) (field_at (drop 9 t) 3) (field_at (drop 12 t) 11) (field_at (drop 23 t) 11) (eqb (get_or t 34 0) 10) refl refl refl refl refl refl refl e
  where
    go : (f1 f2 f3 f4 f5 f6 : Option ℕ) (z : Bool) → field_at t 3 ≡ f1 → field_at (drop 3 t) 3 ≡ f2 → field_at (drop 6 t) 3 ≡ f3 → field_at (drop 9 t) 3 ≡ f4
        → field_at (drop 12 t) 11 ≡ f5 → field_at (drop 23 t) 11 ≡ f6 → eqb (get_or t 34 0) 10 ≡ z
        → on_field f1 (λ s. on_field f2 (λ kind. on_field f3 (λ p. on_field f4 (λ q. on_field f5 (λ a. on_field f6 (λ b. cond z (Some (six s kind p q a b)) None)))))) ≡ Some l → Six t l
    go (Some s) (Some k) (Some p) (Some q) (Some a) (Some b) true e1 e2 e3 e4 e5 e6 e7 e =
        let x : six s k p q a b ≡ l = cc in
        record {
          section = e1 ∙ ap (λ (y : Line). Some y.section) x;
          kind = e2 ∙ ap (λ (y : Line). Some y.kind) x;
          p = e3 ∙ ap (λ (y : Line). Some y.p) x;
          q = e4 ∙ ap (λ (y : Line). Some y.q) x;
          a = e5 ∙ ap (λ (y : Line). Some y.a) x;
          b = e6 ∙ ap (λ (y : Line). Some y.b) x;
          end = eqb-true (get_or t 34 0) 10 e7;
        }
    go (Some s) (Some k) (Some p) (Some q) (Some a) (Some b) false e1 e2 e3 e4 e5 e6 e7 e = absurd (malformed_not l e)
    go (Some s) (Some k) (Some p) (Some q) (Some a) None z e1 e2 e3 e4 e5 e6 e7 e = absurd (malformed_not l e)
    go (Some s) (Some k) (Some p) (Some q) None f6 z e1 e2 e3 e4 e5 e6 e7 e = absurd (malformed_not l e)
    go (Some s) (Some k) (Some p) None f5 f6 z e1 e2 e3 e4 e5 e6 e7 e = absurd (malformed_not l e)
    go (Some s) (Some k) None f4 f5 f6 z e1 e2 e3 e4 e5 e6 e7 e = absurd (malformed_not l e)
    go (Some s) None f3 f4 f5 f6 z e1 e2 e3 e4 e5 e6 e7 e = absurd (malformed_not l e)
    go None f2 f3 f4 f5 f6 z e1 e2 e3 e4 e5 e6 e7 e = absurd (malformed_not l e)

-- the numbers of a row that is read fit their columns
pub row_fits : (t : List ℕ) (l : Line) → line_of t ≡ Some l → Fits l
row_fits t l e =
    let S = six_of t l e in
    record {
      section = omega (arith, (field-most t 3 l.section S.section).1);
      kind = omega (arith, (field-most (drop 3 t) 3 l.kind S.kind).1);
      p = omega (arith, (field-most (drop 6 t) 3 l.p S.p).1);
      q = omega (arith, (field-most (drop 9 t) 3 l.q S.q).1);
      a = (field-most (drop 12 t) 11 l.a S.a).0;
      b = (field-most (drop 23 t) 11 l.b S.b).0;
    }

pub row-only : (t : List ℕ) (l : Line) → length t ≡ 35 → line_of t ≡ Some l → t ≡ row_text l
unfolding row_text
row-only t l n e =
    let S = six_of t l e in
    let c : drop 34 t ≡ 10 ∷ [] = drop-cons t 34 0 (omega arith) ∙ ap₂ ◌∷◌ S.end (drop_of_length-le t {i = 35} (omega arith)) in
    peel 3 l.section t S.section
    ∙ ap (λ (x : List ℕ). spell 3 l.section ++ x) (peel 3 l.kind (drop 3 t) S.kind
    ∙ ap (λ (x : List ℕ). spell 3 l.kind ++ x) (drop-drop 3 3 t ∙ peel 3 l.p (drop 6 t) S.p
    ∙ ap (λ (x : List ℕ). spell 3 l.p ++ x) (drop-drop 3 6 t ∙ peel 3 l.q (drop 9 t) S.q
    ∙ ap (λ (x : List ℕ). spell 3 l.q ++ x) (drop-drop 3 9 t ∙ peel 11 l.a (drop 12 t) S.a
    ∙ ap (λ (x : List ℕ). spell 11 l.a ++ x) (drop-drop 11 12 t ∙ peel 11 l.b (drop 23 t) S.b
    ∙ ap (λ (x : List ℕ). spell 11 l.b ++ x) (drop-drop 11 23 t ∙ c))))))

-- The whole text

pub head-only : (s : List ℕ) (k n : ℕ) → field_at s 3 ≡ Some k → field_at (drop 3 s) 3 ≡ Some n → get_or s 6 0 ≡ 10 → 7 ≤ length s → s ≡ head_text k n ++ drop 7 s
unfolding head_text
head-only s k n first second end h =
    let c : drop 6 s ≡ 10 ∷ drop 7 s = drop-cons s 6 0 (omega arith) ∙ ap (λ (b : ℕ). b ∷ drop 7 s) end in
    peel 3 k s first
    ∙ ap (λ (x : List ℕ). spell 3 k ++ x) (peel 3 n (drop 3 s) second ∙ ap (λ (x : List ℕ). spell 3 n ++ x) (drop-drop 3 3 s ∙ c))
    ∙ ap (λ (x : List ℕ). spell 3 k ++ x) (sym (append_assoc (spell 3 n) (10 ∷ []) (drop 7 s)))
    ∙ sym (append_assoc (spell 3 k) (spell 3 n ++ (10 ∷ [])) (drop 7 s))

-- rows that are all accepted
abbrev Texted : List ℕ → Taken → Type 0
Texted t o = o.number ≡ 0 → t ≡ rows_text o.lines

pub row_next : (s : List ℕ) (i : ℕ) → drop (7 + 35 * i) s ≡ row_bytes s i ++ drop (7 + 35 * suc i) s
unfolding row_bytes
row_next s i =
    let n : 7 + 35 * i + 35 ≡ 7 + 35 * suc i = omega arith in
    sym (take-append-drop 35 (drop (7 + 35 * i) s)) ∙ ap (λ (x : List ℕ). take 35 (drop (7 + 35 * i) s) ++ x) (drop-drop 35 (7 + 35 * i) s ∙ ap (λ (j : ℕ). drop j s) n)

module _ (k : ℕ) (s : List ℕ) where
  rows-only : (left i : ℕ) (at : Stand) → length s ≡ 7 + 35 * (i + left) → Texted (drop (7 + 35 * i) s) (rows_from k s i left at)
  unfolding rows_from rows_text
  rows-only zero i at h = λ e. drop_of_length-le s {i = 7 + 35 * i} (omega arith)
  rows-only (suc left) i at h = is_line (line_of (row_bytes s i)) refl (λ l. rows-only left (suc i) (after at l) (omega arith))
    where
      row : (l : Line) → line_of (row_bytes s i) ≡ Some l → (t : Taken) → (t.number ≡ 0 → drop (7 + 35 * suc i) s ≡ rows_text t.lines) → t.number ≡ 0 → drop (7 + 35 * i) s ≡ row_text l ++ rows_text t.lines
      row l e t r z = row_next s i ∙ ap₂ (λ (x y : List ℕ). x ++ y) (row-only (row_bytes s i) l (row-length s i (suc i) (omega arith) (omega arith)) e) (r z)

      is_line : (p : Option Line) → line_of (row_bytes s i) ≡ p → ((l : Line) → Texted (drop (7 + 35 * suc i) s) (rows_from k s (suc i) left (after at l)))
          → Texted (drop (7 + 35 * i) s) (on_line p (stop 4 (suc i)) (λ l. cond (eqb (refusal k at l) 0) (more l (rows_from k s (suc i) left (after at l))) (stop (refusal k at l) (suc i))))
      is_line (Some l) e r = go (eqb (refusal k at l) 0) refl
        where
          go : (b : Bool) → eqb (refusal k at l) 0 ≡ b → Texted (drop (7 + 35 * i) s) (cond b (more l (rows_from k s (suc i) left (after at l))) (stop (refusal k at l) (suc i)))
          go true x = λ z. row l e (rows_from k s (suc i) left (after at l)) (r l) z
          go false x = λ z. absurd (eqb-false (refusal k at l) 0 x z)
      is_line None e r = λ z. absurd (omega arith)

-- THE TEXT: what is accepted is the text of its rows
pub text-only : (s : List ℕ) → Good s (head_of s) → (at : Stand) → (rows_from (head_of s).k s 0 (head_of s).rows at).number ≡ 0
    → length (rows_from (head_of s).k s 0 (head_of s).rows at).lines ≡ (head_of s).rows
    → s ≡ sheet_text (head_of s).k (rows_from (head_of s).k s 0 (head_of s).rows at).lines
unfolding sheet_text
text-only s G at z n =
    head-only s (head_of s).k (head_of s).rows G.first G.second G.end (omega (arith, G.length))
    ∙ ap₂ (λ (m : ℕ) (x : List ℕ). head_text (head_of s).k m ++ x) (sym n)
    (rows-only (head_of s).k s (head_of s).rows 0 at (omega (arith, G.length)) z)
