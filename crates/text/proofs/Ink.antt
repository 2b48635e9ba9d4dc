-- An antiscenario's text, written row by row.
-- Assumes nothing.
use mathlib.Core.Path.{◌≡◌, refl, sym, ap, ◌∙◌}
use mathlib.Core.List.{List, ◌++◌}
use Prim.Native.Nat.{ℕ, zero, suc, ◌+◌, ◌*◌, ◌-◌, ◌≤◌, ◌<◌}
use native.Mathlib.Numerals.{add-one}
use native.Mathlib.Omega.{arith}
use lib.ListN.{length, take, drop, set, length-append, take-append-drop}
use Rattle.columns.specs.Spell.{spell}
use Rattle.columns.proofs.Spelling.{spell-length}
use Rattle.row.specs.declared.Line.{Line}
use Rattle.row.specs.Memory.{line_in, lines_in}
use Rattle.sheet.specs.Text.{row_text, rows_text, head_text, sheet_text}
use Rattle.sheet.proofs.Texts.{row_text-length, rows_text-length, head_text-length}
use Rattle.columns.specs.Ink.{inked}
use Rattle.columns.proofs.Inked.{after, byte-inked, number-inked}

-- The row's line
pub row-inked : (l : Line) (at : ℕ) (b0 b1 b2 b3 b4 b5 b6 b7 : List ℕ) → at + 35 ≤ length b0
    → length b1 ≡ length b0 → length b2 ≡ length b0 → length b3 ≡ length b0 → length b4 ≡ length b0 → length b5 ≡ length b0 → length b6 ≡ length b0
    → b1 ≡ take at b0 ++ (spell 3 l.section ++ drop (at + 3) b0)
    → b2 ≡ take (at + 3) b1 ++ (spell 3 l.kind ++ drop (at + 3 + 3) b1)
    → b3 ≡ take (at + 6) b2 ++ (spell 3 l.p ++ drop (at + 6 + 3) b2)
    → b4 ≡ take (at + 9) b3 ++ (spell 3 l.q ++ drop (at + 9 + 3) b3)
    → b5 ≡ take (at + 12) b4 ++ (spell 11 l.a ++ drop (at + 12 + 11) b4)
    → b6 ≡ take (at + 23) b5 ++ (spell 11 l.b ++ drop (at + 23 + 11) b5)
    → b7 ≡ set b6 (at + 34) 10 → b7 ≡ inked at (row_text l) b0
unfolding row_text
row-inked l at b0 b1 b2 b3 b4 b5 b6 b7 h l1 l2 l3 l4 l5 l6 e1 e2 e3 e4 e5 e6 e7 =
    after at 3 (at + 3) _ _ b0 b1 b7 (spell-length 3 l.section) (omega arith) (omega arith) (e1 ∙ number-inked at 3 l.section b0)
    (after (at + 3) 3 (at + 6) _ _ b1 b2 b7 (spell-length 3 l.kind) (omega arith) (omega arith) (e2 ∙ number-inked (at + 3) 3 l.kind b1)
    (after (at + 6) 3 (at + 9) _ _ b2 b3 b7 (spell-length 3 l.p) (omega arith) (omega arith) (e3 ∙ number-inked (at + 6) 3 l.p b2)
    (after (at + 9) 3 (at + 12) _ _ b3 b4 b7 (spell-length 3 l.q) (omega arith) (omega arith) (e4 ∙ number-inked (at + 9) 3 l.q b3)
    (after (at + 12) 11 (at + 23) _ _ b4 b5 b7 (spell-length 11 l.a) (omega arith) (omega arith) (e5 ∙ number-inked (at + 12) 11 l.a b4)
    (after (at + 23) 11 (at + 34) _ _ b5 b6 b7 (spell-length 11 l.b) (omega arith) (omega arith) (e6 ∙ number-inked (at + 23) 11 l.b b5)
    (e7 ∙ byte-inked b6 (at + 34) 10 (omega arith)))))))

pub head-inked : (k n : ℕ) (b0 b1 b2 b3 : List ℕ) → 7 ≤ length b0 → length b1 ≡ length b0 → length b2 ≡ length b0
    → b1 ≡ take 0 b0 ++ (spell 3 k ++ drop (0 + 3) b0) → b2 ≡ take 3 b1 ++ (spell 3 n ++ drop (3 + 3) b1) → b3 ≡ set b2 6 10 → b3 ≡ inked 0 (head_text k n) b0
unfolding head_text
head-inked k n b0 b1 b2 b3 h l1 l2 e1 e2 e3 =
    after 0 3 3 _ _ b0 b1 b3 (spell-length 3 k) refl (omega arith) (e1 ∙ number-inked 0 3 k b0)
    (after 3 3 6 _ _ b1 b2 b3 (spell-length 3 n) refl (omega arith) (e2 ∙ number-inked 3 3 n b1) (e3 ∙ byte-inked b2 6 10 (omega arith)))

-- rows one after another
module _ (m : List ℕ) (i n : ℕ) where
  pub rows_on : (b c : List ℕ) → i < n → 7 + 35 * i ≤ length b → c ≡ inked (7 + 35 * i) (row_text (line_in m i)) b
      → inked (7 + 35 * (i + 1)) (rows_text (lines_in m (i + 1) (n - (i + 1)))) c ≡ inked (7 + 35 * i) (rows_text (lines_in m i (n - i))) b
  unfolding rows_text lines_in
  rows_on b c h r e =
      let k : n - i ≡ suc (n - (i + 1)) = omega arith in
      rw (k, add-one i) (after (7 + 35 * i) 35 (7 + 35 * suc i) (row_text (line_in m i)) (rows_text (lines_in m (suc i) (n - suc i))) b c _ (row_text-length (line_in m i)) (omega arith) r e refl)

  pub rows_end : (b : List ℕ) → n ≤ i → b ≡ inked (7 + 35 * i) (rows_text (lines_in m i (n - i))) b
  unfolding rows_text lines_in inked
  rows_end b h =
      let k : n - i ≡ 0 = omega arith in
      let z : 7 + 35 * i + 0 ≡ 7 + 35 * i = omega arith in
      rw (k, z) (sym (take-append-drop (7 + 35 * i) b))

pub lines-length : (m : List ℕ) (left i : ℕ) → length (lines_in m i left) ≡ left
unfolding lines_in
lines-length m zero i = refl
lines-length m (suc left) i = ap suc (lines-length m left (suc i))

pub text-inked : (k : ℕ) (m : List ℕ) (n : ℕ) (b c d : List ℕ) → c ≡ inked 0 (head_text k n) b → d ≡ inked 7 (rows_text (lines_in m 0 n)) c
    → d ≡ sheet_text k (lines_in m 0 n) ++ drop (7 + 35 * n) b
unfolding sheet_text inked
text-inked k m n b c d e f =
    let ls = lines_in m 0 n in
    let l : length ls ≡ n = lines-length m n 0 in
    let t : length (head_text k n ++ rows_text ls) ≡ 7 + 35 * n = omega (arith, length-append (head_text k n) (rows_text ls), head_text-length k n, rows_text-length ls, l) in
    let z : 0 + (7 + 35 * n) ≡ 7 + 35 * n = omega arith in
    after 0 7 7 (head_text k n) (rows_text ls) b c d (head_text-length k n) refl (omega arith) e f
    ∙ ap (λ (j : ℕ). (head_text k n ++ rows_text ls) ++ drop j b) (ap (λ (j : ℕ). 0 + j) t ∙ z) ∙ rw l
