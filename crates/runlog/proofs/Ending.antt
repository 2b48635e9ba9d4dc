-- How the whole reading ends: at the first line, at a line, at the close, or accepted. h is what the first line gave.
-- Assumes nothing.
use mathlib.Core.Path.{◌≡◌, sym, ap, ◌∙◌}
use mathlib.Core.List.{List}
use Prim.Native.Nat.{ℕ, ◌≤◌, ◌<◌}
use borrow.Author.Tests.{eq-eqb, ne_eqb, lt-ltb, le-ltb}
use Rattle.runlog.specs.Numbers.{close_below}
use Rattle.runlog.specs.Log.{Head}
use Rattle.runlog.specs.Log.{head_of, lines_from, taken, refused, accepted, closing, answer}
use Rattle.runlog.proofs.Whole.{FirstSeen, first-seen}

module _ (s : List ℕ) (h : Head) (e : h ≡ head_of s) where
  module _ (ne : h.refusal ≡ 0 → ⊥) where
    pub head-refused : refused h.refusal 0 ≡ answer s
    unfolding answer taken closing
    head-refused = rw (sym e) (simp (ne_eqb h.refusal 0 ne))

  module _ (z : h.refusal ≡ 0) where
    pub good : FirstSeen s h
    good = rw e (first-seen s (ap (λ (x : Head). x.refusal) (sym e) ∙ z))

    pub lines-taken : taken s ≡ lines_from s 0 h.n h.start
    unfolding taken
    lines-taken = rw (sym e) (simp (eq-eqb h.refusal 0 z))

    answer-is : answer s ≡ closing h (lines_from s 0 h.n h.start)
    unfolding answer
    answer-is = rw (lines-taken, sym e)

    module _ (r : ℕ) (a : r ≡ (lines_from s 0 h.n h.start).number) where
      pub line_refused : (m : ℕ) → m ≡ (lines_from s 0 h.n h.start).line → (r ≡ 0 → ⊥) → refused r m ≡ answer s
      unfolding closing
      line_refused m b ne = rw (answer-is, sym a, sym b) (simp (ne_eqb r 0 ne))

      module _ (zero : r ≡ 0) (l : ℕ) (b : l ≡ (lines_from s 0 h.n h.start).last) where
        pub late : h.close < l → refused close_below 0 ≡ answer s
        unfolding closing
        late x = rw (answer-is, sym a, sym b) (simp (eq-eqb r 0 zero, lt-ltb h.close l x))

        pub done : l ≤ h.close → accepted h.n h.start h.close ≡ answer s
        unfolding closing
        done x = rw (answer-is, sym a, sym b) (simp (eq-eqb r 0 zero, le-ltb h.close l x))
