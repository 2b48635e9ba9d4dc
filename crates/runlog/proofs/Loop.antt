-- Lines one after another: what is left to read from a line on is the whole.
-- Assumes nothing.
use mathlib.Core.Path.{◌≡◌, sym, ap, ◌∙◌}
use mathlib.Core.List.{List}
use Prim.Native.Nat.{ℕ, suc, ◌+◌, ◌*◌, ◌-◌, ◌≤◌, ◌<◌}
use native.Mathlib.Nat.{sub-zero}
use native.Mathlib.Numerals.{add-one}
use native.Mathlib.Omega.{arith}
use lib.ListN.{length, take, drop, set, length-take, length-drop}
use lib.Seq.{take_all, drop-drop}
use Rattle.runlog.specs.Log.LineRead.{Refused, Line}
use Rattle.scenario.specs.Rows.{set_of}
use Rattle.runlog.specs.Log.{line_of, Taken, stop, more, on_line, line_bytes, lines_from, lay}
use Rattle.runlog.specs.Held.{words_of}

module _ (s : List ℕ) (i n last : ℕ) (h : i < n) where
  step : lines_from s i (n - i) last
      ≡ on_line (line_of last (line_bytes s i)) (λ r. stop r (i + 1) last) (λ tick event. more tick event (lines_from s (i + 1) (n - (i + 1)) tick))
  unfolding lines_from
  step = let e : n - i ≡ suc (n - (i + 1)) = omega arith in rw (e, add-one i)

  pub step-refused : (r : ℕ) → line_of last (line_bytes s i) ≡ Refused r → lines_from s i (n - i) last ≡ stop r (i + 1) last
  step-refused r e = step ∙ rw e

  pub step-on : (tick event : ℕ) → line_of last (line_bytes s i) ≡ Line tick event → lines_from s i (n - i) last ≡ more tick event (lines_from s (i + 1) (n - (i + 1)) tick)
  step-on tick event e = step ∙ rw e

-- What is left from line i + 1 on, with the memory so far, is the whole.
pub record Left (s : List ℕ) (n start i was : ℕ) (run run₀ : List ℕ) : Type 0 where
  pub number : (lines_from s i (n - i) was).number ≡ (lines_from s 0 n start).number
  pub line : (lines_from s i (n - i) was).line ≡ (lines_from s 0 n start).line
  pub last : (lines_from s i (n - i) was).last ≡ (lines_from s 0 n start).last
  pub words : lay (i + 1) (words_of (lines_from s i (n - i) was).ticks (lines_from s i (n - i) was).events) run ≡ lay 1 (words_of (lines_from s 0 n start).ticks (lines_from s 0 n start).events) run₀

abbrev pub Ends : (s : List ℕ) (n start r m l : ℕ) (run run₀ : List ℕ) → Type 0
Ends s n start r m l run run₀ =
    (r ≡ (lines_from s 0 n start).number) × ((m ≡ (lines_from s 0 n start).line) × ((l ≡ (lines_from s 0 n start).last)
    × (run ≡ lay 1 (words_of (lines_from s 0 n start).ticks (lines_from s 0 n start).events) run₀)))

module _ (s : List ℕ) (n start : ℕ) (run₀ : List ℕ) where
  pub left-start : Left s n start 0 start run₀ run₀
  left-start = record { number = rw sub-zero; line = rw sub-zero; last = rw sub-zero; words = rw sub-zero }

  module _ (i last : ℕ) (run : List ℕ) (L : Left s n start i last run run₀) where
    pub left-on : (tick event : ℕ) → i < n → line_of last (line_bytes s i) ≡ Line tick event → (run' : List ℕ) → run' ≡ set run (i + 1) (set_of tick event) → Left s n start (i + 1) tick run' run₀
    unfolding lay words_of
    left-on tick event h e run' er =
        let o = step-on s i n last h tick event e in
        record {
          number = sym (ap (λ (t : Taken). t.number) o) ∙ L.number;
          line = sym (ap (λ (t : Taken). t.line) o) ∙ L.line;
          last = sym (ap (λ (t : Taken). t.last) o) ∙ L.last;
          words = rw (er, add-one (i + 1)) (sym (ap (λ (t : Taken). lay (i + 1) (words_of t.ticks t.events) run) o) ∙ L.words);
        }

    pub left-stop : (r m : ℕ) → lines_from s i (n - i) last ≡ stop r m last → Ends s n start r m last run run₀
    unfolding lay words_of
    left-stop r m o = (
      sym (ap (λ (t : Taken). t.number) o) ∙ L.number,
      (
        sym (ap (λ (t : Taken). t.line) o) ∙ L.line,
        (sym (ap (λ (t : Taken). t.last) o) ∙ L.last, sym (ap (λ (t : Taken). lay (i + 1) (words_of t.ticks t.events) run) o) ∙ L.words),
      ),
    )

    pub left-none : n ≤ i → Ends s n start 0 0 last run run₀
    unfolding lines_from
    left-none h = let e : n - i ≡ 0 = omega arith in left-stop 0 0 (rw e)

-- what is left of the text at line i
abbrev pub From : (s : List ℕ) (i : ℕ) → List ℕ → Type 0
From s i rest = rest ≡ drop (28 + 15 * i) s

pub part-line : (s : List ℕ) (i : ℕ) (rest : List ℕ) → From s i rest → take 15 rest ≡ line_bytes s i
unfolding line_bytes
part-line s i rest e = ap (take 15) e

pub from_first : (s : List ℕ) → From s 0 (take (length s - 28) (drop 28 s))
from_first s = take_all (length s - 28) (drop 28 s) (omega (arith, length-drop 28 s))

pub from_next : (s : List ℕ) (i : ℕ) (rest : List ℕ) → From s i rest → From s (i + 1) (take (length rest - 15) (drop 15 rest))
from_next s i rest e = let k : 28 + 15 * i + 15 ≡ 28 + 15 * (i + 1) = omega arith in take_all (length rest - 15) (drop 15 rest) (omega (arith, length-drop 15 rest)) ∙ ap (drop 15) e ∙ drop-drop 15 (28 + 15 * i) s ∙ ap (λ (j : ℕ). drop j s) k

pub from-length : (s : List ℕ) (i n : ℕ) (rest : List ℕ) → From s i rest → i < n → 28 + 15 * n ≤ length s → 15 ≤ length rest
from-length s i n rest e h l = omega (arith, ap length e, length-drop (28 + 15 * i) s)

pub line-length : (s : List ℕ) (i n : ℕ) → i < n → 28 + 15 * n ≤ length s → length (line_bytes s i) ≡ 15
unfolding line_bytes
line-length s i n h l = simp (length-take, length-drop) (omega arith)
