-- What reading accepts: the texts of the logs that document 01 permits, and no other bytes. Bytes and log determine each other.
-- Assumes nothing.
use mathlib.Core.Path.{◌≡◌, sym, ap, ap₂, ◌∙◌}
use mathlib.Core.Logic.{◌↔◌}
use mathlib.Core.List.{List, [], ◌∷◌, ◌++◌, append_assoc}
use Prim.Native.Nat.{ℕ, zero, suc, ◌-◌, ◌≤◌}
use native.Mathlib.Omega.{arith}
use lib.ListN.{length, get_or, drop}
use lib.Seq.{drop-drop, drop-cons}
use borrow.Author.Tests.{ne_eqb}
use Rattle.columns.specs.Spell.{spell}
use Rattle.scenario.specs.Log.{Log, tick}
use Rattle.scenario.proofs.Rules.{Laws}
use Rattle.scenario.proofs.Logs.{laws}
use Rattle.runlog.specs.Log.{Answer}
use Rattle.runlog.specs.Log.{head_of, taken, accepted, answer, log_of, run_in}
use Rattle.runlog.specs.Text.{head_text, log_text, Ordered, ValidLog}
use Rattle.runlog.specs.Valid.{ValidText}
use Rattle.columns.proofs.Lines.{peel, value_fits}
use Rattle.runlog.proofs.Whole.{FirstSeen, first-accepted, accepted-log, answer_said, close-after}
use Rattle.runlog.proofs.Texts.{text-accepted, text-log}

-- What an accepted text is: its log is permitted, it is the text of that log, and the answer has its numbers.
pub record AcceptedLog (s : List ℕ) : Type 0 where
  pub valid : ValidLog (log_of s)
  pub text : s ≡ log_text (log_of s)
  pub said : answer s ≡ accepted (length (log_of s).ticks) (log_of s).start (log_of s).close
  -- the run that rows see has n lines, and what the theorems on rows ask of a run
  pub lines : (run_in s).lines ≡ (answer s).n
  pub run : Laws (run_in s)

ordered-on : (last : ℕ) (ticks : List ℕ) (m close : ℕ) → m ≤ close → Ordered last ticks m → Ordered last ticks close
ordered-on last [] m close h o = omega arith
ordered-on last (t ∷ ts) m close h o = (o.0, ordered-on t ts m close h o.1)

-- the first line of a text that is accepted
first-only : (s : List ℕ) → FirstSeen s (head_of s) → s ≡ head_text (head_of s).n (head_of s).start (head_of s).close ++ drop 28 s
unfolding head_text
first-only s F =
    let n = (head_of s).n in
    let start = (head_of s).start in
    let close = (head_of s).close in
    let c : drop 27 s ≡ 10 ∷ drop 28 s = drop-cons s 27 0 (omega (arith, F.length)) ∙ ap (λ (b : ℕ). b ∷ drop 28 s) F.end in
    peel 5 n s F.count
    ∙ ap (λ (x : List ℕ). spell 5 n ++ x) (peel 11 start (drop 5 s) F.start
    ∙ ap (λ (x : List ℕ). spell 11 start ++ x) (drop-drop 11 5 s ∙ peel 11 close (drop 16 s) F.close
    ∙ ap (λ (x : List ℕ). spell 11 close ++ x) (drop-drop 11 16 s ∙ c)))
    ∙ ap (λ (x : List ℕ). spell 5 n ++ (spell 11 start ++ x)) (sym (append_assoc (spell 11 close) (10 ∷ []) (drop 28 s)))
    ∙ ap (λ (x : List ℕ). spell 5 n ++ x) (sym (append_assoc (spell 11 start) (spell 11 close ++ (10 ∷ [])) (drop 28 s)))
    ∙ sym (append_assoc (spell 5 n) (spell 11 start ++ (spell 11 close ++ (10 ∷ []))) (drop 28 s))

module _ (s : List ℕ) (e : (answer s).refusal ≡ 0) where
  valid-log : ValidLog (log_of s)
  unfolding log_of
  valid-log =
      let F = first-accepted s e in
      let L = accepted-log s e in
      record {
        few = omega (arith, L.ticks, F.few);
        paired = L.events ∙ sym L.ticks;
        known = L.low;
        ordered = ordered-on (head_of s).start (taken s).ticks (taken s).last (head_of s).close (close-after s e) L.ordered;
        fits = value_fits (drop 16 s) 11 (head_of s).close F.close;
      }

  text-only : s ≡ log_text (log_of s)
  unfolding log_of log_text
  text-only =
      let L = accepted-log s e in
      first-only s (first-accepted s e) ∙ ap₂ (λ (n : ℕ) (x : List ℕ). head_text n (head_of s).start (head_of s).close ++ x) (sym L.ticks) L.text

  said_numbers : answer s ≡ accepted (length (log_of s).ticks) (log_of s).start (log_of s).close
  unfolding log_of
  said_numbers = answer_said s e ∙ ap (λ (n : ℕ). accepted n (head_of s).start (head_of s).close) (sym (accepted-log s e).ticks)

  -- THE THEOREM
  pub accepted-text : AcceptedLog s
  accepted-text = record {
    valid = valid-log;
    text = text-only;
    said = said_numbers;
    lines = valid-log.paired ∙ sym (ap (λ (a : Answer). a.n) said_numbers);
    run = laws (log_of s) valid-log.known;
  }

-- Bytes and log determine each other: of permitted numbers there is one accepted text, and it gives back these numbers.
pub record OneText (g : Log) : Type 0 where
  pub said : answer (log_text g) ≡ accepted (length g.ticks) g.start g.close
  pub log : log_of (log_text g) ≡ g
  pub only : (s : List ℕ) → (answer s).refusal ≡ 0 → log_of s ≡ g → s ≡ log_text g

pub one-text : (g : Log) → ValidLog g → OneText g
one-text g valid = record { said = text-accepted g valid; log = text-log g valid; only = λ s e is. text-only s e ∙ ap log_text is }

-- Reading accepts the texts of valid logs, and no other bytes.
pub accepted-valid : (s : List ℕ) → ((answer s).refusal ≡ 0) ↔ ValidText s
accepted-valid s = (
  (λ e. record { log = log_of s; valid = valid-log s e; text = text-only s e }),
  (λ (X : ValidText s). ap (λ (t : List ℕ). (answer t).refusal) X.text ∙ ap (λ (a : Answer). a.refusal) (one-text X.log X.valid).said),
)

-- Ticks in order, by position: start, lines, close, and whatever lies past the close.
ordered_at : (last : ℕ) (ticks : List ℕ) (close : ℕ) → Ordered last ticks close → (i : ℕ) → last ≤ get_or ticks i close
ordered_at last [] close o i = omega arith
ordered_at last (t ∷ ts) close o zero = o.0
ordered_at last (t ∷ ts) close o (suc i) = let h = ordered_at t ts close o.1 i in omega (arith, o.0)

ordered-between : (last : ℕ) (ticks : List ℕ) (close : ℕ) → Ordered last ticks close → (i j : ℕ) → i ≤ j → get_or ticks i close ≤ get_or ticks j close
ordered-between last [] close o i j h = omega arith
ordered-between last (t ∷ ts) close o zero zero h = omega arith
ordered-between last (t ∷ ts) close o zero (suc j) h = ordered_at t ts close o.1 j
ordered-between last (t ∷ ts) close o (suc i) zero h = absurd (omega arith)
ordered-between last (t ∷ ts) close o (suc i) (suc j) h = ordered-between t ts close o.1 i j (omega arith)

pub ticks-ascend : (g : Log) → ValidLog g → (x y : ℕ) → x ≤ y → tick g x ≤ tick g y
unfolding tick
ticks-ascend g valid zero zero h = omega arith
ticks-ascend g valid zero (suc y) h = rw (ne_eqb (suc y) 0 (λ e. omega arith)) (ordered_at g.start g.ticks g.close valid.ordered (suc y - 1))
ticks-ascend g valid (suc x) zero h = absurd (omega arith)
ticks-ascend g valid (suc x) (suc y) h =
    rw (ne_eqb (suc x) 0 (λ e. omega arith), ne_eqb (suc y) 0 (λ e. omega arith))
    (ordered-between g.start g.ticks g.close valid.ordered (suc x - 1) (suc y - 1) (omega arith))
