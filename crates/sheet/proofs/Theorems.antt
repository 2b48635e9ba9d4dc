-- What an accepted sheet is: one that demand 3 asks for (SheetRead), whose rows are those in the memory, in order, with the text, the room and N that reading says.
-- Carried by Accepted: the rows are accepted one after another, from where the reading stands.
-- Assumes nothing.
use mathlib.Core.Path.{◌≡◌, refl, sym, ap, ap₂, ◌∙◌, subst}
use mathlib.Core.Bool.{Bool, true, false, cond}
use mathlib.Core.List.{List, [], ◌∷◌, ◌++◌, map}
use Prim.Native.Nat.{ℕ, zero, suc, ◌+◌, ◌≤◌, ◌<◌}
use native.Mathlib.Omega.{arith}
use lib.ListN.{length}
use lib.Dec.{eqb}
use borrow.Author.Tests.{eqb-true, eqb-false}
use Rattle.scenario.specs.Rows.{Row, event_count}
use Rattle.scenario.specs.Fields.{five, fields, Tagged, tagged}
use Rattle.scenario.specs.Sheet.{Sheet, count, Demand, antiscenario}
use Rattle.scenario.specs.Search.{check, smallest_matching}
use Rattle.scenario.specs.Log.{Log, run_of}
use Rattle.scenario.proofs.Final.{demand-three}
use Rattle.scenario.specs.Reading.{All, SheetRead}
use Rattle.scenario.proofs.Base.{Order, lower, level, upper, order}
use Rattle.sheet.specs.Reading.{Answer}
use Rattle.row.specs.declared.Line.{Line}
use Rattle.rules.specs.declared.Stand.{Stand}
use Rattle.std.specs.Prelude.{Option, Some, None}
use Rattle.rules.specs.Rules.{start, refusal}
use Rattle.row.specs.Row.{line_of, row_in}
use Rattle.sheet.specs.Reading.{head_of, Taken, stop, on_line, after, row_bytes, rows_from, section, sections, sheet_of, taken, refused, accepted, closing, answer}
use Rattle.sheet.specs.Numbers.{most_antiscenarios}
use Rattle.row.specs.Memory.{lay, lines_in}
use Rattle.sheet.specs.Text.{Fits, sheet_text}
use Rattle.sheet.proofs.Texts.{row_fits, text-only}
use Rattle.rules.proofs.Fitting.{kind-low, kind-high}
use Rattle.sheet.proofs.Points.{fields_back}
use Rattle.sheet.proofs.Memory.{head_good, rows-full}
use Rattle.row.proofs.Memory.{lines-back}
use Rattle.sheet.proofs.Accepted.{passes, after-section, Accepted, in_columns, section_in, section-out, passed, sections-length, sheet_read}
use Rattle.sheet.proofs.Room.{antecedent-room, consequents-room, count_most}

-- Rows that none is refused of are accepted one after another.

abbrev Fine : ℕ → Stand → Taken → Type 0
Fine k at t = t.number ≡ 0 → Accepted k at t.lines

module _ (k : ℕ) (at : Stand) where
  fine_if : (b : Bool) (x y : Taken) → (b ≡ true → Fine k at x) → (b ≡ false → Fine k at y) → Fine k at (cond b x y)
  fine_if true x y f g = f refl
  fine_if false x y f g = g refl

  fine-on : (p : Option Line) (x : Taken) (g : Line → Taken) → Fine k at x → ((l : Line) → p ≡ Some l → Fine k at (g l)) → Fine k at (on_line p x g)
  fine-on (Some l) x g h f = f l refl
  fine-on None x g h f = h

module _ (k : ℕ) (s : List ℕ) where
  fine : (left i : ℕ) (at : Stand) → Fine k at (rows_from k s i left at)
  unfolding rows_from
  fine zero i at = λ e. tt
  fine (suc left) i at =
      fine-on k at (line_of (row_bytes s i)) _ _ (λ e. absurd (omega arith)) (λ l q.
      fine_if k at (eqb (refusal k at l) 0) _ _
      (λ e c. (eqb-true (refusal k at l) 0 e, (row_fits (row_bytes s i) l q, fine left (suc i) (after at l) c)))
      (λ e c. absurd (eqb-false (refusal k at l) 0 e c)))

-- The sheet's rows, section by section, are the lines in order.

abbrev pub tag : Line → Tagged
tag l = record { section = l.section; row = row_in l }

module _ (k : ℕ) where
  -- sections past a line's do not see it
  sections_skip : (l : Line) (ls : List Line) (left i : ℕ) → l.section < i → sections i left (l ∷ ls) ≡ sections i left ls
  unfolding sections
  sections_skip l ls zero i h = refl
  sections_skip l ls (suc left) i h = ap₂ ◌∷◌ (section-out i l ls (λ e. omega arith)) (sections_skip l ls left (suc i) (omega arith))

  tagged-more : (l : Line) (ls : List Line) (at : Stand) → Accepted k at ls → l.section ≡ at.section → (left i : ℕ) → i ≤ l.section → l.section < i + left
      → tagged i (sections i left (l ∷ ls)) ≡ tag l ∷ tagged i (sections i left ls)
  unfolding sections tagged
  tagged-more l ls at A z zero i lo hi = absurd (omega arith)
  tagged-more l ls at A z (suc left) i lo hi = go (order l.section i) (tagged-more l ls at A z left (suc i))
    where
      go : Order l.section i → (suc i ≤ l.section → l.section < suc i + left → tagged (suc i) (sections (suc i) left (l ∷ ls)) ≡ tag l ∷ tagged (suc i) (sections (suc i) left ls))
          → tagged i (sections i (suc left) (l ∷ ls)) ≡ tag l ∷ tagged i (sections i (suc left) ls)
      go (lower h) r = absurd (omega arith)
      go (level e) r =
          rw (section_in i l ls e, sections_skip l ls left (suc i) (omega arith))
          (ap (λ (j : ℕ). record { section = j; row = row_in l } ∷ (map (λ (x : Row). record { section = i; row = x }) (section i ls) ++ tagged (suc i) (sections (suc i) left ls))) (sym e))
      go (upper h) r = rw (section-out i l ls (λ e. omega arith), passed k i ls at A (omega arith)) (r (omega arith) (omega arith))

  tagged-none : (left i : ℕ) → tagged i (sections i left []) ≡ []
  unfolding sections section tagged
  tagged-none zero i = refl
  tagged-none (suc left) i = tagged-none left (suc i)

  pub lines-tagged : (ls : List Line) (at : Stand) → Accepted k at ls → tagged 0 (sections 0 (suc k) ls) ≡ map tag ls
  lines-tagged [] at A = tagged-none (suc k) 0
  lines-tagged (l ∷ ls) at A =
      tagged-more l ls (after at l) A.1.1 (sym (after-section at l)) (suc k) 0 (omega arith) (omega (arith, (passes k at l A.0).top))
      ∙ ap (λ (ts : List Tagged). tag l ∷ ts) (lines-tagged ls (after at l) A.1.1)

  -- a row's numbers are its line's: what the kind does not mention is 0
  pub lines-numbers : (ls : List Line) (at : Stand) → Accepted k at ls → All (λ (l : Line). fields (row_in l) ≡ five l.kind l.p l.q l.a l.b) ls
  unfolding row_in
  lines-numbers [] at A = tt
  lines-numbers (l ∷ ls) at A =
      let P = passes k at l A.0 in (
        fields_back l.p l.q l.a l.b A.1.0.a l.kind (kind-low l.kind l.section P.kind) (kind-high l.kind l.section P.kind) P.rest,
        lines-numbers ls (after at l) A.1.1,
      )

-- The whole

pub record AcceptedSheet (s : List ℕ) (sh : Sheet) (ls : List Line) : Type 0 where
  -- demand 3 applies
  pub read : SheetRead sh
  -- its rows in order, with their sections, are the lines, with their numbers
  pub rows : tagged 0 (sh.antecedent ∷ sh.consequents) ≡ map tag ls
  pub numbers : All (λ (l : Line). fields (row_in l) ≡ five l.kind l.p l.q l.a l.b) ls
  -- its text is theirs, and no other
  pub text : s ≡ sheet_text (answer s).k ls
  -- the antecedent has at most 32 rows, a consequent at most 24
  pub antecedent-room : length sh.antecedent ≤ 32
  pub consequent-room : All (λ (c : List Row). length c ≤ 24) sh.consequents
  -- what the answer says
  pub consequents : length sh.consequents ≡ (answer s).k
  pub size : length ls ≡ (answer s).rows
  pub short : (answer s).rows ≤ 176
  pub count : (answer s).count ≡ count sh
  pub most : (answer s).count ≤ most_antiscenarios
  -- the memory has the lines, row by row
  pub memory : (m : List ℕ) → 1056 ≤ length m → lines_in (lay 0 ls m) 0 (answer s).rows ≡ ls

-- An answer without a refusal, taken apart

pub record Closed (k : ℕ) (t : Taken) : Type 0 where
  pub none : t.number ≡ 0
  pub is : closing k t ≡ accepted k (length t.lines) (count (sheet_of k t.lines))

closed : (k : ℕ) (t : Taken) → (closing k t).refusal ≡ 0 → Closed k t
unfolding closing
closed k t e = go (eqb t.number 0) refl e
  where
    go : (b : Bool) → eqb t.number 0 ≡ b → (cond b (accepted k (length t.lines) (count (sheet_of k t.lines))) (refused t.number t.row)).refusal ≡ 0 → Closed k t
    go true x e = record { none = eqb-true t.number 0 x; is = simp x }
    go false x e = absurd (eqb-false t.number 0 x e)

pub record Taken·all (s : List ℕ) : Type 0 where
  pub head : (head_of s).refusal ≡ 0
  pub is : taken s ≡ rows_from (head_of s).k s 0 (head_of s).rows start

taken-all : (s : List ℕ) → (taken s).number ≡ 0 → Taken·all s
unfolding taken
taken-all s e = go (eqb (head_of s).refusal 0) refl e
  where
    go : (b : Bool) → eqb (head_of s).refusal 0 ≡ b → (cond b (rows_from (head_of s).k s 0 (head_of s).rows start) (stop (head_of s).refusal 0)).number ≡ 0 → Taken·all s
    go true x e = record { head = eqb-true (head_of s).refusal 0 x; is = simp x }
    go false x e = absurd (eqb-false (head_of s).refusal 0 x e)

-- THE THEOREM: a sheet that is accepted
module _ (s : List ℕ) (e : (answer s).refusal ≡ 0) where
  k : ℕ
  k = (head_of s).k

  ls : List Line
  ls = (taken s).lines

  C : Closed k (taken s)
  unfolding k answer
  C = closed (head_of s).k (taken s) e

  said : answer s ≡ accepted k (length ls) (count (sheet_of k ls))
  unfolding k ls answer
  said = C.is

  T : Taken·all s
  T = taken-all s C.none

  none : (rows_from k s 0 (head_of s).rows start).number ≡ 0
  unfolding k
  none = ap (λ (t : Taken). t.number) (sym T.is) ∙ C.none

  all-accepted : Accepted k start ls
  unfolding k ls
  all-accepted = subst (λ (t : Taken). Accepted (head_of s).k start t.lines) (sym T.is) (fine (head_of s).k s (head_of s).rows 0 start none)

  all_there : length ls ≡ (head_of s).rows
  unfolding k ls
  all_there = ap (λ (t : Taken). length t.lines) T.is ∙ rows-full (head_of s).k s (head_of s).rows 0 start none

  k6 : k ≤ 6
  unfolding k
  k6 = (head_good s T.head).k

  r176 : (head_of s).rows ≤ 176
  r176 = (head_good s T.head).rows

  pub few_rows : (answer s).rows ≤ 176
  few_rows = omega (arith, ap (λ (a : Answer). a.rows) said, all_there, r176)

  found : (m : List ℕ) → 1056 ≤ length m → lines_in (lay 0 ls m) 0 (answer s).rows ≡ ls
  found m h = ap (λ (a : Answer). lines_in (lay 0 ls m) 0 a.rows) said ∙ lines-back ls 0 m (omega (arith, all_there, r176))

  spelt : s ≡ sheet_text (answer s).k ls
  unfolding k ls
  spelt =
      text-only s (head_good s T.head) start none (ap (λ (t : Taken). length t.lines) (sym T.is) ∙ all_there)
      ∙ ap₂ sheet_text (sym (ap (λ (a : Answer). a.k) said)) (ap (λ (t : Taken). t.lines) (sym T.is))

  few : count (sheet_of k ls) ≤ most_antiscenarios
  few = count_most k ls all-accepted k6

  sheet : AcceptedSheet s (sheet_of k ls) ls
  unfolding sheet_of sections
  sheet = record {
    read = sheet_read k k6 ls all-accepted;
    rows = lines-tagged k ls start all-accepted;
    numbers = lines-numbers k ls start all-accepted;
    text = spelt;
    antecedent-room = antecedent-room k ls all-accepted;
    consequent-room = consequents-room k ls all-accepted k 1 (omega arith);
    consequents = sections-length ls k 1 ∙ sym (ap (λ (a : Answer). a.k) said);
    size = sym (ap (λ (a : Answer). a.rows) said);
    short = omega (arith, ap (λ (a : Answer). a.rows) said, all_there, r176);
    count = ap (λ (a : Answer). a.count) said;
    most = subst (λ (n : ℕ). n ≤ most_antiscenarios) (sym (ap (λ (a : Answer). a.count) said)) few;
    memory = found;
  }

  pub accepted-sheet : AcceptedSheet s (sheet_of (answer s).k (taken s).lines) (taken s).lines
  unfolding ls
  accepted-sheet = subst (λ (j : ℕ). AcceptedSheet s (sheet_of j ls) ls) (sym (ap (λ (a : Answer). a.k) said)) sheet

-- Its rows one by one
pub record AcceptedRows (k : ℕ) (ls : List Line) : Type 0 where
  pub few : k ≤ 6
  pub passed : Accepted k start ls
  pub columns : All Fits ls

pub accepted-rows : (s : List ℕ) → (answer s).refusal ≡ 0 → AcceptedRows (answer s).k (taken s).lines
unfolding k ls
accepted-rows s e =
    subst (λ (j : ℕ). AcceptedRows j (ls s e)) (sym (ap (λ (a : Answer). a.k) (said s e)))
    (record { few = k6 s e; passed = all-accepted s e; columns = in_columns (k s e) start (ls s e) (all-accepted s e) })

-- Demand 3 of every accepted sheet
pub accepted-demand : (s : List ℕ) → (answer s).refusal ≡ 0 → (g : Log) → All (λ (e : ℕ). e < event_count) g.events
    → Demand (run_of g) (sheet_of (answer s).k (taken s).lines) (check (run_of g) (sheet_of (answer s).k (taken s).lines))
    (λ m. smallest_matching (run_of g) (antiscenario (sheet_of (answer s).k (taken s).lines) m))
accepted-demand s e g h = demand-three g h (sheet_of (answer s).k (taken s).lines) (accepted-sheet s e).read
