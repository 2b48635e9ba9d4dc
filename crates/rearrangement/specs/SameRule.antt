-- One rule with its consequents in two orders: what both sheets say, over bytes. Document 02, A11. What must be believed.
-- Assumes nothing.
use Rattle.std.specs.Prelude.{◌≡◌, ◌↔◌, true, List, [], ◌∷◌, map, ℕ, ◌+◌, ◌≤◌, ◌<◌, length, get_or}
use Rattle.scenario.specs.Rows.{points}
use Rattle.scenario.specs.Sheet.{Sheet, Violating, Over, cut, chosen, antiscenario}
use Rattle.scenario.specs.Search.{rows_before}
use Rattle.scenario.specs.Fields.{tagged}
use Rattle.sheet.specs.Reading.{answer, sheet_in, count_in}
use Rattle.sheet.specs.Text.{sheet_text, numbers_of}
use Rattle.runlog.specs.Log.{run_in, answer as log-answer}
use Rattle.antiscenario.specs.Write.{written_text}
use Rattle.search.specs.Searching.{search_of, Searched}
use Rattle.verdict.specs.Check.{Checked}
use Rattle.verdict.specs.Check.{check_of, placement_in, rows_in}
use Rattle.rearrangement.specs.Order.{Rearrangement, reordered, rearranged, renumbered, SamePatterns}

-- "For every rearrangement of the consequents, points renumbered to fit": t is a text of the sheet s with its consequents in the new order. It is accepted, and
-- reading gives these rows back.
pub record Rearranged (s : List ℕ) (old : ℕ → ℕ) (t : List ℕ) : Type 0 where
  pub accepted : (answer t).refusal ≡ 0
  pub rows : sheet_in t ≡ rearranged (sheet_in s) old

-- Row number n of a sheet, in its consequent at place j, has become row number n' of another, in its consequent at place i: it is the same one of that
-- consequent's rows.
pub record SameRow (sheet sheet' : Sheet) (j i n n' : ℕ) : Type 0 where
  pub place : ℕ
  pub inside : place < length (get_or sheet.consequents j [])
  pub was : n ≡ rows_before sheet j + place + 1
  pub is : n' ≡ rows_before sheet' i + place + 1

-- what the check says of one log, by the sheet s and by its rearranged text t
pub record SameCheck (s : List ℕ) (old : ℕ → ℕ) (t : List ℕ) (c c' : Checked) : Type 0 where
  -- "the verdict": refused alike, holds or violated alike, with the same placement
  pub refusal : c'.refusal ≡ c.refusal
  pub violated : c'.violated ≡ c.violated
  pub placement : placement_in c' ≡ placement_in c
  -- "The rows at fault move with their consequents."
  pub consequents : c'.consequents ≡ c.consequents
  pub faults : c.violated ≡ true → (i : ℕ) → i < (answer s).k → SameRow (sheet_in s) (sheet_in t) (old i) i (get_or (rows_in c) (old i) 0) (get_or (rows_in c') i 0)

-- what searches of one pattern say, by the sheet s and by its rearranged text t: found or not alike, and cut down at the same placement
pub record SameSearch (s t : List ℕ) (r r' : Searched) : Type 0 where
  pub hit : r'.hit ≡ r.hit
  pub placement : r.hit ≡ true → cut (sheet_in t) r'.places ≡ cut (sheet_in s) r.places

-- Of an accepted sheet s, a rearrangement of its k consequents, and a text t of the rearranged sheet:
pub record SameRule (s : List ℕ) (M : Rearrangement (answer s).k) (t : List ℕ) : Type 0 where
  pub consequents : (answer t).k ≡ (answer s).k
  pub count : count_in t ≡ count_in s
  -- "the verdict", on every log, refused ones too,
  pub checked : (l : List ℕ) → SameCheck s M.old t (check_of s l) (check_of t l)
  -- "and the set of violating placements are the same";
  pub violating : (l : List ℕ) → (log-answer l).refusal ≡ 0 → (xs : List ℕ) → Violating (run_in l) (sheet_in s) xs ↔ Violating (run_in l) (sheet_in t) xs
  -- "the antiscenarios are the same patterns up to the order of their parts, each as often, under moved numbers",
  pub patterns : SamePatterns (sheet_in s) M.old
  -- as they are written too: the antecedent's rows, then the parts of m in the new order, their points renumbered;
  pub texts : (m : ℕ) → 1 ≤ m → m ≤ count_in s
      → written_text t (renumbered (sheet_in s) M.old m) ≡ sheet_text (answer s).k (map numbers_of (tagged 0 ((sheet_in s).antecedent ∷ reordered (answer s).k M.old (chosen (sheet_in s) m))))
  -- and each is found in a run exactly where it is found under its other number, whatever places are lent, if they are enough.
  pub found : (l : List ℕ) → (log-answer l).refusal ≡ 0 → (m : ℕ) → 1 ≤ m → m ≤ count_in s → (xs : List ℕ)
      → ((zs : List ℕ) × Over (run_in l) (sheet_in s) (antiscenario (sheet_in s) m) xs zs)
      ↔ ((zs : List ℕ) × Over (run_in l) (sheet_in t) (antiscenario (sheet_in t) (renumbered (sheet_in s) M.old m)) xs zs)
  pub searched : (l : List ℕ) → (log-answer l).refusal ≡ 0 → (m : ℕ) → 1 ≤ m → m ≤ count_in s → (places places' : List ℕ)
      → length (points (antiscenario (sheet_in s) m)) ≤ length places → length (points (antiscenario (sheet_in t) (renumbered (sheet_in s) M.old m))) ≤ length places'
      → SameSearch s t (search_of s l m places) (search_of t l (renumbered (sheet_in s) M.old m) places')
