-- What `build` leaves in memory is the antiscenario of the number.
-- Assumes nothing.
use mathlib.Core.Path.{◌≡◌, refl, sym, ap, ap₂, ◌∙◌, subst}
use mathlib.Core.List.{List, [], ◌∷◌, ◌++◌, map}
use Prim.Native.Nat.{ℕ, zero, suc, ◌-◌, ◌≤◌, ◌<◌}
use native.Mathlib.Omega.{arith}
use lib.ListN.{length, replicate, length-replicate}
use borrow.Author.Tests.{le-leb, lt-leb}
use Rattle.scenario.specs.Rows.{Row, points}
use Rattle.scenario.specs.Fields.{Tagged, tagged, written}
use Rattle.scenario.specs.Sheet.{Sheet, flat, chosen, count, antiscenario}
use Rattle.scenario.specs.Reading.{All, Pattern}
use Rattle.scenario.proofs.Patterns.{antiscenario-pattern, antiscenario-few-points, antiscenario-few_rows}
use Rattle.scenario.proofs.Numbers.{decode-fields}
use Rattle.row.specs.declared.Line.{Line}
use Rattle.row.specs.Row.{row_in}
use Rattle.row.specs.Memory.{lay, lines_in, row_at, rows_of}
use Rattle.row.proofs.Memory.{listed-lines, lines-back, lay-length}
use Rattle.sheet.specs.Reading.{Answer}
use Rattle.sheet.specs.Reading.{sheet_in, count_in, taken, answer}
use Rattle.sheet.specs.Count.{product}
use Rattle.sheet.specs.Text.{Fits, numbers_of}
use Rattle.sheet.specs.Held.{sheet_at, SheetLoaded}
use Rattle.sheet.proofs.Theorems.{accepted-sheet}
use Rattle.sheet.proofs.Denials.{count-product}
use Rattle.denial.specs.Build.{built}
use Rattle.antiscenario.specs.Numbers.{number_refusal}
use Rattle.antiscenario.specs.Held.{AntiscenarioHeld}
use Rattle.antiscenario.specs.Write.{written_lines}
use Rattle.antiscenario.proofs.Accept.{built-written}
use Rattle.antiscenario.proofs.Bound.{built-few}
use Rattle.antiscenario.proofs.Fitting.{written-fits}
use Rattle.sheet.proofs.Held.{sheet_is}

-- of the sheet in memory, of the text
pub held_of_text : (s : List ℕ) (r : Answer) (e : r ≡ answer s) (z : r.refusal ≡ 0) (mem m₀ : List ℕ) (room : 1056 ≤ length m₀) (f : mem ≡ lay 0 (taken s).lines m₀)
    → (number : ℕ) (out : List ℕ) (n : ℕ) → AntiscenarioHeld (sheet_at mem r.rows r.k) number out n → AntiscenarioHeld (sheet_in s) number out n
held_of_text s r e z mem m₀ room f number out n A = subst (λ (y : Sheet). AntiscenarioHeld y number out n) (sheet_is s r e z mem m₀ room f) A

-- The number

pub number-low : (n number : ℕ) → number < 1 → 31 ≡ number_refusal n number
number-low n number h = simp (lt-leb 1 number h)

pub number-high : (n number : ℕ) → 1 ≤ number → n < number → 31 ≡ number_refusal n number
number-high n number l h = simp (le-leb 1 number l, lt-leb number n h)

pub number-out : (n number : ℕ) → (1 ≤ number → n < number) → 31 ≡ number_refusal n number
number-out n zero h = number-low n zero (omega arith)
number-out n (suc m) h = number-high n (suc m) (omega arith) (h (omega arith))

pub number-taken : (n number : ℕ) → 1 ≤ number → number ≤ n → 0 ≡ number_refusal n number
number-taken n number l h = simp (le-leb 1 number l, le-leb number n h)

-- The rows: of written lines they are those that were written

rows_append : (xs ys : List Row) (s : ℕ) (ts : List Line) → map row_in ts ≡ ys → map row_in (map numbers_of (map (λ (r : Row). record { section = s; row = r }) xs) ++ ts) ≡ xs ++ ys
unfolding numbers_of row_in
rows_append [] ys s ts h = h
rows_append (x ∷ xs) ys s ts h = ap₂ (λ (r : Row) (rs : List Row). r ∷ rs) (decode-fields x) (rows_append xs ys s ts h)

map_both : (a b : List Tagged) → map numbers_of (a ++ b) ≡ map numbers_of a ++ map numbers_of b
map_both [] b = refl
map_both (x ∷ a) b = ap (λ (l : List Line). numbers_of x ∷ l) (map_both a b)

rows-tagged : (cs : List (List Row)) (i : ℕ) → map row_in (map numbers_of (tagged i cs)) ≡ flat cs
unfolding tagged flat
rows-tagged [] i = refl
rows-tagged (c ∷ cs) i =
    ap (map row_in) (map_both (map (λ (r : Row). record { section = i; row = r }) c) (tagged (suc i) cs))
    ∙ rows_append c (flat cs) i (map numbers_of (tagged (suc i) cs)) (rows-tagged cs (suc i))

pub rows_written : (sheet : Sheet) (number : ℕ) → map row_in (map numbers_of (written sheet number)) ≡ antiscenario sheet number
unfolding written antiscenario flat
rows_written sheet number = rows-tagged (sheet.antecedent ∷ chosen sheet number) 0

-- THE THEOREM, of a sheet in memory and of what `build` stored: n rows in out

module _ (rows : List ℕ) (read : Answer) (L : SheetLoaded rows read) where
  pub few_consequents : read.k ≤ 6
  few_consequents = omega (arith, L.held.consequents, L.held.read.count)

  pub product_is : read.count ≡ product 1 read.k (lines_in rows 0 read.rows)
  product_is = L.count ∙ count-product read.k (lines_in rows 0 read.rows)

  module _ (number : ℕ) (out o₀ : List ℕ) (n : ℕ) (big : 1200 ≤ length o₀) (g : n ≡ length (built rows read.rows read.k (number - 1))) (h : out ≡ lay 0 (built rows read.rows read.k (number - 1)) o₀) where
    abbrev sheet : Sheet
    sheet = sheet_at rows read.rows read.k

    pub few-built : n ≤ 194
    few-built = omega (arith, g, built-few rows read.rows read.k (number - 1), L.held.few, few_consequents)

    lines-built : lines_in out 0 n ≡ map numbers_of (written sheet number)
    lines-built =
        ap₂ (λ (m : List ℕ) (c : ℕ). lines_in m 0 c) h g
        ∙ lines-back (built rows read.rows read.k (number - 1)) 0 o₀ (omega (arith, g, few-built, big))
        ∙ built-written rows read L number

    rows-built : rows_of out n ≡ antiscenario sheet number
    unfolding rows_of row_at
    rows-built = listed-lines row_in out n 0 ∙ ap (map row_in) lines-built ∙ rows_written sheet number

    pub antiscenario-held : 1 ≤ number → number ≤ read.count → AntiscenarioHeld sheet number out n
    antiscenario-held low high = record {
      rows_are = rows-built;
      pattern = subst Pattern (sym rows-built) (antiscenario-pattern sheet L.held.read number low (omega (arith, high, L.count)));
      lines_are = lines-built;
      columns = subst (All Fits) (sym lines-built) (written-fits rows read L number);
      few = few-built;
      room = omega (arith, few-built, big, ap length h, lay-length 0 (built rows read.rows read.k (number - 1)) o₀);
    }

-- As many lines are written as the antiscenario has rows
lines_rows : (ls : List Line) → length (map row_in ls) ≡ length ls
lines_rows [] = refl
lines_rows (l ∷ ls) = ap suc (lines_rows ls)

pub written-size : (s : List ℕ) (number : ℕ) → length (written_lines s number) ≡ length (antiscenario (sheet_in s) number)
unfolding written_lines
written-size s number = sym (lines_rows (written_lines s number)) ∙ ap length (rows_written (sheet_in s) number)

-- "At most 58 points and 98 rows": 32 of the antecedent, and 11 of each of at most 6 consequents.
pub written-few : (s : List ℕ) → (answer s).refusal ≡ 0 → (number : ℕ) → 1 ≤ number → number ≤ count_in s → (length (points (antiscenario (sheet_in s) number)) ≤ 58) × (length (written_lines s number) ≤ 98)
written-few s e number low high =
    let S = accepted-sheet s e in
    let h : number ≤ count (sheet_in s) = omega (arith, S.count) in (
      antiscenario-few-points (sheet_in s) S.read number low h,
      omega (arith, written-size s number, antiscenario-few_rows (sheet_in s) S.read number low h, S.antecedent-room, S.read.count),
    )

pub room_1200 : 1200 ≤ length (replicate {A = ℕ} 1200 0)
room_1200 = omega (arith, length-replicate {A = ℕ} 1200 0)
