-- The lines of a sheet in memory are fair, so that what is built from them is the antiscenario.
-- Assumes nothing.
use mathlib.Core.Path.{◌≡◌, sym, ◌∙◌, subst}
use mathlib.Core.List.{List, [], ◌∷◌, map}
use Prim.Native.Nat.{ℕ, suc, ◌+◌, ◌-◌, ◌≤◌, ◌<◌}
use native.Mathlib.Omega.{arith}
use lib.ListN.{length}
use Rattle.scenario.specs.Rows.{Row, point, next, last, earlier, later, before, apart, same, free, within, outside, event, introduced, points}
use Rattle.scenario.specs.Fields.{Fields, fields, five, decode, row_of, Tagged, tagged, written}
use Rattle.scenario.specs.Sheet.{Sheet}
use Rattle.scenario.specs.Reading.{All, SheetRead, RowsRead, SectionsRead}
use Rattle.scenario.proofs.Base.{all_append, all_map}
use Rattle.row.specs.declared.Line.{Line}
use Rattle.row.specs.Row.{row_in}
use Rattle.row.specs.Memory.{line_in, lines_in, row_at, tags_of}
use Rattle.row.proofs.Memory.{listed-lines}
use Rattle.scenario.proofs.Numbers.{any-kind}
use Rattle.sheet.specs.Reading.{Answer}
use Rattle.sheet.specs.Held.{sheet_at, SheetLoaded}
use Rattle.sheet.specs.Text.{numbers_of}
use Rattle.sheet.proofs.Theorems.{tag}
use Rattle.text.proofs.Lines.{at-line}
use Rattle.denial.specs.Build.{built}
use Rattle.denial.proofs.Choice.{Fair, built-is}

-- kinds are 1 to 12
abbrev Kind : ℕ → Type 0
Kind k = (1 ≤ k) × (k ≤ 12)

kind_range : (r : Row) → Kind (fields r).kind
unfolding fields
kind_range (point p s) = (omega arith, omega arith)
kind_range (next p q s) = (omega arith, omega arith)
kind_range (last p q s) = (omega arith, omega arith)
kind_range (earlier p q a) = (omega arith, omega arith)
kind_range (later p q a) = (omega arith, omega arith)
kind_range (before p q) = (omega arith, omega arith)
kind_range (apart p q) = (omega arith, omega arith)
kind_range (same p q) = (omega arith, omega arith)
kind_range (free p q s) = (omega arith, omega arith)
kind_range (within p q lo hi) = (omega arith, omega arith)
kind_range (outside p q lo hi) = (omega arith, omega arith)
kind_range (event p s) = (omega arith, omega arith)

-- points of consequents are below 100
abbrev Below : Row → Type 0
Below r = All (λ (p : ℕ). p < 100) (introduced r)

abbrev Low : Tagged → Type 0
Low t = 1 ≤ t.section → Below t.row

rows-below : (a i c : ℕ) → i ≤ 6 → (rs : List Row) → RowsRead a i c rs → All (λ (r : Row). Low (record { section = i; row = r })) rs
rows-below a i c h [] R = tt
rows-below a i c h (r ∷ rs) R = (λ p. all_map (λ x e. omega (arith, e.0, e.1)) (introduced r) R.0.due, rows-below a i (length (introduced r) + c) h rs R.1)

tag-all : (i : ℕ) (rs : List Row) → All (λ (r : Row). Low (record { section = i; row = r })) rs → All Low (map (λ (r : Row). record { section = i; row = r }) rs)
tag-all i [] A = tt
tag-all i (r ∷ rs) A = (A.0, tag-all i rs A.1)

sections-low : (a i : ℕ) (cs : List (List Row)) → i + length cs ≤ 7 → SectionsRead a i cs → All Low (tagged i cs)
unfolding tagged
sections-low a i [] h S = tt
sections-low a i (c ∷ cs) h S =
    all_append Low (map (λ (r : Row). record { section = i; row = r }) c) (tagged (suc i) cs) (tag-all i c (rows-below a i 0 (omega arith) c S.0)) (sections-low a (suc i) cs (omega arith) S.1)

none-low : (rs : List Row) → All (λ (r : Row). Low (record { section = 0; row = r })) rs
none-low [] = tt
none-low (r ∷ rs) = (λ p. absurd (omega arith), none-low rs)

sheet-low : (sh : Sheet) → SheetRead sh → All Low (tagged 0 (sh.antecedent ∷ sh.consequents))
unfolding tagged
sheet-low sh R =
    all_append Low (map (λ (r : Row). record { section = 0; row = r }) sh.antecedent) (tagged 1 sh.consequents) (tag-all 0 sh.antecedent (none-low sh.antecedent))
    (sections-low (length (points sh.antecedent)) 1 sh.consequents (omega (arith, R.count)) R.consequents)

untag : (ls : List Line) → All Low (map tag ls) → All (λ (l : Line). Low (tag l)) ls
untag [] A = tt
untag (l ∷ ls) A = (A.0, untag ls A.1)

module _ (p q a b : ℕ) where
  abbrev First : ℕ → Type 0
  First k = 1 ≤ k → k ≤ 5 → Below (row_of k p q a b) → p < 100

  first_below : (k : ℕ) → First k
  unfolding decode
  first_below =
      any-kind First
      (λ lo hi h. absurd (omega arith))
      (λ lo hi h. h.0) (λ lo hi h. h.0) (λ lo hi h. h.0) (λ lo hi h. h.0) (λ lo hi h. h.0)
      (λ lo hi h. absurd (omega arith)) (λ lo hi h. absurd (omega arith)) (λ lo hi h. absurd (omega arith)) (λ lo hi h. absurd (omega arith)) (λ lo hi h. absurd (omega arith)) (λ lo hi h. absurd (omega arith)) (λ lo hi h. absurd (omega arith))
      (λ k lo hi h. absurd (omega arith))

fair_line : (l : Line) → fields (row_in l) ≡ five l.kind l.p l.q l.a l.b → Low (tag l) → Fair l
unfolding row_in
fair_line l e h =
    let k : Kind l.kind = subst (λ (f : Fields). Kind f.kind) e (kind_range (row_in l)) in
    record { numbers = e; low = k.0; high = k.1; small = λ s five. first_below l.p l.q l.a l.b l.kind k.0 five (h s) }

fair_lines : (ls : List Line) → All (λ (l : Line). fields (row_in l) ≡ five l.kind l.p l.q l.a l.b) ls → All (λ (l : Line). Low (tag l)) ls → All Fair ls
fair_lines [] N L = tt
fair_lines (l ∷ ls) N L = (fair_line l N.0 L.0, fair_lines ls N.1 L.1)

-- sections are 0 to 6
abbrev Six : Tagged → Type 0
Six t = t.section ≤ 6

six-rows : (i : ℕ) → i ≤ 6 → (rs : List Row) → All Six (map (λ (r : Row). record { section = i; row = r }) rs)
six-rows i h [] = tt
six-rows i h (r ∷ rs) = (h, six-rows i h rs)

six-sections : (i : ℕ) (cs : List (List Row)) → i + length cs ≤ 7 → All Six (tagged i cs)
unfolding tagged
six-sections i [] h = tt
six-sections i (c ∷ cs) h = all_append Six (map (λ (r : Row). record { section = i; row = r }) c) (tagged (suc i) cs) (six-rows i (omega arith) c) (six-sections (suc i) cs (omega arith))

six-lines : (ls : List Line) → All Six (map tag ls) → All (λ (l : Line). l.section ≤ 6) ls
six-lines [] A = tt
six-lines (l ∷ ls) A = (A.0, six-lines ls A.1)

-- THE THEOREM, of a sheet in memory as reading leaves it
module _ (rows : List ℕ) (read : Answer) (L : SheetLoaded rows read) where
  abbrev sheet : Sheet
  sheet = sheet_at rows read.rows read.k

  abbrev lines : List Line
  lines = lines_in rows 0 read.rows

  tags-are : tagged 0 (sheet.antecedent ∷ sheet.consequents) ≡ map tag lines
  unfolding tags_of row_at line_in
  tags-are = sym L.held.tags ∙ listed-lines tag rows read.rows 0

  pub all_fair : All Fair lines
  all_fair = fair_lines lines L.numbers (untag lines (subst (All Low) tags-are (sheet-low sheet L.held.read)))

  pub all-six : All (λ (l : Line). l.section ≤ 6) lines
  all-six = six-lines lines (subst (All Six) tags-are (six-sections 0 (sheet.antecedent ∷ sheet.consequents) (omega (arith, L.held.read.count))))

  pub built-written : (number : ℕ) → built rows read.rows read.k (number - 1) ≡ map numbers_of (written sheet number)
  built-written = built-is rows read.rows (λ i h. at-line Fair rows read.rows 0 all_fair i (omega arith) (omega arith)) read.k L.held.read
