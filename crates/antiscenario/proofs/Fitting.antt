-- The numbers of an antiscenario fit their columns.
-- Assumes nothing.
use mathlib.Core.Path.{sym, subst}
use mathlib.Core.Bool.{Bool, true, false, cond}
use mathlib.Core.List.{List, [], ◌∷◌, ◌++◌, map}
use Prim.Native.Nat.{ℕ, zero, suc, ◌+◌, ◌*◌, ◌-◌, ◌/◌, ◌%◌, ◌≤◌, ◌<◌}
use native.Mathlib.Omega.{arith}
use lib.ListN.{get_or, replicate}
use lib.Dec.{eqb, ltb}
use Rattle.columns.specs.Number.{largest}
use Rattle.scenario.specs.Rows.{Row, point, next, last, earlier, later, before, apart, same, free, within, outside, event, upper_half, denying_rows, denying_free, End, start, close, inner, end, complement}
use Rattle.scenario.specs.Fields.{Fields, fields, written}
use Rattle.scenario.specs.Reading.{All, IsEvents}
use Rattle.scenario.proofs.Base.{all_append}
use Rattle.scenario.proofs.Halves.{lower_half-fits, upper_half-fits, complement-events}
use Rattle.row.specs.declared.Line.{Line}
use Rattle.row.specs.Row.{row_in}
use Rattle.row.specs.Memory.{line_in, lines_in}
use Rattle.sheet.specs.Reading.{Answer}
use Rattle.sheet.specs.Held.{sheet_at, SheetLoaded}
use Rattle.sheet.specs.Count.{weigh_line, product}
use Rattle.sheet.specs.Text.{Fits, numbers_of}
use Rattle.denial.specs.Build.{line_from, own, denied, denial_from, chosen_from, of_section, built}
use Rattle.order.specs.Ending.{far_in}
use Rattle.order.proofs.Ending.{far_small}
use Rattle.introduction.specs.Bringing.{uses, marked, wanted, brought}
use Rattle.denial.proofs.Choice.{Fair}
use Rattle.text.proofs.Lines.{at-line}
use Rattle.antiscenario.proofs.Accept.{all_fair, all-six, built-written}

-- The own rows of denials fit

abbrev FitsF : Fields → Type 0
FitsF f = (f.p < 1000) × (f.q < 1000) × (f.a ≤ largest) × (f.b ≤ largest)

module _ (s z r : ℕ) (hs : s < 1000) (hz : z < 1000) (hr : r < 1000) where
  abbrev Own : List (List Row) → Type 0
  Own = All (All (λ (x : Row). Fits (line_from s x)))

  point-fits : (p a : ℕ) → p < 1000 → upper_half a ≤ largest → Fits (line_from s (point p a))
  unfolding line_from numbers_of fields
  point-fits p a hp ha = record { section = hs; kind = omega arith; p = hp; q = omega arith; a = lower_half-fits a; b = ha }

  before-fits : (p q : ℕ) → p < 1000 → q < 1000 → Fits (line_from s (before p q))
  unfolding line_from numbers_of fields
  before-fits p q hp hq = record { section = hs; kind = omega arith; p = hp; q = hq; a = omega arith; b = omega arith }

  free-fits : (p q a : ℕ) → p < 1000 → q < 1000 → upper_half a ≤ largest → (x y : End) → Own (denying_free r p q a x y)
  unfolding denying_free
  free-fits p q a hp hq ha start start = tt
  free-fits p q a hp hq ha start close = ((point-fits r a hr ha, tt), tt)
  free-fits p q a hp hq ha start inner = ((point-fits r a hr ha, (before-fits r q hr hq, tt)), tt)
  free-fits p q a hp hq ha close start = ((point-fits r a hr ha, tt), tt)
  free-fits p q a hp hq ha close close = tt
  free-fits p q a hp hq ha close inner = ((point-fits r a hr ha, (before-fits q r hq hr, tt)), tt)
  free-fits p q a hp hq ha inner start = ((point-fits r a hr ha, (before-fits r p hr hp, tt)), tt)
  free-fits p q a hp hq ha inner close = ((point-fits r a hr ha, (before-fits p r hp hr, tt)), tt)
  free-fits p q a hp hq ha inner inner = ((point-fits r a hr ha, (before-fits p r hp hr, (before-fits r q hr hq, tt))), ((point-fits r a hr ha, (before-fits q r hq hr, (before-fits r p hr hp, tt))), tt))

  deny_fits : (x : Row) → FitsF (fields x) → Own (denying_rows z r x)
  unfolding denying_rows fields line_from numbers_of IsEvents
  deny_fits (point p a) F = tt
  deny_fits (next p q a) F = ((record { section = hs; kind = omega arith; p = F.1; q = hz; a = F.2; b = F.3 }, tt), tt)
  deny_fits (last p q a) F = ((record { section = hs; kind = omega arith; p = hz; q = F.1; a = F.2; b = F.3 }, tt), tt)
  deny_fits (earlier p q a) F = tt
  deny_fits (later p q a) F = tt
  deny_fits (before p q) F = ((before-fits q p F.1 F.0, tt), ((record { section = hs; kind = omega arith; p = F.0; q = F.1; a = omega arith; b = omega arith }, tt), tt))
  deny_fits (apart p q) F = ((record { section = hs; kind = omega arith; p = F.0; q = F.1; a = omega arith; b = omega arith }, tt), tt)
  deny_fits (same p q) F = ((record { section = hs; kind = omega arith; p = F.0; q = F.1; a = omega arith; b = omega arith }, tt), tt)
  deny_fits (free p q a) F = free-fits p q a F.0 F.1 F.3 (end p) (end q)
  deny_fits (within p q lo hi) F = ((record { section = hs; kind = omega arith; p = F.0; q = F.1; a = F.2; b = F.3 }, tt), tt)
  deny_fits (outside p q lo hi) F = ((record { section = hs; kind = omega arith; p = F.0; q = F.1; a = F.2; b = F.3 }, tt), tt)
  deny_fits (event p a) F =
      ((record { section = hs; kind = omega arith; p = F.0; q = omega arith; a = lower_half-fits (complement a); b = upper_half-fits (complement a) (complement-events a) }, tt), tt)

all_get_d : {A : Type 0} (P : A → Type 0) (d : A) (l : List A) → All P l → P d → (j : ℕ) → P (get_or l j d)
all_get_d P d [] a p j = p
all_get_d P d (x ∷ l) a p zero = a.0
all_get_d P d (x ∷ l) a p (suc j) = all_get_d P d l a.1 p j

all_lines : (s : ℕ) (d : List Row) → All (λ (x : Row). Fits (line_from s x)) d → All Fits (map (line_from s) d)
all_lines s [] A = tt
all_lines s (x ∷ d) A = (A.0, all_lines s d A.1)

own-fits : (far : ℕ) (l : Line) (v : ℕ) → far < 1000 → Fits l → Fair l → l.section ≤ 6 → All Fits (own far l v)
unfolding own
own-fits far l v z F G h =
    all_lines l.section (get_or (denying_rows far (10 * l.section + 9) (row_in l)) v [])
    (all_get_d (All (λ (x : Row). Fits (line_from l.section x))) [] (denying_rows far (10 * l.section + 9) (row_in l))
    (deny_fits l.section far (10 * l.section + 9) (omega arith) z (omega arith) (row_in l)
    (subst FitsF (sym G.numbers) (F.p, F.q, F.a, F.b))) tt v)

-- All that is built fits
pub record Plain (l : Line) : Type 0 where
  pub fits : Fits l
  pub fair : Fair l
  pub section : l.section ≤ 6

module _ (m : List ℕ) (n : ℕ) (plain : (i : ℕ) → i < n → Plain (line_in m i)) where
  brought-fits : (s i : ℕ) (marks : List ℕ) → i ≤ n → All Fits (brought m s marks i)
  unfolding brought
  brought-fits s zero marks h = tt
  brought-fits s (suc i) marks h = go (wanted marks s (line_in m i)) (λ marks. brought-fits s i marks (omega arith))
    where
      go : (b : Bool) → ((marks : List ℕ) → All Fits (brought m s marks i)) → All Fits (cond b (brought m s (marked marks (uses (line_in m i))) i ++ (line_in m i ∷ [])) (brought m s marks i))
      go true f = all_append Fits (brought m s (marked marks (uses (line_in m i))) i) (line_in m i ∷ []) (f (marked marks (uses (line_in m i)))) ((plain i (omega arith)).fits, tt)
      go false f = f marks

  denied-fits : (i v : ℕ) → i < n → All Fits (denied m n i v)
  unfolding denied
  denied-fits i v h =
      all_append Fits (brought m (line_in m i).section (marked (replicate 100 0) (uses (line_in m i))) i) (own (far_in m n (line_in m i)) (line_in m i) v)
      (brought-fits (line_in m i).section i (marked (replicate 100 0) (uses (line_in m i))) (omega arith)) (own-fits (far_in m n (line_in m i)) (line_in m i) v (far_small m n (line_in m i)) (plain i h).fits (plain i h).fair (plain i h).section)

  denial_fits : (s left i j : ℕ) → i + left ≤ n → All Fits (denial_from m n s i left j)
  unfolding denial_from
  denial_fits s zero i j h = tt
  denial_fits s (suc left) i j h = go (ltb j (weigh_line s (line_in m i))) (denial_fits s left (suc i) (j - weigh_line s (line_in m i)) (omega arith))
    where
      go : (b : Bool) → All Fits (denial_from m n s (suc i) left (j - weigh_line s (line_in m i))) → All Fits (cond b (denied m n i j) (denial_from m n s (suc i) left (j - weigh_line s (line_in m i))))
      go true f = denied-fits i j (omega arith)
      go false f = f

  chosen-fits : (left s j : ℕ) → All Fits (chosen_from m n s left j)
  unfolding chosen_from
  chosen-fits zero s j = tt
  chosen-fits (suc left) s j =
      all_append Fits (denial_from m n s 0 n (j / product (suc s) left (lines_in m 0 n))) (chosen_from m n (suc s) left (j % product (suc s) left (lines_in m 0 n)))
      (denial_fits s n 0 (j / product (suc s) left (lines_in m 0 n)) (omega arith)) (chosen-fits left (suc s) (j % product (suc s) left (lines_in m 0 n)))

  section_fits_lem : (s left i : ℕ) → i + left ≤ n → All Fits (of_section s (lines_in m i left))
  unfolding of_section lines_in
  section_fits_lem s zero i h = tt
  section_fits_lem s (suc left) i h = go (eqb (line_in m i).section s) (section_fits_lem s left (suc i) (omega arith))
    where
      go : (b : Bool) → All Fits (of_section s (lines_in m (suc i) left)) → All Fits (cond b (line_in m i ∷ of_section s (lines_in m (suc i) left)) (of_section s (lines_in m (suc i) left)))
      go true f = ((plain i (omega arith)).fits, f)
      go false f = f

  pub built-fits : (k j : ℕ) → All Fits (built m n k j)
  unfolding built
  built-fits k j = all_append Fits (of_section 0 (lines_in m 0 n)) (chosen_from m n 1 k j) (section_fits_lem 0 n 0 (omega arith)) (chosen-fits k 1 j)

plain_lines : (ls : List Line) → All Fits ls → All Fair ls → All (λ (l : Line). l.section ≤ 6) ls → All Plain ls
plain_lines [] F G S = tt
plain_lines (l ∷ ls) F G S = (record { fits = F.0; fair = G.0; section = S.0 }, plain_lines ls F.1 G.1 S.1)

-- THE THEOREM, of a sheet in memory: every number of every antiscenario's rows has a spelling in its columns.
module _ (rows : List ℕ) (read : Answer) (L : SheetLoaded rows read) where
  all_plain : (i : ℕ) → i < read.rows → Plain (line_in rows i)
  all_plain i h = at-line Plain rows read.rows 0 (plain_lines (lines_in rows 0 read.rows) L.columns (all_fair rows read L) (all-six rows read L)) i (omega arith) (omega arith)

  pub written-fits : (number : ℕ) → All Fits (map numbers_of (written (sheet_at rows read.rows read.k) number))
  written-fits number = subst (All Fits) (built-written rows read L number) (built-fits rows read.rows all_plain read.k (number - 1))
