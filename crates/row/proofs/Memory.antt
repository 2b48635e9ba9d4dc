-- Rows stored in memory are found again, and nothing else changes.
-- Assumes nothing.
use mathlib.Core.Path.{◌≡◌, refl, ap, ap₂, ◌∙◌}
use mathlib.Core.List.{◌∷◌, Memᴰ, List, [], map, ◌++◌}
use Prim.Native.Nat.{ℕ, zero, suc, ◌+◌, ◌≤◌, ◌<◌, ◌*◌}
use native.Mathlib.Omega.{arith}
use Rattle.scenario.proofs.Base.{Order, lower, level, upper, order}
use Rattle.scenario.specs.Reading.{All}
use Rattle.row.specs.Memory.{listed, put, lay, line_in, lines_in}
use lib.ListN.{length, length-set, get_or, set}
use Rattle.row.specs.declared.Line.{Line}
use mathlib.Core.Logic.{◌⊎◌, inl, inr}
use lib.Seq.{get_or-set_same, get_or-set_other}

-- Rows by index

pub listed_mem : {A : Type 0} (f : ℕ → A) (j left i : ℕ) → j ≤ i → i < j + left → Memᴰ (f i) (listed f j left)
unfolding listed
listed_mem f j zero i a b = absurd (omega arith)
listed_mem f j (suc left) i a b = go (order i j) (λ l. listed_mem f (suc j) left i l (omega arith))
  where
    go : Order i j → (suc j ≤ i → Memᴰ (f i) (listed f (suc j) left)) → Memᴰ (f i) (f j ∷ listed f (suc j) left)
    go (lower l) r = absurd (omega arith)
    go (level e) r = Memᴰ.head (ap f e)
    go (upper l) r = Memᴰ.tail (r l)

pub listed-all : {A : Type 0} (Q : A → Type 0) (f : ℕ → A) (j left : ℕ) → ((i : ℕ) → j ≤ i → i < j + left → Q (f i)) → All Q (listed f j left)
unfolding listed
listed-all Q f j zero h = tt
listed-all Q f j (suc left) h = (h j (omega arith) (omega arith), listed-all Q f (suc j) left (λ i a b. h i (omega arith) (omega arith)))

-- Stored rows

pub put-length : (i : ℕ) (l : Line) (m : List ℕ) → length (put i l m) ≡ length m
unfolding put
put-length i l m = simp length-set

pub lay-length : (i : ℕ) (ls : List Line) (m : List ℕ) → length (lay i ls m) ≡ length m
unfolding lay
lay-length i [] m = refl
lay-length i (l ∷ ls) m = lay-length (suc i) ls (put i l m) ∙ put-length i l m

-- the six stores of a row, one after another
module _ (i : ℕ) (l : Line) (m : List ℕ) where
  abbrev m1 : List ℕ
  m1 = set m (6 * i) l.section

  abbrev m2 : List ℕ
  m2 = set m1 (6 * i + 1) l.kind

  abbrev m3 : List ℕ
  m3 = set m2 (6 * i + 2) l.p

  abbrev m4 : List ℕ
  m4 = set m3 (6 * i + 3) l.q

  abbrev m5 : List ℕ
  m5 = set m4 (6 * i + 4) l.a

-- other places than a row's are kept
put_other : (i : ℕ) (l : Line) (m : List ℕ) (j : ℕ) → (j < 6 * i) ⊎ (6 * suc i ≤ j) → get_or (put i l m) j 0 ≡ get_or m j 0
unfolding put
put_other i l m j (inl h) =
    get_or-set_other (m5 i l m) (6 * i + 5) j l.b 0 (λ e. omega arith)
    ∙ get_or-set_other (m4 i l m) (6 * i + 4) j l.a 0 (λ e. omega arith)
    ∙ get_or-set_other (m3 i l m) (6 * i + 3) j l.q 0 (λ e. omega arith)
    ∙ get_or-set_other (m2 i l m) (6 * i + 2) j l.p 0 (λ e. omega arith)
    ∙ get_or-set_other (m1 i l m) (6 * i + 1) j l.kind 0 (λ e. omega arith)
    ∙ get_or-set_other m (6 * i) j l.section 0 (λ e. omega arith)
put_other i l m j (inr h) =
    get_or-set_other (m5 i l m) (6 * i + 5) j l.b 0 (λ e. omega arith)
    ∙ get_or-set_other (m4 i l m) (6 * i + 4) j l.a 0 (λ e. omega arith)
    ∙ get_or-set_other (m3 i l m) (6 * i + 3) j l.q 0 (λ e. omega arith)
    ∙ get_or-set_other (m2 i l m) (6 * i + 2) j l.p 0 (λ e. omega arith)
    ∙ get_or-set_other (m1 i l m) (6 * i + 1) j l.kind 0 (λ e. omega arith)
    ∙ get_or-set_other m (6 * i) j l.section 0 (λ e. omega arith)

lay-below : (i : ℕ) (ls : List Line) (m : List ℕ) (j : ℕ) → j < 6 * i → get_or (lay i ls m) j 0 ≡ get_or m j 0
unfolding lay
lay-below i [] m j h = refl
lay-below i (l ∷ ls) m j h = lay-below (suc i) ls (put i l m) j (omega arith) ∙ put_other i l m j (inl h)

-- row i is what was put there
module _ (i : ℕ) (l : Line) (m : List ℕ) (h : 6 * i + 6 ≤ length m) where
  at_0 : get_or (put i l m) (6 * i) 0 ≡ l.section
  unfolding put
  at_0 =
      get_or-set_other (m5 i l m) (6 * i + 5) (6 * i) l.b 0 (λ e. omega arith)
      ∙ get_or-set_other (m4 i l m) (6 * i + 4) (6 * i) l.a 0 (λ e. omega arith)
      ∙ get_or-set_other (m3 i l m) (6 * i + 3) (6 * i) l.q 0 (λ e. omega arith)
      ∙ get_or-set_other (m2 i l m) (6 * i + 2) (6 * i) l.p 0 (λ e. omega arith)
      ∙ get_or-set_other (m1 i l m) (6 * i + 1) (6 * i) l.kind 0 (λ e. omega arith)
      ∙ get_or-set_same m (6 * i) l.section 0 (omega arith)

  at_1 : get_or (put i l m) (6 * i + 1) 0 ≡ l.kind
  unfolding put
  at_1 =
      get_or-set_other (m5 i l m) (6 * i + 5) (6 * i + 1) l.b 0 (λ e. omega arith)
      ∙ get_or-set_other (m4 i l m) (6 * i + 4) (6 * i + 1) l.a 0 (λ e. omega arith)
      ∙ get_or-set_other (m3 i l m) (6 * i + 3) (6 * i + 1) l.q 0 (λ e. omega arith)
      ∙ get_or-set_other (m2 i l m) (6 * i + 2) (6 * i + 1) l.p 0 (λ e. omega arith)
      ∙ get_or-set_same (m1 i l m) (6 * i + 1) l.kind 0 (simp length-set (omega arith))

  at_2 : get_or (put i l m) (6 * i + 2) 0 ≡ l.p
  unfolding put
  at_2 =
      get_or-set_other (m5 i l m) (6 * i + 5) (6 * i + 2) l.b 0 (λ e. omega arith)
      ∙ get_or-set_other (m4 i l m) (6 * i + 4) (6 * i + 2) l.a 0 (λ e. omega arith)
      ∙ get_or-set_other (m3 i l m) (6 * i + 3) (6 * i + 2) l.q 0 (λ e. omega arith)
      ∙ get_or-set_same (m2 i l m) (6 * i + 2) l.p 0 (simp length-set (omega arith))

  at_3 : get_or (put i l m) (6 * i + 3) 0 ≡ l.q
  unfolding put
  at_3 =
      get_or-set_other (m5 i l m) (6 * i + 5) (6 * i + 3) l.b 0 (λ e. omega arith)
      ∙ get_or-set_other (m4 i l m) (6 * i + 4) (6 * i + 3) l.a 0 (λ e. omega arith)
      ∙ get_or-set_same (m3 i l m) (6 * i + 3) l.q 0 (simp length-set (omega arith))

  at_4 : get_or (put i l m) (6 * i + 4) 0 ≡ l.a
  unfolding put
  at_4 =
      get_or-set_other (m5 i l m) (6 * i + 5) (6 * i + 4) l.b 0 (λ e. omega arith)
      ∙ get_or-set_same (m4 i l m) (6 * i + 4) l.a 0 (simp length-set (omega arith))

  at_5 : get_or (put i l m) (6 * i + 5) 0 ≡ l.b
  unfolding put
  at_5 =
      get_or-set_same (m5 i l m) (6 * i + 5) l.b 0 (simp length-set (omega arith))

  put-here : line_in (put i l m) i ≡ l
  unfolding line_in
  put-here = rw (at_0, at_1, at_2, at_3, at_4, at_5)

line_keep : (i : ℕ) (ls : List Line) (m : List ℕ) → line_in (lay (suc i) ls m) i ≡ line_in m i
unfolding line_in
line_keep i ls m =
    let k : (j : ℕ) → j < 6 * suc i → get_or (lay (suc i) ls m) j 0 ≡ get_or m j 0 = lay-below (suc i) ls m in
    rw (k (6 * i) (omega arith), k (6 * i + 1) (omega arith), k (6 * i + 2) (omega arith), k (6 * i + 3) (omega arith), k (6 * i + 4) (omega arith), k (6 * i + 5) (omega arith))

-- rows stored are found again
pub lines-back : (ls : List Line) (i : ℕ) (m : List ℕ) → 6 * (i + length ls) ≤ length m → lines_in (lay i ls m) i (length ls) ≡ ls
unfolding lines_in lay
lines-back [] i m h = refl
lines-back (l ∷ ls) i m h =
    ap₂ ◌∷◌ (line_keep i ls (put i l m) ∙ put-here i l m (omega arith)) (lines-back ls (suc i) (put i l m) (omega (arith, put-length i l m)))

-- past the rows stored nothing changes
pub lay-above : (i : ℕ) (ls : List Line) (m : List ℕ) (j : ℕ) → 6 * (i + length ls) ≤ j → get_or (lay i ls m) j 0 ≡ get_or m j 0
unfolding lay
lay-above i [] m j h = refl
lay-above i (l ∷ ls) m j h = lay-above (suc i) ls (put i l m) j (omega arith) ∙ put_other i l m j (inr (omega arith))

-- rows in memory, read one by one, are those of its lines
pub listed-lines : {A : Type 0} (f : Line → A) (m : List ℕ) (left j : ℕ) → listed (λ (i : ℕ). f (line_in m i)) j left ≡ map f (lines_in m j left)
unfolding listed lines_in
listed-lines f m zero j = refl
listed-lines f m (suc left) j = ap (λ xs. f (line_in m j) ∷ xs) (listed-lines f m left (suc j))

-- rows after rows
pub lay_append : (xs ys : List Line) (i : ℕ) (m : List ℕ) → lay i (xs ++ ys) m ≡ lay (i + length xs) ys (lay i xs m)
unfolding lay
lay_append [] ys i m = let e : i + length {A = Line} [] ≡ i = omega arith in rw e
lay_append (x ∷ xs) ys i m =
    let e : suc i + length xs ≡ i + length (x ∷ xs) = omega arith in
    lay_append xs ys (suc i) (put i x m) ∙ ap (λ (j : ℕ). lay j ys (lay (suc i) xs (put i x m))) e

pub lay-one : (l : Line) (i : ℕ) (m : List ℕ) → lay i (l ∷ []) m ≡ put i l m
unfolding lay
lay-one l i m = refl
