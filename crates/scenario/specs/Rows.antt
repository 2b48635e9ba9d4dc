-- Rows: their kinds, when a placement meets them, the points they introduce, and what denies them. Document 01, "Kinds of row" and "Antiscenarios". What must be believed.
-- Assumes nothing.
use Rattle.std.specs.Prelude.{Bool, false, not, ◌&&◌, ◌||◌, cond, List, [], ◌∷◌, ◌++◌, map, ℕ, zero, suc, ◌+◌, ◌-◌, ◌*◌, ◌/◌, ◌%◌, ◌^◌, min, max, ltb, eqb}
use Rattle.scenario.specs.Links.{Link, link, leads}

-- "1 POINT .. 12 EVENT": a row, a constructor to a kind, in the order of the numbers. p and q are point numbers, and so is a of EARLIER and LATER;
-- s is a set of events, lo and hi are limits. A list of rows is source document 000's scenario (definition 2.2.1): its arrows to a next or last event,
-- its labels and its restrictions are rows here, SAME is new, FREE may stand between any two points, and points without an event are left out.
pub data Row : Type 0 where
  point : (p s : ℕ) → Row
  next last : (p q s : ℕ) → Row
  earlier later : (p q a : ℕ) → Row
  before apart same : (p q : ℕ) → Row
  free : (p q s : ℕ) → Row
  within outside : (p q lo hi : ℕ) → Row
  event : (p s : ℕ) → Row

-- Document 02, A1: "event numbers up to 63"; "a set of events is the sum of 2^e over its events e": how many there are, and the set of all. Nothing else says so.
abbrev pub event_count : ℕ
event_count = 64

abbrev pub full_set : ℕ
full_set = 18446744073709551615

-- A1: "the set is a + 2^32 × b": the set of two halves, the lower and the upper half of a set, and the half that is full
unfoldable pub set_of : (a b : ℕ) → ℕ
set_of a b = a + 2 ^ 32 * b

unfoldable pub lower_half : ℕ → ℕ
lower_half s = s % 2 ^ 32

unfoldable pub upper_half : ℕ → ℕ
upper_half s = s / 2 ^ 32

abbrev pub full_half : ℕ
full_half = 4294967295

-- "0 is the start and 99 the close"
abbrev pub close_point : ℕ
close_point = 99

-- The run that rows see of a log: its line count n; whether position x is a line with its event in the set s; and whether positions x and y surely
-- keep the limits lo and hi (A9). 000 has executions (2.3.1 to 2.3.3), endless and with real times; ours end, with whole ticks.
pub record Run : Type 0 where
  pub lines : ℕ
  pub has : (s x : ℕ) → Bool
  pub near : (x y lo hi : ℕ) → Bool

-- An environment: the position of each point, by its number.
abbrev pub Env : Type 0
Env = ℕ → ℕ

-- "A position is "between" two others when strictly between, whichever is the lower": z is between x and y.
unfoldable pub between : (x y z : ℕ) → Bool
between x y z = (ltb x z && ltb z y) || (ltb y z && ltb z x)

-- some number below k passes the test
unfoldable pub below : (ℕ → Bool) → ℕ → Bool
below f zero = false
below f (suc k) = f k || below f k

-- "no event of set a is between p and q", of their positions x and y
unfoldable pub clear : Run → (s x y : ℕ) → Bool
clear run s x y = not (below (λ z. between x y z && run.has s z) (suc run.lines))

-- "Kinds of row and when a placement meets them": the row is met where its points have the positions that e gives. These are the conditions M1 to M8
-- of 000's definition 2.3.4, row by row; the time from the start (M7) goes by the start tick, and a distance to the close has a meaning.
unfoldable pub meets : Run → Env → Row → Bool
meets run e (point p s) = run.has s (e p)
meets run e (next p q s) = ltb (e q) (e p) && run.has s (e p) && clear run s (e q) (e p)
meets run e (last p q s) = ltb (e p) (e q) && run.has s (e p) && clear run s (e p) (e q)
meets run e (earlier p q a) = eqb (e p) (min (e q) (e a))
meets run e (later p q a) = eqb (e p) (max (e q) (e a))
meets run e (before p q) = ltb (e p) (e q)
meets run e (apart p q) = not (eqb (e p) (e q))
meets run e (same p q) = eqb (e p) (e q)
meets run e (free p q s) = clear run s (e p) (e q)
meets run e (within p q lo hi) = run.near (e p) (e q) lo hi
meets run e (outside p q lo hi) = not (run.near (e p) (e q) lo hi)
meets run e (event p s) = run.has s (e p)

-- Points

-- the point that the row introduces (kinds 1 to 5), in a list of at most one
abbrev pub introduced : Row → List ℕ
introduced (point p s) = p ∷ []
introduced (next p q s) = p ∷ []
introduced (last p q s) = p ∷ []
introduced (earlier p q a) = p ∷ []
introduced (later p q a) = p ∷ []
introduced (before p q) = []
introduced (apart p q) = []
introduced (same p q) = []
introduced (free p q s) = []
introduced (within p q lo hi) = []
introduced (outside p q lo hi) = []
introduced (event p s) = []

-- the points that the row uses, without the one it introduces
abbrev pub needs : Row → List ℕ
needs (point p s) = []
needs (next p q s) = q ∷ []
needs (last p q s) = q ∷ []
needs (earlier p q a) = q ∷ a ∷ []
needs (later p q a) = q ∷ a ∷ []
needs (before p q) = p ∷ q ∷ []
needs (apart p q) = p ∷ q ∷ []
needs (same p q) = p ∷ q ∷ []
needs (free p q s) = p ∷ q ∷ []
needs (within p q lo hi) = p ∷ q ∷ []
needs (outside p q lo hi) = p ∷ q ∷ []
needs (event p s) = p ∷ []

-- the points of a list of rows, "in order of introduction"
unfoldable pub points : List Row → List ℕ
points [] = []
points (row ∷ rows) = introduced row ++ points rows

-- m is in the list
unfoldable pub elem : ℕ → List ℕ → Bool
elem m [] = false
elem m (x ∷ xs) = eqb m x || elem m xs

-- Denials

-- one of the points is used
unfoldable pub brings : (points used : List ℕ) → Bool
brings [] used = false
brings (p ∷ ps) used = elem p used || brings ps used

-- "The introducing rows of the points used by the row, and of the points those need in turn, within the section and in sheet order": of the rows passed,
-- the last one first. This is the path scenario of 000 (4.2.1, 4.2.2). specs/Denials has the sentence as a law.
unfoldable pub closure : (passed : List Row) (used : List ℕ) → List Row
closure [] used = []
closure (row ∷ passed) used = cond (brings (introduced row) used) (closure passed (needs row ++ used) ++ (row ∷ [])) (closure passed used)

-- A1: "EVENT is denied by taking both halves from 4,294,967,295." proofs/Halves: that is the full set without s.
unfoldable pub complement : ℕ → ℕ
complement s = set_of (full_half - lower_half s) (full_half - upper_half s)

-- a point is 0, 99 or ordinary
pub data End : Type 0 where
  start close inner : End

unfoldable pub end : ℕ → End
end p = cond (eqb p 0) start (cond (eqb p close_point) close inner)

-- "FREE p q a in section i: POINT 10i + 9 (call it r) with set a, and ..": p and q are different points, so there is nothing for 0 0 and 99 99.
unfoldable pub denying_free : (r p q s : ℕ) → End → End → List (List Row)
denying_free r p q s start start = []
denying_free r p q s start close = (point r s ∷ []) ∷ []
denying_free r p q s start inner = (point r s ∷ before r q ∷ []) ∷ []
denying_free r p q s close start = (point r s ∷ []) ∷ []
denying_free r p q s close close = []
denying_free r p q s close inner = (point r s ∷ before q r ∷ []) ∷ []
denying_free r p q s inner start = (point r s ∷ before r p ∷ []) ∷ []
denying_free r p q s inner close = (point r s ∷ before p r ∷ []) ∷ []
denying_free r p q s inner inner = (point r s ∷ before p r ∷ before r q ∷ []) ∷ (point r s ∷ before q r ∷ before r p ∷ []) ∷ []

-- The far end of a missing point. Document 02, A8; document 000, section 5.1. specs/Denials has its sentences as laws.

-- what rows give, in their order
module _ {A : Type 0} where
  unfoldable pub gather : (Row → List A) → List Row → List A
  gather f [] = []
  gather f (row ∷ rows) = f row ++ gather f rows

-- the link of a BEFORE row, from its p to its q
abbrev pub before_link : Row → List Link
before_link (point p s) = []
before_link (next p q s) = []
before_link (last p q s) = []
before_link (earlier p q a) = []
before_link (later p q a) = []
before_link (before p q) = link p q ∷ []
before_link (apart p q) = []
before_link (same p q) = []
before_link (free p q s) = []
before_link (within p q lo hi) = []
before_link (outside p q lo hi) = []
before_link (event p s) = []

-- "BEFORE rows lead, in one or more steps, from" x to y: of two different points, in no step or more is the same
unfoldable pub ascends : List Row → (x y : ℕ) → Bool
ascends rows x y = not (eqb x y) && leads (gather before_link rows) x y

-- z may be the far end: it is beyond the missing point, it "is not q", and q is the edge, the start for NEXT and the close for LAST, or q and z are in order
unfoldable pub may_end : (beyond ordered : ℕ → Bool) (q edge z : ℕ) → Bool
may_end beyond ordered q edge z = beyond z && not (eqb z q) && (eqb q edge || ordered z)

-- "BEFORE rows of the same consequent lead, in one or more steps, from a NEXT row's p to an antecedent point z"; "q is 0 or BEFORE rows of the antecedent lead from
-- q to z"
abbrev pub ends_next : (antecedent consequent : List Row) (p q z : ℕ) → Bool
ends_next antecedent consequent p q = may_end (ascends consequent p) (ascends antecedent q) q 0

-- "For LAST, again with z not q, the consequent's BEFORE rows lead from z to p, q is 99 or the antecedent's rows lead from z to q"
abbrev pub ends_last : (antecedent consequent : List Row) (p q z : ℕ) → Bool
ends_last antecedent consequent p q = may_end (λ z. ascends consequent z p) (λ z. ascends antecedent z q) q close_point

-- the first of the points that passes the test, or else d
unfoldable pub first_or : (d : ℕ) → (ℕ → Bool) → List ℕ → ℕ
first_or d f [] = d
first_or d f (z ∷ zs) = cond (f z) z (first_or d f zs)

-- How far the point of a NEXT or LAST row of the consequent is missing: to such an antecedent point z, "of several z the lowest number", which is the first;
-- otherwise up to the close, from the start: "the long denial stays". No other row asks.
unfoldable pub far_end : (antecedent consequent : List Row) → Row → ℕ
far_end antecedent consequent (point p s) = 0
far_end antecedent consequent (next p q s) = first_or close_point (ends_next antecedent consequent p q) (points antecedent)
far_end antecedent consequent (last p q s) = first_or 0 (ends_last antecedent consequent p q) (points antecedent)
far_end antecedent consequent (earlier p q a) = 0
far_end antecedent consequent (later p q a) = 0
far_end antecedent consequent (before p q) = 0
far_end antecedent consequent (apart p q) = 0
far_end antecedent consequent (same p q) = 0
far_end antecedent consequent (free p q s) = 0
far_end antecedent consequent (within p q lo hi) = 0
far_end antecedent consequent (outside p q lo hi) = 0
far_end antecedent consequent (event p s) = 0

-- "Each consequent row gives the denials below": their own rows, far being the row's far end and r the spare point 10i + 9. A8: "FREE q z a in place of
-- FREE q 99 a", and for LAST "FREE z q a". The rules 4.2.3, 4.2.4 and 4.2.6 of 000; its 4.2.5 falls away with EARLIER and LATER, and every row is denied here,
-- also one that the path excludes.
unfoldable pub denying_rows : (far r : ℕ) → Row → List (List Row)
denying_rows far r (point p s) = []
denying_rows far r (next p q s) = (free q far s ∷ []) ∷ []
denying_rows far r (last p q s) = (free far q s ∷ []) ∷ []
denying_rows far r (earlier p q a) = []
denying_rows far r (later p q a) = []
denying_rows far r (before p q) = (before q p ∷ []) ∷ (same p q ∷ []) ∷ []
denying_rows far r (apart p q) = (same p q ∷ []) ∷ []
denying_rows far r (same p q) = (apart p q ∷ []) ∷ []
denying_rows far r (free p q s) = denying_free r p q s (end p) (end q)
denying_rows far r (within p q lo hi) = (outside p q lo hi ∷ []) ∷ []
denying_rows far r (outside p q lo hi) = (within p q lo hi ∷ []) ∷ []
denying_rows far r (event p s) = (event p (complement s) ∷ []) ∷ []

-- The denials of a consequent's rows, "rows in sheet order", those before them passed: what each brings, "then the rows here". "NEXT and LAST bring only
-- those of q", as they need q alone.
unfoldable pub denials : (far : Row → ℕ) (r : ℕ) → (passed rows : List Row) → List (List Row)
denials far r passed [] = []
denials far r passed (row ∷ rows) = map (λ d. closure passed (needs row) ++ d) (denying_rows (far row) r row) ++ denials far r (row ∷ passed) rows
