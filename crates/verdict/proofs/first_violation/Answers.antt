-- From matching to matching, the smallest violating placement at or after where the loop stands is the smallest of all. The laws are in Loop; here they are held against the code, place by place.
use mathlib.Core.Path.{◌≡◌, refl, sym, ap, ◌∙◌}
use mathlib.Core.List.{List}
use Prim.Native.Nat.{ℕ, ◌≤◌, ◌<◌}
use native.Mathlib.Omega.{arith}
use lib.ListN.{length, take}
use lib.Seq.{length-take-le}
use Rattle.std.specs.Prelude.{Some, None}
use Rattle.scenario.specs.Rows.{points}
use Rattle.run.specs.Words.{line_count}
use Rattle.run.specs.Held.{Held, run_held}
use Rattle.sheet.specs.Held.{SheetHeld}
use Rattle.plan.specs.Tables.{count_of_points, points_in}
use Rattle.plan.specs.declared.Tables.{Tables}
use Rattle.placing.specs.Placing.{Standing}
use Rattle.placement.proofs.Starting.{roomy}
use Rattle.pair.specs.Antecedent.{AntecedentPlanned}
use Rattle.consequent.proofs.Advancing.{met-none, met-some, met-there}
use Rattle.verdict.specs.Memory.{Reaches, places_in, violated_by}
use Rattle.verdict.proofs.Turn.{met-below}
use Rattle.verdict.proofs.Loop.{none_at_all, begins, walked, violated, no_other, goes_on, falls}
use Rattle.verdict.proofs.first_violation.Goals as goal
use Rattle.verdict.proofs.first_violation.Goals.{After-at_fault-met, In-Some, Start}

-- What is in memory
module _ (s : Start) where
  abbrev held : List ℕ
  held = s.args.run.now.words

  abbrev rows : List ℕ
  rows = s.args.rows.now

  abbrev count : ℕ
  count = s.args.count

  abbrev k : ℕ
  k = s.args.k

  abbrev plan : Tables
  plan = s.args.plan.now.tables

  H : Held held
  H = s.args.run.now.held

  S : SheetHeld rows count k
  S = s.requires.0

  P : AntecedentPlanned rows count k plan
  P = s.requires.1

  abbrev reaches : List ℕ
  reaches = s.args.reaches.now

  X : Reaches rows count (take (count_of_points plan) (points_in plan)) reaches
  X = s.requires.2

  number : count_of_points plan ≤ length (points_in plan)
  number = roomy held H rows plan P.drawn P.pattern

pub returns-then-not-first : goal.returns-then-not-first
returns-then-not-first c =
    none_at_all (held (goal.at.returns-then-not-first c).Start) (H (goal.at.returns-then-not-first c).Start) (rows (goal.at.returns-then-not-first c).Start) (count (goal.at.returns-then-not-first c).Start) (k (goal.at.returns-then-not-first c).Start) (S (goal.at.returns-then-not-first c).Start) (plan (goal.at.returns-then-not-first c).Start) (P (goal.at.returns-then-not-first c).Start) (sym (c.if-not-first.true) ∙ c.first.ensures.found)

pub loop-c-init : goal.loop-c-init
loop-c-init c =
    begins (held (goal.at.loop-c-init c).Start) (H (goal.at.loop-c-init c).Start) (rows (goal.at.loop-c-init c).Start) (count (goal.at.loop-c-init c).Start) (k (goal.at.loop-c-init c).Start) (S (goal.at.loop-c-init c).Start) (plan (goal.at.loop-c-init c).Start) (P (goal.at.loop-c-init c).Start) c.first.new.positions (c.first.ensures.stands (c.if-not-first.false))

-- A turn, once the walk over the consequents is done
module _ (w : After-at_fault-met) where
  -- the positions that it leaves
  abbrev left : List ℕ
  left = w.at_fault-met.new.positions

  still_there : Standing (run_held (held w.before.before.before.before.before.before.before.before.before)) (line_count (held w.before.before.before.before.before.before.before.before.before)) (rows w.before.before.before.before.before.before.before.before.before) (plan w.before.before.before.before.before.before.before.before.before) left
  still_there = walked (held w.before.before.before.before.before.before.before.before.before) (H w.before.before.before.before.before.before.before.before.before) (rows w.before.before.before.before.before.before.before.before.before) (count w.before.before.before.before.before.before.before.before.before) (k w.before.before.before.before.before.before.before.before.before) (S w.before.before.before.before.before.before.before.before.before) (plan w.before.before.before.before.before.before.before.before.before) (P w.before.before.before.before.before.before.before.before.before) w.loop-c.positions w.loop-c.invariant left w.at_fault-met.ensures.kept

pub violated_by-requires : goal.violated_by-requires
violated_by-requires c =
    (omega (arith, (P (goal.at.violated_by-requires c).Start).drawn.number, ap (λ z. length (points z)) (P (goal.at.violated_by-requires c).Start).antecedent_rows, (S (goal.at.violated_by-requires c).Start).read.few), number (goal.at.violated_by-requires c).Start)

pub returns-in_default : goal.returns-in_default
returns-in_default c =
    let none : c.at_fault-met.result ≡ None = grind arith in
    c.violated_by.ensures
    ∙ ap (violated_by (count_of_points (plan (goal.at.returns-in_default c).Start)) (k (goal.at.returns-in_default c).Start) (places_in (plan (goal.at.returns-in_default c).Start) (left (goal.at.returns-in_default c).After-at_fault-met))) (c.at_fault-met.ensures.rows none)
    ∙ violated (held (goal.at.returns-in_default c).Start) (H (goal.at.returns-in_default c).Start) (rows (goal.at.returns-in_default c).Start) (count (goal.at.returns-in_default c).Start) (k (goal.at.returns-in_default c).Start) (S (goal.at.returns-in_default c).Start) (plan (goal.at.returns-in_default c).Start) (P (goal.at.returns-in_default c).Start) c.loop-c.positions c.loop-c.invariant (left (goal.at.returns-in_default c).After-at_fault-met) c.at_fault-met.ensures.kept (met-none _ _ c.at_fault-met.ensures.met none)

-- The consequent that extends
module _ (w : In-Some) where
  is : w.at_fault-met.result ≡ Some w.in-Some.c
  is = grind arith

  small : w.in-Some.c < 7
  small = omega (arith, met-below (held w.before.before.before.before.before.before.before.before.before.before) (H w.before.before.before.before.before.before.before.before.before.before) (rows w.before.before.before.before.before.before.before.before.before.before) (count w.before.before.before.before.before.before.before.before.before.before) (k w.before.before.before.before.before.before.before.before.before.before) (S w.before.before.before.before.before.before.before.before.before.before) (plan w.before.before.before.before.before.before.before.before.before.before) (P w.before.before.before.before.before.before.before.before.before.before) w.loop-c.positions w.loop-c.invariant.stands, met-some _ _ w.at_fault-met.ensures.met w.in-Some.c is)

pub next-requires : goal.next-requires
next-requires c =
    (still_there (goal.at.next-requires c).After-at_fault-met, omega (arith, (X (goal.at.next-requires c).Start).most c.in-Some.c, length-take-le (count_of_points (plan (goal.at.next-requires c).Start)) (points_in (plan (goal.at.next-requires c).Start)) (number (goal.at.next-requires c).Start)))

pub returns-then-not-next : goal.returns-then-not-next
returns-then-not-next c =
    no_other (held (goal.at.returns-then-not-next c).Start) (H (goal.at.returns-then-not-next c).Start) (rows (goal.at.returns-then-not-next c).Start) (count (goal.at.returns-then-not-next c).Start) (k (goal.at.returns-then-not-next c).Start) (S (goal.at.returns-then-not-next c).Start) (plan (goal.at.returns-then-not-next c).Start) (P (goal.at.returns-then-not-next c).Start) c.loop-c.positions c.loop-c.invariant (left (goal.at.returns-then-not-next c).After-at_fault-met) c.at_fault-met.ensures.kept
    c.in-Some.c (met-some _ _ c.at_fault-met.ensures.met c.in-Some.c (is (goal.at.returns-then-not-next c).In-Some)) (met-there _ _ c.at_fault-met.ensures.met c.in-Some.c (is (goal.at.returns-then-not-next c).In-Some)) (reaches (goal.at.returns-then-not-next c).Start) (X (goal.at.returns-then-not-next c).Start) (sym (c.if-not-next.true) ∙ c.next.ensures.found)

pub loop-c-smaller : goal.loop-c-smaller
loop-c-smaller c =
    falls (held (goal.at.loop-c-smaller c).Start) (H (goal.at.loop-c-smaller c).Start) (rows (goal.at.loop-c-smaller c).Start) (count (goal.at.loop-c-smaller c).Start) (k (goal.at.loop-c-smaller c).Start) (S (goal.at.loop-c-smaller c).Start) (plan (goal.at.loop-c-smaller c).Start) (P (goal.at.loop-c-smaller c).Start) c.loop-c.positions c.loop-c.invariant (left (goal.at.loop-c-smaller c).After-at_fault-met) c.at_fault-met.ensures.kept
    c.in-Some.c (met-some _ _ c.at_fault-met.ensures.met c.in-Some.c (is (goal.at.loop-c-smaller c).In-Some)) (met-there _ _ c.at_fault-met.ensures.met c.in-Some.c (is (goal.at.loop-c-smaller c).In-Some)) (reaches (goal.at.loop-c-smaller c).Start) (X (goal.at.loop-c-smaller c).Start) c.next.new.positions (c.next.ensures.stands (c.if-not-next.false))

pub loop-c-preserved : goal.loop-c-preserved
loop-c-preserved c =
    goes_on (held (goal.at.loop-c-preserved c).Start) (H (goal.at.loop-c-preserved c).Start) (rows (goal.at.loop-c-preserved c).Start) (count (goal.at.loop-c-preserved c).Start) (k (goal.at.loop-c-preserved c).Start) (S (goal.at.loop-c-preserved c).Start) (plan (goal.at.loop-c-preserved c).Start) (P (goal.at.loop-c-preserved c).Start) c.loop-c.positions c.loop-c.invariant (left (goal.at.loop-c-preserved c).After-at_fault-met) c.at_fault-met.ensures.kept
    c.in-Some.c (met-some _ _ c.at_fault-met.ensures.met c.in-Some.c (is (goal.at.loop-c-preserved c).In-Some)) (met-there _ _ c.at_fault-met.ensures.met c.in-Some.c (is (goal.at.loop-c-preserved c).In-Some)) (reaches (goal.at.loop-c-preserved c).Start) (X (goal.at.loop-c-preserved c).Start) c.next.new.positions (c.next.ensures.stands (c.if-not-next.false))

pub first-requires : goal.first-requires
first-requires c =
    ((P (goal.at.first-requires c).Start).drawn, (P (goal.at.first-requires c).Start).pattern, refl)

pub at_fault-met-requires : goal.at_fault-met-requires
at_fault-met-requires c =
    let e = c.row_count-first.ensures in (S (goal.at.at_fault-met-requires c).Start, c.loop-c.invariant.stands.fixed.size, refl, omega (arith, e, (P (goal.at.at_fault-met-requires c).Start).within), λ i h. (P (goal.at.at_fault-met-requires c).Start).own i (omega (arith, e)))

pub offset_bounds-reaches-c : goal.offset_bounds-reaches-c
offset_bounds-reaches-c c = record { fits = omega (arith, small (goal.at.offset_bounds-reaches-c c).In-Some) }

pub bounds-reaches-c : goal.bounds-reaches-c
bounds-reaches-c c =
    omega (arith, small (goal.at.bounds-reaches-c c).In-Some, (X (goal.at.bounds-reaches-c c).Start).size)
