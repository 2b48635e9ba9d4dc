-- `gather` meets its contract: the points stored so far and those of the rows from number j on are all the points.
use mathlib.Core.Bool.{Bool, true, false, ◌&&◌}
use Rattle.pattern.proofs.Points.{kind_at_lem, rest, more-none, more-one, no_more, room_for, one_more, all_there}
use mathlib.Core.Path.{◌≡◌, sym, ap, ◌∙◌}
use native.Mathlib.Omega.{arith}
use mathlib.Core.List.{List, ◌∷◌, ◌++◌}
use Prim.Native.Nat.{ℕ, ◌+◌, ◌<◌}
use native.Mathlib.Nat.{sub-zero}
use lib.ListN.{length, take, length-set}
use lib.Dec.{leb}
use Rattle.scenario.specs.Rows.{points as points_of}
use Rattle.row.specs.Memory.{kind_at, p_at, rows_of}
use borrow.Author.Rules.{rules}
use Rattle.pattern.proofs.gather.Goals as goal
use Rattle.pattern.proofs.gather.Goals.{After-p_of, then-introduces, else-introduces}

-- the point of a row that introduces one
module _ (rows : List ℕ) (count j : ℕ) (points : List ℕ) (i kind : ℕ) (b : Bool) (ek : kind ≡ kind_at rows j) (eb : b ≡ (leb 1 kind && leb kind 5)) (h : j < count) (e : take i points ++ rest rows count j j ≡ points_of (rows_of rows count)) where
  one_of : b ≡ true → take i points ++ p_at rows j ∷ rest rows count (j + 1) (j + 1) ≡ points_of (rows_of rows count)
  one_of t = ap (λ (z : List ℕ). take i points ++ z) (sym (more-one rows count j h (kind_at_lem rows j true kind ek (sym eb ∙ t)))) ∙ e

  none_of : b ≡ false → take i points ++ rest rows count (j + 1) (j + 1) ≡ points_of (rows_of rows count)
  none_of t = ap (λ (z : List ℕ). take i points ++ z) (sym (more-none rows count j h (kind_at_lem rows j false kind ek (sym eb ∙ t)))) ∙ e

pub loop-j-init : goal.loop-j-init
unfolding rows_of
loop-j-init c = (search rules, rw sub-zero)

-- where it is stored there is room
fits_in : (c : After-p_of) → c.loop-j.point_count < length (points_of (rows_of c.args.rows.now c.args.count))
fits_in c =
    room_for c.loop-j.points _ _ c.loop-j.point_count (p_at c.args.rows.now c.loop-j.j) c.loop-j.invariant.0
    (one_of c.args.rows.now c.args.count c.loop-j.j c.loop-j.points c.loop-j.point_count c.kind_of.result c.introduces.result c.kind_of.ensures c.introduces.ensures c.loop-j-test.true c.loop-j.invariant.1 c.if-introduces.true)

pub bounds-points-point_count : goal.bounds-points-point_count
bounds-points-point_count c = omega (arith, fits_in c, c.requires.1)

pub overflow_add-point_count : goal.overflow_add-point_count
overflow_add-point_count c = record { fits = omega (arith, fits_in c, c.requires.2) }

pub loop-j-preserved : goal.loop-j-preserved
loop-j-preserved c =
    let a = c.args in
    let l = c.loop-j in
    elim c.if-introduces.branch [
      | then-introduces w ↦
          let e = one_of a.rows.now a.count l.j l.points l.point_count c.kind_of.result c.introduces.result c.kind_of.ensures c.introduces.ensures c.loop-j-test.true l.invariant.1 w.if-introduces.true in
          let room = room_for l.points _ _ l.point_count (p_at a.rows.now l.j) l.invariant.0 e in
          let h : l.point_count < length l.points = omega (arith, room, c.requires.1) in
          rw (w.points-is, w.point_count-is, w.p_of.ensures) (simp length-set (omega (arith, h)), one_more l.points _ _ l.point_count (p_at a.rows.now l.j) h e)
      | else-introduces w ↦
          rw (w.points-is, w.point_count-is) (l.invariant.0, none_of a.rows.now a.count l.j l.points l.point_count c.kind_of.result c.introduces.result c.kind_of.ensures c.introduces.ensures c.loop-j-test.true l.invariant.1 w.if-introduces.false)
    ]

pub returns : goal.returns
returns c =
    let a = c.args in
    let l = c.loop-j in
    let r = all_there l.points (points_of (rows_of a.rows.now a.count)) l.point_count l.invariant.0
    (ap (λ (z : List ℕ). take l.point_count l.points ++ z) (sym (no_more a.rows.now a.count l.j c.loop-j-test.false)) ∙ l.invariant.1) in record { number = r.0; points = r.1 }
