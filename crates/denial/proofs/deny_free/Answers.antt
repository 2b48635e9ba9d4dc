-- `deny_free` meets its contract: one law to a way out, by which of the two points are start or close.
use mathlib.Core.Path.{sym, ap, ap₂, ◌∙◌}
use mathlib.Core.List.{List, [], ◌∷◌}
use Prim.Native.Nat.{ℕ, ◌+◌, ◌*◌}
use Rattle.row.specs.declared.Line.{Line}
use Rattle.row.specs.Row.{six}
use Rattle.denial.proofs.Own.{done-one, done-two, done-three, free_1, free_2, free_3, free_4, free_5}
use Rattle.denial.proofs.deny_free.Goals as goal
use Rattle.denial.proofs.deny_free.Goals.{then-v-eq0, else-v-eq0}

pub returns-in-true-true-clause-memory : goal.returns-in-true-true-clause-memory
returns-in-true-true-clause-memory c =
    (done-one _ _ _ c.row.result _ (free_1 c.args.line c.args.v (sym c.in-true-true.ensures) (sym c.in-true-true.ensures') ∙ ap (λ (x : Line). x ∷ []) (sym c.row.ensures)) c.put_line.ensures).1

pub returns-in-true-false-clause-memory : goal.returns-in-true-false-clause-memory
returns-in-true-false-clause-memory c =
    let rows = free_2 c.args.line c.args.v (sym c.in-true-false.ensures) (sym c.in-true-false.ensures') ∙ ap₂ (λ (x y : Line). x ∷ y ∷ []) (sym c.row.ensures) (sym c.inside.ensures) in
    (done-two _ _ _ c.row.result c.inside.result _ _ rows c.put_line.ensures c.put_line-in-true-false.ensures).1

pub returns-in-false-true-clause-memory : goal.returns-in-false-true-clause-memory
returns-in-false-true-clause-memory c =
    let rows = free_3 c.args.line c.args.v (sym c.in-false-true.ensures) (sym c.in-false-true.ensures') ∙ ap₂ (λ (x y : Line). x ∷ y ∷ []) (sym c.row.ensures) (sym c.inside-in-false-true.ensures) in
    (done-two _ _ _ c.row.result c.inside-in-false-true.result _ _ rows c.put_line.ensures c.put_line-in-false-true.ensures).1

pub returns-after-v-eq0-clause-memory : goal.returns-after-v-eq0-clause-memory
returns-after-v-eq0-clause-memory c =
    let line = c.args.line in
    let spare = 10 * line.section + 9 in
    let edges = c.in-false-false in
    let under = λ (e : ℕ × ℕ). six line.section 6 e.0 spare 0 0 in
    let over = λ (e : ℕ × ℕ). six line.section 6 spare e.1 0 0 in
    elim c.if-v-eq0.branch [
      | then-v-eq0 w ↦
          let rows = free_4 line c.args.v (sym edges.ensures) (sym edges.ensures') w.if-v-eq0.true
          ∙ ap₂ (λ (x : Line) (y : List Line). x ∷ y) (sym c.row.ensures) (ap₂ (λ (x y : Line). x ∷ y ∷ []) (sym (c.before-in-false-false.ensures ∙ ap under w.lower-is)) (sym (c.before-in-false-false-2.ensures ∙ ap over w.lower-is))) in
          (done-three _ _ _ c.row.result c.before-in-false-false.result c.before-in-false-false-2.result _ _ _ rows c.put_line.ensures c.put_line-in-false-false.ensures c.put_line-in-false-false-2.ensures).1
      | else-v-eq0 w ↦
          let rows = free_5 line c.args.v (sym edges.ensures) (sym edges.ensures') w.if-v-eq0.false
          ∙ ap₂ (λ (x : Line) (y : List Line). x ∷ y) (sym c.row.ensures) (ap₂ (λ (x y : Line). x ∷ y ∷ []) (sym (c.before-in-false-false.ensures ∙ ap under w.lower-is)) (sym (c.before-in-false-false-2.ensures ∙ ap over w.lower-is))) in
          (done-three _ _ _ c.row.result c.before-in-false-false.result c.before-in-false-false-2.result _ _ _ rows c.put_line.ensures c.put_line-in-false-false.ensures c.put_line-in-false-false-2.ensures).1
    ]
