-- `deny_line` meets its contract: one law to an arm, by the kind that the arm is for.
use mathlib.Core.Path.{sym, ap, ◌∙◌}
use mathlib.Core.List.{[], ◌∷◌}
use borrow.Author.Tests.{eq-eqb, ne_eqb}
use Rattle.row.specs.declared.Line.{Line}
use Rattle.denial.proofs.Own.{own_2, own_3, own_6, own_7, own_8, own_10, own_11, own_12, own-other}
use native.Mathlib.Omega.{arith}
use borrow.Author.Rules.{rules}
use Rattle.denial.proofs.deny_line.Goals as goal

pub returns-in-2 : goal.returns-in-2
returns-in-2 c =
    own_2 c.args.far c.args.line c.args.v c.requires.0 (search rules) c.in-2.is ∙ ap (λ (r : Line). r ∷ []) (sym c.row.ensures)

pub returns-in-3 : goal.returns-in-3
returns-in-3 c =
    own_3 c.args.far c.args.line c.args.v c.requires.0 (search rules) c.in-3.is ∙ ap (λ (r : Line). r ∷ []) (sym c.row-in-3.ensures)

pub returns-in-6 : goal.returns-in-6
returns-in-6 c = own_6 c.args.far c.args.line c.args.v c.requires.0 c.in-6.is ∙ ap (λ (r : Line). r ∷ []) (simp (eq-eqb _ _ c.if-v-eq0.true) (sym c.before-in-6.ensures))

pub returns-in-6-2 : goal.returns-in-6-2
returns-in-6-2 c = own_6 c.args.far c.args.line c.args.v c.requires.0 c.in-6.is ∙ ap (λ (r : Line). r ∷ []) (simp (ne_eqb _ _ c.if-v-eq0.false) (sym c.row-in-6-2.ensures))

pub returns-in-7 : goal.returns-in-7
returns-in-7 c =
    own_7 c.args.far c.args.line c.args.v c.requires.0 c.in-7.is ∙ ap (λ (r : Line). r ∷ []) (sym c.row-in-7.ensures)

pub returns-in-8 : goal.returns-in-8
returns-in-8 c =
    own_8 c.args.far c.args.line c.args.v c.requires.0 c.in-8.is ∙ ap (λ (r : Line). r ∷ []) (sym c.row-in-8.ensures)

pub returns-in-10 : goal.returns-in-10
returns-in-10 c =
    own_10 c.args.far c.args.line c.args.v c.requires.0 c.in-10.is ∙ ap (λ (r : Line). r ∷ []) (sym c.row-in-10.ensures)

pub returns-in-11 : goal.returns-in-11
returns-in-11 c =
    own_11 c.args.far c.args.line c.args.v c.requires.0 c.in-11.is ∙ ap (λ (r : Line). r ∷ []) (sym c.row-in-11.ensures)

pub returns-in-12 : goal.returns-in-12
returns-in-12 c =
    own_12 c.args.far c.args.line c.args.v c.requires.0 (search rules) c.in-12.is ∙ ap (λ (r : Line). r ∷ []) (sym c.row-in-12.ensures)

pub returns-in_default : goal.returns-in_default
returns-in_default c =
    own-other c.args.far c.args.line c.args.v (λ e. omega arith) (λ e. omega arith) (λ e. omega arith) (λ e. omega arith) (λ e. omega arith) c.requires.1 (λ e. omega arith) (λ e. omega arith) (λ e. omega arith) c.requires.0
    ∙ ap (λ (x : Line). x ∷ []) (sym c.row-in_default.ensures)
