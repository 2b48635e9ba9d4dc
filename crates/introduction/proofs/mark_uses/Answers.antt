-- `mark_uses` meets its contract: one law to a group of kinds.
use mathlib.Core.List.{List}
use Prim.Native.Nat.{ℕ}
use native.Mathlib.Omega.{arith}
use lib.ListN.{set}
use mathlib.Core.Path.{ap, ◌∙◌}
use borrow.Author.Tests.{le-leb, lt-leb}
use Rattle.introduction.specs.Bringing.{marked, uses}
use Rattle.introduction.proofs.mark_uses.Goals as goal

pub returns-in-0-to-1 : goal.returns-in-0-to-1
unfolding marked uses
returns-in-0-to-1 c = simp (le-leb c.args.line.kind 1 (omega arith))

pub returns-in-2-to-3 : goal.returns-in-2-to-3
unfolding marked uses
returns-in-2-to-3 c = simp (lt-leb c.args.line.kind 1 (omega arith), le-leb c.args.line.kind 3 (omega arith)) c.mark.ensures

pub returns-in-4-to-5 : goal.returns-in-4-to-5
unfolding marked uses
returns-in-4-to-5 c =
    simp (lt-leb c.args.line.kind 1 (omega arith), lt-leb c.args.line.kind 3 (omega arith), le-leb c.args.line.kind 5 (omega arith))
    (c.mark-in-4-to-5-2.ensures ∙ ap (λ (m : List ℕ). set m c.args.line.a 1) c.mark-in-4-to-5.ensures)

pub returns-in-6-to-11 : goal.returns-in-6-to-11
unfolding marked uses
returns-in-6-to-11 c =
    simp (lt-leb c.args.line.kind 1 (omega arith), lt-leb c.args.line.kind 3 (omega arith), lt-leb c.args.line.kind 5 (omega arith), le-leb c.args.line.kind 11 (omega arith))
    (c.mark-in-6-to-11-2.ensures ∙ ap (λ (m : List ℕ). set m c.args.line.q 1) c.mark-in-6-to-11.ensures)

pub returns-in_default : goal.returns-in_default
unfolding marked uses
returns-in_default c =
    simp (lt-leb c.args.line.kind 1 (omega arith), lt-leb c.args.line.kind 3 (omega arith), lt-leb c.args.line.kind 5 (omega arith), lt-leb c.args.line.kind 11 (omega arith))
    c.mark-in_default.ensures
