-- `satskhubo_line` meets its contract: the line is the one that the check's refusal is about, and has at most 35 bytes.
use mathlib.Core.Path.{ap, ◌∙◌}
use native.Mathlib.Omega.{arith}
use mathlib.Core.List.{List}
use Prim.Native.Nat.{ℕ}
use lib.ListN.{length}
use Rattle.line.specs.Showing.{Part}
use Rattle.line.proofs.Showing.{shown_few}
use Rattle.findings.specs.Findings.{fronted}
use Rattle.bench.proofs.satskhubo_line.Goals as goal

pub copy_line-requires : goal.copy_line-requires
copy_line-requires c =
    let a = c.args in
    omega (arith, ap (λ (l : List ℕ). length l) c.show_line-shown.ensures, shown_few a.sheet.now a.log.now)

pub returns : goal.returns
returns c =
    let a = c.args in
    let e = c.show_line-shown.ensures in
    record {
      answer = c.number_of.ensures ∙ ap (λ (x : Part). x.refusal) c.shown_part-part.ensures.answer;
      line = c.copy_line.ensures ∙ ap (λ (l : List ℕ). fronted (length l) l a.line.now) e;
      size = ap (λ (l : List ℕ). length l) e;
    }
