-- The tick at the index, past the lines the close's (Logs.tick_least).
use mathlib.Core.Path.{sym, ap, ◌∙◌}
use Prim.Native.Nat.{ℕ, ◌+◌, min}
use lib.ListN.{get_or}
use Rattle.run.specs.Words.{ticks_in}
use Rattle.run.proofs.Logs.{tick_least}
use Rattle.run.proofs.Run.tick_at.Goals as goal

pub returns : goal.returns
returns c =
    let ticks = ticks_in c.args.self.now.words in
    c.tick_in.ensures ∙ ap (λ (k : ℕ). get_or ticks k 0) (c.min.ensures ∙ ap (λ (n : ℕ). min c.args.x (n + 1)) c.lines.ensures) ∙ sym (tick_least ticks _ c.args.x)
