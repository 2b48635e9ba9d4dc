-- `load_log` meets its contract: first line, lines, close tick; then the start is put before the lines and the close behind.
use mathlib.Core.Path.{◌≡◌, refl, sym, ap}
use Prim.Native.Nat.{◌≤◌}
use native.Mathlib.Omega.{arith}
use Rattle.std.proofs.lemmas.Result.{err_from_is_err_and}
use Rattle.refusal.proofs.Numbers.{log_refused}
use Rattle.run.specs.Held.{Held}
use Rattle.runlog.specs.Log.{Answer, accepted, answer}
use Rattle.runlog.specs.Held.{Loaded}
use Rattle.runlog.proofs.Ending.{head-refused, good, line_refused, late, done}
use Rattle.runlog.proofs.Loading.{loaded_by, held_refused}
use Rattle.runlog.proofs.load_log.Goals as goal
use Rattle.runlog.proofs.load_log.Goals.{In_ok-extent, After-read_lines, After-enter_lines}

pub returns-in_err-extent-clause-answers : goal.returns-in_err-extent-clause-answers
returns-in_err-extent-clause-answers c =
    let p = err_from_is_err_and c.from_residual.result c.from_residual.ensures.1 in rw (p.1, p.2) (head-refused _ _ c.in_err-extent.ensures (log_refused _))

few : (e : In_ok-extent) → e.in_ok-extent.extent.lines ≤ 4000
few e = (good _ _ e.in_ok-extent.ensures refl).few

pub read_lines-requires : goal.read_lines-requires
read_lines-requires c =
    let g = good _ _ c.in_ok-extent.ensures refl in
    (g.few, omega (arith, g.length))

pub returns-in_err-last-clause-answers : goal.returns-in_err-last-clause-answers
returns-in_err-last-clause-answers c =
    let p = err_from_is_err_and c.from_residual-in_err-last.result c.from_residual-in_err-last.ensures.1 in
    let x = c.in_err-last.ensures.err in rw (p.1, p.2) (line_refused _ _ c.in_ok-extent.ensures refl _ x.0 _ x.1 (log_refused _))

pub returns-then-extent-last-clause-answers : goal.returns-then-extent-last-clause-answers
returns-then-extent-last-clause-answers c =
    let x = c.in_ok-last.ensures.ok in rw c.from.ensures (late _ _ c.in_ok-extent.ensures refl _ (sym x.0) refl _ x.1 c.if-extent-last.true)

-- the lines that come before a refusal are not counted: that is a run without lines
refused-held : (c : After-read_lines) → Held c.read_lines.new.words
refused-held c = held_refused _ _ _ _ (good _ _ c.in_ok-extent.ensures refl).few c.args.run.now.held.size c.requires _ c.read_lines.ensures.words

pub invariant_of-run : goal.invariant_of-run
invariant_of-run c = record { held = refused-held (goal.at.invariant_of-run c).After-read_lines }

pub invariant_of-run-then-extent-last : goal.invariant_of-run-then-extent-last
invariant_of-run-then-extent-last c = record { held = refused-held (goal.at.invariant_of-run-then-extent-last c).After-read_lines }

-- one that is read is answered, and in memory
module _ (c : After-enter_lines) where
  said : accepted c.in_ok-extent.extent.lines c.in_ok-extent.extent.start c.in_ok-extent.extent.close ≡ answer c.args.log.now
  said = let x = c.in_ok-last.ensures in done _ _ c.in_ok-extent.ensures refl _ (sym x.ok.0) refl _ x.ok.1 c.if-extent-last.false

  loaded : Loaded c.args.log.now c.enter_lines.new.words
  loaded =
      loaded_by _ _ c.args.run.now.held.size c.requires (sym (ap (λ (a : Answer). a.refusal) said)) _ c.in_ok-extent.ensures refl _ _ _ _
      c.in_ok-last.ensures.words c.enter.ensures c.enter-2.ensures c.enter_lines.ensures

pub invariant_of-run-2 : goal.invariant_of-run-2
invariant_of-run-2 c = record { held = (loaded (goal.at.invariant_of-run-2 c).After-enter_lines).held }

pub returns : goal.returns
returns c = let e = (goal.at.returns c).After-enter_lines in record { answers = said e; run = loaded e }

pub overflow_add-n : goal.overflow_add-n
overflow_add-n c = record { fits = omega (arith, few (goal.at.overflow_add-n c).In_ok-extent) }

pub enter-requires-2 : goal.enter-requires-2
enter-requires-2 c = omega (arith, few (goal.at.enter-requires-2 c).In_ok-extent)
