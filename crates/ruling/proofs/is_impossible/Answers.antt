-- `is_impossible` meets its contract: the sheet or the number is refused, or the rows in memory tell.
use mathlib.Core.Path.{◌≡◌, refl, ap}
use native.Mathlib.Omega.{arith}
use Rattle.std.proofs.lemmas.Result.{err_from_is_err_and}
use Rattle.refusal.specs.Refusal.{refused_with}
use Rattle.refusal.proofs.Numbers.{is_refused}
use Rattle.scenario.specs.Sheet.{antiscenario}
use Rattle.sheet.specs.Reading.{sheet_in}
use Rattle.antiscenario.specs.Numbers.{text_refusal}
use Rattle.impossibility.specs.Impossible.{impossible}
use Rattle.ruling.proofs.InMemory.{known_kinds, all_placed}
use Rattle.ruling.proofs.Ruling.{not_ruled, ruled, of_sheet, ruling_says}
use Rattle.ruling.proofs.is_impossible.Goals as goal
use Rattle.ruling.proofs.is_impossible.Goals.{After-contradict, In_ok-stored}

-- nothing is refused where there is something in memory: the number, read by arithmetic
accepted : (c : In_ok-stored) → 0 ≡ text_refusal c.args.sheet.now c.args.number
accepted c = grind (arith, ap refused_with c.in_ok-stored.was, c.load_text.ensures.refusal)

pub contradict-requires : goal.contradict-requires
contradict-requires c =
    let H = c.in_ok-stored.ensures.memory in
    (omega (arith, H.rows_held.few), known_kinds _ _ _ _ _ H, all_placed _ _ _ _ _ H)

-- and its rows tell
told : (c : After-contradict) → c.contradict.result ≡ impossible (antiscenario (sheet_in c.args.sheet.now) c.args.number)
told c = of_sheet _ _ _ _ _ c.in_ok-stored.ensures.memory _ c.contradict.ensures

pub returns-clause-answer : goal.returns-clause-answer
returns-clause-answer c =
    ruled c.args.sheet.now c.args.number _ (accepted (goal.at.returns-clause-answer c).In_ok-stored) refl c.contradict.result (told (goal.at.returns-clause-answer c).After-contradict)

pub returns-clause-says : goal.returns-clause-says
returns-clause-says c = ruling_says _ _ _ _ _ c.in_ok-stored.ensures.memory _ (told (goal.at.returns-clause-says c).After-contradict)

pub returns-in_err-stored-clause-answer : goal.returns-in_err-stored-clause-answer
returns-in_err-stored-clause-answer c =
    let p = err_from_is_err_and c.from_residual.result c.from_residual.ensures.1 in
    rw (p.1, p.2) (not_ruled c.args.sheet.now c.args.number _ c.in_err-stored.ensures.refusal (is_refused _))
