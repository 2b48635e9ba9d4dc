-- `load_text` meets its contract: the sheet is refused, or the number is, or the antiscenario is in memory.
use mathlib.Core.Path.{refl}
use lib.ListN.{replicate}
use Rattle.std.proofs.lemmas.Result.{err_from_is_err_and}
use Rattle.refusal.proofs.Numbers.{sheet_refused}
use Rattle.sheet.specs.Held.{SheetLoaded}
use Rattle.sheet.specs.Reading.{accepted}
use Rattle.sheet.proofs.Held.{sheet_loaded, room_1056}
use Rattle.antiscenario.proofs.InMemory.{held_of_text, few_consequents}
use Rattle.antiscenario.proofs.Loading.{text-refused, number_of_text, text-held}
use Rattle.antiscenario.proofs.load_text.Goals as goal
use Rattle.antiscenario.proofs.load_text.Goals.{In_ok-extent}

-- The sheet is accepted
sheet-there : (c : In_ok-extent) → SheetLoaded c.load_sheet.new.rows (accepted c.in_ok-extent.extent.k c.in_ok-extent.extent.rows c.in_ok-extent.extent.count)
sheet-there c =
    sheet_loaded c.args.sheet.now _ c.in_ok-extent.ensures.answers refl c.load_sheet.new.rows (replicate 1056 0) room_1056 c.in_ok-extent.ensures.memory

pub returns-in_err-extent-clause-refusal : goal.returns-in_err-extent-clause-refusal
returns-in_err-extent-clause-refusal c =
    let p = err_from_is_err_and c.from_residual.result c.from_residual.ensures.1 in
    rw (p.1, p.2) (text-refused c.args.sheet.now c.args.number _ c.in_err-extent.ensures.answers (sheet_refused _))

pub load-requires : goal.load-requires
load-requires c = (sheet-there (goal.at.load-requires c).In_ok-extent, c.requires)

pub returns-in_err-count-clause-refusal : goal.returns-in_err-count-clause-refusal
returns-in_err-count-clause-refusal c =
    let p = err_from_is_err_and c.from_residual-in_err-count.result c.from_residual-in_err-count.ensures.1 in
    rw (p.1, p.2) (number_of_text c.args.sheet.now c.args.number _ c.in_ok-extent.ensures.answers refl _ c.in_err-count.ensures.refusal)

pub returns-clause-refusal : goal.returns-clause-refusal
returns-clause-refusal c =
    number_of_text c.args.sheet.now c.args.number _ c.in_ok-extent.ensures.answers refl _ c.in_ok-count.ensures.refusal

pub returns-clause-memory : goal.returns-clause-memory
returns-clause-memory c =
    let e = c.in_ok-extent.ensures in
    let n = c.in_ok-count.ensures in
    text-held c.args.sheet.now c.args.number _ e.answers refl _ n.refusal _ c.in_ok-count.count (few_consequents _ _ (sheet-there (goal.at.returns-clause-memory c).In_ok-extent)) refl
    (held_of_text c.args.sheet.now _ e.answers refl c.load_sheet.new.rows (replicate 1056 0) room_1056 e.memory c.args.number _ c.in_ok-count.count n.memory)
