-- `show_line` meets its contract: the part lies inside its text, and is the definition's.
use mathlib.Core.Path.{ap}
use Rattle.line.specs.Numbered.{is_log}
use Rattle.line.proofs.Showing.{shown_log, shown_sheet}
use Rattle.line.proofs.show_line.Goals as goal
use Rattle.line.proofs.show_line.Goals.{in-Sheet, in-Log}

pub returns : goal.returns
returns c =
    let shown = c.shown_part-part in
    elim c.match-part.branch [
      | in-Log w ↦ rw w.bytes-is (shown_log c.args.sheet.now c.args.log.now _ shown.ensures.answer (ap is_log w.in-Log.is))
      | in-Sheet w ↦ rw w.bytes-is (shown_sheet c.args.sheet.now c.args.log.now _ shown.ensures.answer (ap is_log w.in-Sheet.is))
    ]
