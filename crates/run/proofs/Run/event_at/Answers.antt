-- The upper half of a word.
use Rattle.scenario.specs.Rows.{upper_half}
use Rattle.run.proofs.Words.{event_half}
use Rattle.run.proofs.Run.event_at.Goals as goal

pub returns : goal.returns
unfolding upper_half
returns c = event_half c.args.self.now.words c.args.x c.requires
