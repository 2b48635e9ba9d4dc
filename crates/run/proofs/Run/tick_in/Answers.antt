-- The lower half of a word.
use Rattle.scenario.specs.Rows.{lower_half}
use Rattle.run.proofs.Words.{tick_half}
use Rattle.run.proofs.Run.tick_in.Goals as goal

pub returns : goal.returns
unfolding lower_half
returns c = tick_half c.args.self.now.words c.args.x c.requires
