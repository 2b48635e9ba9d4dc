-- The text of a valid log. What must be believed.
-- Assumes nothing.
use Rattle.std.specs.Prelude.{◌≡◌, List, ℕ}
use Rattle.scenario.specs.Log.{Log}
use Rattle.runlog.specs.Text.{log_text, ValidLog}

-- the bytes are the text of a valid log
pub record ValidText (s : List ℕ) : Type 0 where
  pub log : Log
  pub valid : ValidLog log
  pub text : s ≡ log_text log
