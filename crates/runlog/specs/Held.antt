-- A text that is in memory: its lines by position, and what of it is known. Inner vocabulary.
-- Assumes nothing.
use Rattle.std.specs.Prelude.{◌≡◌, List, [], ◌∷◌, ℕ}
use Rattle.scenario.specs.Rows.{set_of}
use Rattle.run.specs.Words.{line_count}
use Rattle.run.specs.Maps.{Blank}
use Rattle.run.specs.Held.{Held, log_held}
use Rattle.runlog.specs.Log.{log_of, answer}

-- the words of lines: of each its tick in the lower half, its event in the upper
unfoldable pub words_of : (ticks events : List ℕ) → List ℕ
words_of [] events = []
words_of (t ∷ ts) [] = []
words_of (t ∷ ts) (e ∷ es) = set_of t e ∷ words_of ts es

-- The log of the text l is in memory, and no maps are drawn.
pub record Loaded (l run : List ℕ) : Type 0 where
  pub held : Held run
  pub blank : Blank run
  pub lines : line_count run ≡ (answer l).n
  pub is : log_held run ≡ log_of l
