-- What the clock drops (document 02, A9): the times that a log's ticks may stand for, for the theorem that says what WITHIN means. What must be believed.
-- Assumes nothing.
use Rattle.std.specs.Prelude.{◌≡◌, ◌⊎◌, Bool, ◌&&◌, ℕ, suc, ◌+◌, ◌*◌, ◌≤◌, ◌<◌, length, leb}
use Rattle.scenario.specs.Rows.{Row, point, next, last, earlier, later, before, apart, same, free, within, outside, event, Run}
use Rattle.scenario.specs.Log.{Log, has_at, tick, gap}
use Rattle.scenario.specs.Sheet.{Sheet}
use Rattle.scenario.specs.Reading.{All}

-- "The makers now publish that their clock drops the fraction, start and close included": the time of position x in a unit of which a millisecond has
-- u, f x being the fraction that was dropped.
abbrev pub time : (u : ℕ) → Log → (f : ℕ → ℕ) → ℕ → ℕ
time u log f x = u * tick log x + f x

-- no position has less than a position before it
abbrev pub Ascending : (ℕ → ℕ) → Type 0
Ascending h = (x y : ℕ) → x ≤ y → h x ≤ h y

-- The fractions that a run may have had: parts of a millisecond, with which no time is below the one before.
pub record Fractions (u : ℕ) (log : Log) (f : ℕ → ℕ) : Type 0 where
  pub below : (x : ℕ) → f x < u
  pub ascending : Ascending (time u log f)

-- from lo to hi milliseconds, both included
pub record InLimits (u lo hi distance : ℕ) : Type 0 where
  pub least : u * lo ≤ distance
  pub most : distance ≤ u * hi

-- "A WITHIN limit shall count as kept only if the fraction cannot undo it": the times of positions x and y keep it, whatever was dropped.
abbrev pub Surely : (u : ℕ) → Log → (x y lo hi : ℕ) → Type 0
Surely u log x y lo hi = (f : ℕ → ℕ) → Fractions u log f → InLimits u lo hi (gap (time u log f x) (time u log f y))

-- What A9 changed, for two statements (proofs/Clock, proofs/Unmoved)

-- document 01's "the distance of the ticks of p and q, without sign, is from a to b, both included", and the run that rows saw with it
unfoldable pub plain_at : Log → (x y lo hi : ℕ) → Bool
plain_at log x y lo hi = let d = gap (tick log x) (tick log y) in leb lo d && leb d hi

abbrev pub plain_run : Log → Run
plain_run log = record { lines = length log.events; has = has_at log.events; near = plain_at log }

-- two positions whose distance is the upper limit, or the lower and not 0
pub record AtLimit (log : Log) (x y lo hi : ℕ) : Type 0 where
  pub two : x ≡ y → ⊥
  pub at : (gap (tick log x) (tick log y) ≡ hi) ⊎ ((gap (tick log x) (tick log y) ≡ lo) × (0 < lo))

-- no two of the positions 0 to n + 1 are at these limits; at those of the row; at those of any row of the sheet
abbrev pub NoneAt : Log → (lo hi : ℕ) → Type 0
NoneAt log lo hi = (x y : ℕ) → x ≤ suc (length log.events) → y ≤ suc (length log.events) → AtLimit log x y lo hi → ⊥

abbrev pub Unmoved : Log → Row → Type 0
Unmoved log (point p s) = Unit {0}
Unmoved log (next p q s) = Unit {0}
Unmoved log (last p q s) = Unit {0}
Unmoved log (earlier p q a) = Unit {0}
Unmoved log (later p q a) = Unit {0}
Unmoved log (before p q) = Unit {0}
Unmoved log (apart p q) = Unit {0}
Unmoved log (same p q) = Unit {0}
Unmoved log (free p q s) = Unit {0}
Unmoved log (within p q lo hi) = NoneAt log lo hi
Unmoved log (outside p q lo hi) = NoneAt log lo hi
Unmoved log (event p s) = Unit {0}

pub record UnmovedSheet (log : Log) (sheet : Sheet) : Type 0 where
  pub antecedent : All (Unmoved log) sheet.antecedent
  pub consequents : All (All (Unmoved log)) sheet.consequents
