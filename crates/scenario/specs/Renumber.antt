-- Rows under other point numbers: one section's rows read as another's. Document 02, A11 and A12. What must be believed.
-- Assumes nothing.
use Rattle.std.specs.Prelude.{◌&&◌, cond, List, map, ℕ, ◌+◌, ◌-◌, ◌*◌, ltb, leb}
use Rattle.scenario.specs.Rows.{Row, point, next, last, earlier, later, before, apart, same, free, within, outside, event}

-- A11: "points renumbered to fit"; A12: "section j read as section i, and point 10j + t as 10i + t". The spare point 10j + 9 moves too; all others stay.
unfoldable pub move : (j i : ℕ) → ℕ → ℕ
move j i m = cond (ltb (10 * j) m && leb m (10 * j + 9)) (m - 10 * j + 10 * i) m

-- the row with its points renumbered: p, q, and a of EARLIER and LATER; no set and no limit
abbrev pub renamed : (ℕ → ℕ) → Row → Row
renamed f (point p s) = point (f p) s
renamed f (next p q s) = next (f p) (f q) s
renamed f (last p q s) = last (f p) (f q) s
renamed f (earlier p q a) = earlier (f p) (f q) (f a)
renamed f (later p q a) = later (f p) (f q) (f a)
renamed f (before p q) = before (f p) (f q)
renamed f (apart p q) = apart (f p) (f q)
renamed f (same p q) = same (f p) (f q)
renamed f (free p q s) = free (f p) (f q) s
renamed f (within p q lo hi) = within (f p) (f q) lo hi
renamed f (outside p q lo hi) = outside (f p) (f q) lo hi
renamed f (event p s) = event (f p) s

-- rows of section j as rows of section i
abbrev pub moved : (j i : ℕ) → List Row → List Row
moved j i rows = map (renamed (move j i)) rows
