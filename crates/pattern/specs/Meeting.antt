-- What a row asks of positions, by kind: the rules of kinds 2 to 8. Inner vocabulary.
-- Assumes nothing.
use Rattle.std.specs.Prelude.{Bool, not, ◌&&◌, cond, ℕ, min, max, ltb, eqb}
use Rattle.scenario.specs.Rows.{Run, clear}

-- the rules of kinds 2 to 5, of the positions x, y and z of the points p, q and a
unfoldable pub placed_by : Run → (kind s x y z : ℕ) → Bool
placed_by run kind s x y z =
    cond (eqb kind 2) (ltb y x && run.has s x && clear run s y x)
    (cond (eqb kind 3) (ltb x y && run.has s x && clear run s x y)
    (cond (eqb kind 4) (eqb x (min y z)) (eqb x (max y z))))

-- the rules of kinds 6 to 8
unfoldable pub ordered_by : (kind x y : ℕ) → Bool
ordered_by kind x y = cond (eqb kind 6) (ltb x y) (cond (eqb kind 7) (not (eqb x y)) (eqb x y))
