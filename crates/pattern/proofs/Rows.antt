-- Rows as six numbers each: the row that they spell.
-- Assumes nothing.
use mathlib.Core.Path.{◌≡◌}
use mathlib.Core.List.{List}
use Prim.Native.Nat.{ℕ}
use Rattle.scenario.specs.Rows.{set_of}
use Rattle.scenario.specs.Fields.{decode}
use Rattle.row.specs.Row.{row_in}
use Rattle.row.specs.Memory.{kind_at, p_at, q_at, a_at, b_at, line_in, row_at}

pub row_is : (rows : List ℕ) (j k p q a b s : ℕ) → k ≡ kind_at rows j → p ≡ p_at rows j → q ≡ q_at rows j → a ≡ a_at rows j → b ≡ b_at rows j → s ≡ set_of a b
    → decode k p q a b s ≡ row_at rows j
unfolding row_at row_in line_in
row_is rows j k p q a b s ek ep eq ea eb es = rw (es, ek, ep, eq, ea, eb)
