-- `row_at` meets its contract: the five numbers are read as they stand, and the set is that of the last two.
use Rattle.pattern.proofs.Rows.{row_is}
use Rattle.pattern.proofs.row_at.Goals as goal

pub returns : goal.returns
returns c =
    let s = c.args in
    row_is s.rows.now s.j _ _ _ _ _ _ c.kind_of.ensures c.p_of.ensures c.q_of.ensures c.a_of-a.ensures c.b_of-b.ensures c.set_of.ensures
