-- `line_at` meets its contract: the six numbers, each by its name.
use Rattle.row.specs.Memory.{line_in}
use Rattle.row.proofs.line_at.Goals as goal

pub returns : goal.returns
unfolding line_in
returns c =
    rw (c.section_of.ensures, c.kind_of.ensures, c.p_of.ensures, c.q_of.ensures, c.a_of.ensures, c.b_of.ensures)
