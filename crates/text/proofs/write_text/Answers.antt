-- `write_text` meets its contract: the first line, then the rows.
use Rattle.text.proofs.Ink.{text-inked}
use Rattle.text.proofs.write_text.Goals as goal

pub returns : goal.returns
returns c =
    let a = c.args in
    text-inked a.k a.rows.now a.n a.buf.now c.write_head.new.buf _ c.write_head.ensures c.write_rows.ensures
