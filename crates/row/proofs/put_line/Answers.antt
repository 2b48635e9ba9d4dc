-- `put_line` meets its contract: six numbers stored one after another.
use Rattle.row.specs.Memory.{put}
use Rattle.row.proofs.put_line.Goals as goal

pub returns : goal.returns
unfolding put
returns c =
    rw (c.store-6.ensures, c.store-5.ensures, c.store-4.ensures, c.store-3.ensures, c.store-2.ensures, c.store.ensures)
