-- `is_matching` meets its contract: positions off the lines match nothing, and the others do exactly when the array that they are put into meets all rows.
use Rattle.pattern.proofs.Matching.{placement_off, placement-met}
use Rattle.row.specs.Memory.{rows_of}
use Rattle.pattern.proofs.is_matching.Goals as goal

pub returns-then-not-all_lines : goal.returns-then-not-all_lines
returns-then-not-all_lines c =
    let a = c.args in
    placement_off a.run.now.words c.args.run.now.held c.lines-n.result c.lines-n.ensures (rows_of a.rows.now a.count) a.points.now a.positions.now a.point_count c.requires.2 c.requires.3 c.requires.4
    c.all_lines.result c.all_lines.ensures (c.if-not-all_lines.true)

pub returns : goal.returns
returns c =
    let a = c.args in
    placement-met a.run.now.words c.args.run.now.held c.lines-n.result c.lines-n.ensures (rows_of a.rows.now a.count) a.points.now a.positions.now a.point_count c.requires.2 c.requires.3 c.requires.4 c.requires.1
    c.all_lines.result c.all_lines.ensures (c.if-not-all_lines.false)
    c.put_points.new.standing c.put_points.ensures c.all_met.result c.all_met.ensures
