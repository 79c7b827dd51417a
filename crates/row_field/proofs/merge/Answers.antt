use Rattle.std.proofs.Common.{◌*◌, length, arith}
use Rattle.row_field.proofs.RowLists.{rows_of_rising}
use Rattle.row_field.proofs.Loops.{marks_bits, marks_past, at_once}
use Rattle.row_field.proofs.ByteRows.{rows_next, rows_done}
use Rattle.row_field.proofs.merge.Goals as goal

pub loop-i-preserved : goal.loop-i-preserved
loop-i-preserved c =
    let rows = c.args.rows.now in
    let next = rows_next rows (length rows) c.loop-i.i (omega arith) in
    (omega arith, marks_bits c.loop-i.seen c.mark_bits-seen.result c.loop-i.invariant.1 next c.mark_bits-seen.ensures)

pub returns : goal.returns
returns c =
    let l = c.loop-i in
    let rows = c.args.rows.now in
    at_once 0 (length rows * 8) (rows_of_rising rows) (marks_past l.invariant.1 (rows_done l.field rows l.i (omega arith)))
