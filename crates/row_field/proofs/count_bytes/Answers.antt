use Rattle.std.proofs.Common.{◌*◌, arith}
use lib.Count.{ones-le}
use Rattle.row_field.proofs.Counts.{count-byte, count-le}
use Rattle.row_field.proofs.count_bytes.Goals as goal

pub overflow_add-total : goal.overflow_add-total
overflow_add-total c =
    let i = c.loop-i.i in
    let f = c.args.field.now in
    omega (arith, ones-le 8 _ (c.type_inv.field i).fits, count-le f (i * 8), c.from-total.ensures)

pub loop-i-preserved : goal.loop-i-preserved
loop-i-preserved c =
    let i = c.loop-i.i in
    omega (arith, count-byte c.args.field.now i (c.type_inv.field i).fits, c.from-total.ensures)
