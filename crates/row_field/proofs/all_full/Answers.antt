use Rattle.std.proofs.Common.{sym, get_or, arith}
use lib.Bits.{and_le_l}
use borrow.Author.Tests.{eq-eqb}
use Rattle.row_field.proofs.Counts.{count_none}
use Rattle.row_field.proofs.FullFields.{byte_full}
use Rattle.row_field.proofs.all_full.Goals as goal

pub loop-i-init : goal.loop-i-init
loop-i-init c = (omega arith, sym (eq-eqb _ _ (count_none c.args.field.now)))

pub loop-i-preserved : goal.loop-i-preserved
loop-i-preserved c =
    let l = c.loop-i in
    let f = c.args.field.now in
    (omega (arith, and_le_l l.all (get_or f l.i 0)), byte_full f l.i l.all l.invariant.0 (c.type_inv.field l.i).fits l.invariant.1)
