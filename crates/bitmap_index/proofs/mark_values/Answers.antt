use Rattle.std.proofs.Common.{rules}
use Rattle.bitmap_index.proofs.Marking.{entry_inside, marks_next, marks_done}
use Rattle.bitmap_index.proofs.mark_values.Goals as goal

pub mark_entry-requires : goal.mark_entry-requires
mark_entry-requires c =
    let pre = c.requires in
    (entry_inside c.loop.invariant.0 c.next-entry.result c.next-entry.ensures c.loop-test.true pre.0.is_read, pre.1)

pub loop-preserved : goal.loop-preserved
loop-preserved c =
    (marks_next c.loop.invariant.0 c.next-entry.result c.next-entry.ensures c.loop-test.true c.mark_entry.ensures, search rules)

pub returns : goal.returns
returns c = marks_done c.loop.invariant.0 c.loop-test.false
