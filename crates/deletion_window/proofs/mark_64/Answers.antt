-- What was marked before a fault is taken away again.
use Rattle.std.proofs.Common.{rules}
use Rattle.refusal.specs.Reading.{and_then}
use Rattle.deletion_file.specs.Reading.{left_by}
use Rattle.deletion_window.specs.Reading.{marked_in}
use Rattle.deletion_window.proofs.Marking.{taken_back}
use Rattle.deletion_window.proofs.mark_64.Goals as goal

pub returns-then-not-mark_each-clause-field : goal.returns-then-not-mark_each-clause-field
unfolding left_by marked_in and_then
returns-then-not-mark_each-clause-field c =
    let a = c.args in
    let back = taken_back a.shown.first a.shown.rows a.bytes.now a.field.now _ c.mark_each.result c.mark_each.ensures c.if-not-mark_each.true c.requires in
    search (rules, back.0, back.1, c.clear.ensures)
