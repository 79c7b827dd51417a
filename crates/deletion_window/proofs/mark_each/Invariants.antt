-- What is left of the bitmaps, from the rows so far, gives the whole, and those rows are marked (`Each`).
use Rattle.std.proofs.Common.{◌≡◌, ◌-◌, length}
use Rattle.deletion_window.proofs.Marking.{Each}
use Rattle.deletion_window.proofs.mark_each.Given as goal

abbrev pub invariant-loop : goal.invariant-loop
invariant-loop l =
    (length l.field ≡ length l.initial.field) × Each l.shown.first l.shown.rows l.bytes l.initial.field l.field (l.count - l.counter) l.left l.least
