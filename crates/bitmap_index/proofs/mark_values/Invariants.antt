-- `mark_values` meets its contract by `Marks`.
use Rattle.std.proofs.Common.{◌≡◌, length}
use Rattle.bitmap_index.proofs.Marking.{Marks}
use Rattle.bitmap_index.proofs.mark_values.Given as goal

abbrev pub invariant-loop : goal.invariant-loop
invariant-loop l =
    Marks l.sought.t l.body l.summary l.sought l.initial.field l.field l.cursor l.counter × (length l.field ≡ length l.initial.field)
