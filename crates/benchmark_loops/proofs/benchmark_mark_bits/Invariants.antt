-- The rows that are left, marked from here, give the whole (`row_next`, `rows_done`).
use Rattle.std.proofs.Common.{◌≡◌, ◌-◌, length}
use Rattle.row_field.specs.Meaning.{up_to}
use Rattle.row_field.proofs.Loops.{Marks}
use Rattle.benchmark_loops.proofs.benchmark_mark_bits.Given as goal

abbrev pub invariant-loop-row : goal.invariant-loop-row
invariant-loop-row l =
    (length l.field ≡ length l.initial.field) × Marks (up_to l.fn.first (l.fn.end - l.fn.first)) l.initial.field (up_to l.row (l.fn.end - l.row)) l.field l.seen
