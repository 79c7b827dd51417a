-- The rows of the bytes that are left, marked from here, give the whole (`rows_next`, `rows_done`).
use Rattle.std.proofs.Common.{◌≡◌, ◌-◌, ◌*◌, not, eqb, length}
use Rattle.row_field.specs.Meaning.{rows_from, rows_of}
use Rattle.row_field.proofs.Loops.{Marks}
use Rattle.row_field.proofs.merge.Given as goal

abbrev pub invariant-loop-i : goal.invariant-loop-i
invariant-loop-i l =
    (length l.field ≡ length l.initial.field) × Marks (rows_of l.rows) l.initial.field (rows_from l.rows (l.i * 8) ((length l.rows - l.i) * 8)) l.field (not (eqb l.seen 0))
