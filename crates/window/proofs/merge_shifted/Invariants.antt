-- The bits of the bytes that are left, moved and marked from here, give the whole (`bytes_next`, `shifted_done`).
use Rattle.std.proofs.Common.{◌≡◌, ◌+◌, ◌-◌, ◌*◌, length}
use Rattle.row_field.proofs.Loops.{Marks}
use Rattle.window.specs.Promises.{moved}
use Rattle.window.proofs.merge_shifted.Given as goal

abbrev pub invariant-loop-i : goal.invariant-loop-i
invariant-loop-i l =
    (length l.part ≡ length l.initial.part)
    × Marks (moved l.bits l.shift 0 ((length l.bits - 1) * 8)) l.initial.part (moved l.bits (l.i * 8 + l.shift) (l.i * 8) ((length l.bits - 1 - l.i) * 8)) l.part l.seen
