use Prim.Native.Nat.{◌-◌}
use mathlib.Core.Path.{refl}
use native.Mathlib.Omega.{arith}
use Rattle.row_field.proofs.Loops.{marks_first, marks_one, marks_past}
use Rattle.row_field.proofs.RunRows.{rows_at_once}
use Rattle.benchmark_loops.proofs.Runs.{row_next, rows_done}
use Rattle.benchmark_loops.proofs.benchmark_mark_bits.Goals as goal

pub loop-row-init : goal.loop-row-init
loop-row-init c = (refl, marks_first _ _)

pub loop-row-preserved : goal.loop-row-preserved
loop-row-preserved c =
    let l = c.loop-row in
    let g = c.args in
    (omega arith, marks_one l.invariant.1 (row_next l.row g.end (omega arith)) c.mark-seen.ensures.0 c.mark-seen.ensures.1)

pub returns : goal.returns
returns c =
    let l = c.loop-row in
    let g = c.args in
    rows_at_once g.first (g.end - g.first) (marks_past l.invariant.1 (rows_done l.field l.row g.end (omega arith)))
