-- `benchmark_mark_run` meets its contract: `mark_run` takes a run's last row, which is the one before its end.
use Prim.Native.Nat.{◌+◌, ◌-◌}
use mathlib.Core.Path.{◌≡◌, refl}
use native.Mathlib.Omega.{arith}
use Rattle.row_field.specs.Meaning.{up_to}
use Rattle.row_field.specs.Promises.{MarkedRows}
use Rattle.row_field.proofs.RunRows.{rows_none}
use Rattle.benchmark_loops.proofs.benchmark_mark_run.Goals as goal

pub returns-then-end-first : goal.returns-then-end-first
returns-then-end-first c =
    let g = c.args in
    rows_none g.field.now g.first (g.end - g.first) (omega arith)

pub returns : goal.returns
returns c =
    let g = c.args in
    let h : MarkedRows g.field.now c.mark_run.new.field (up_to g.first (g.end - 1 + 1 - g.first)) c.mark_run.result = record { seen = c.mark_run.ensures.seen refl; marked = c.mark_run.ensures.marked } in
    let e : g.end - 1 + 1 ≡ g.end = omega arith in
    rw e at h
