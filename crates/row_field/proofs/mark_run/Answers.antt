-- A run within one byte is that byte's bits (`run-one`); any other is a first byte, whole bytes and a last byte (`run_cut`, `run_whole`).
use Rattle.std.proofs.Common.{◌+◌, ◌-◌, ◌*◌, ◌/◌, arith}
use Rattle.row_field.specs.Promises.{MarkedRows}
use Rattle.row_field.proofs.RunRows.{run, middle, rows_none, rows_out, run-one, run_cut, run_whole, untold, rows_at_once, bits_as}
use Rattle.row_field.proofs.mark_run.Goals as goal

pub returns-then-z-a : goal.returns-then-z-a
returns-then-z-a g c =
    let a = c.args in
    let m = rows_none a.field.now a.first.0 (a.last.0 + 1 - a.first.0) (omega (arith, c.if-z-a.true)) in
    record { marked = m.marked; seen = λ _. m.seen }

pub returns-then-field-from : goal.returns-then-field-from
returns-then-field-from g c =
    let a = c.args in
    let m = rows_out a.field.now a.first.0 (a.last.0 + 1 - a.first.0) (omega arith) in
    record { marked = m.marked; seen = λ _. m.seen }

pub returns-then-from-to : goal.returns-then-from-to
returns-then-from-to g c =
    let a = c.args in
    let e = run-one a.first.0 a.last.0 (omega arith) (omega arith) in
    let m : MarkedRows a.field.now c.mark_byte.new.field (run a.first.0 a.last.0) c.mark_byte.result =
    rows_at_once a.first.0 (a.last.0 + 1 - a.first.0) (rw e (bits_as (a.first.0 / 8 * 8) c.bits_between.ensures c.mark_byte.ensures)) in
    record { marked = m.marked; seen = λ _. m.seen }

pub returns-then-field-to : goal.returns-then-field-to
returns-then-field-to g c =
    let a = c.args.first.0 in
    let z = c.args.last.0 in
    let head = c.mark_byte-head.ensures in
    let all = c.mark_bytes-middle.ensures in
    record {
      marked = (run_cut a z (omega arith) c.bits_between-2.ensures head (untold (middle a z) all.marked) (omega arith)).marked;
      seen = λ told. (run_cut a z (omega arith) c.bits_between-2.ensures head (record { seen = all.seen told; marked = all.marked }) (omega arith)).seen;
    }

pub returns : goal.returns
returns g c =
    let a = c.args.first.0 in
    let z = c.args.last.0 in
    let head = c.mark_byte-head.ensures in
    let all = c.mark_bytes-middle.ensures in
    let tail = c.mark_byte-tail.ensures in
    record {
      marked = (run_whole a z (omega arith) c.bits_between-2.ensures head (untold (middle a z) all.marked) c.bits_between-3.ensures tail).marked;
      seen = λ told. (run_whole a z (omega arith) c.bits_between-2.ensures head (record { seen = all.seen told; marked = all.marked }) c.bits_between-3.ensures tail).seen;
    }
