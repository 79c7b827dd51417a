use Rattle.std.proofs.Common.{◌≡◌, ◌-◌, ◌+◌, ◌∙◌, refl}
use native.Mathlib.Omega.{arith}
use Prim.Native.Nat.{suc}
use Rattle.deletion_file.proofs.WalkSteps.{rest_of}
use Rattle.deletion_window.proofs.Marking.{no_count, each_first, each_unsound, each_next, each_done}
use Rattle.deletion_window.proofs.mark_each.Goals as goal

pub returns-then-bytes-lt-COUNT_SIZE : goal.returns-then-bytes-lt-COUNT_SIZE
returns-then-bytes-lt-COUNT_SIZE c =
    let a = c.args in
    no_count a.shown.first a.shown.rows a.bytes.now a.field.now c.if-bytes-lt-COUNT_SIZE.true

pub loop-init : goal.loop-init
loop-init c =
    let a = c.args in
    let all : c.le-count.result - 0 ≡ c.le-count.result = omega arith in
    (refl, rw (all, rest_of 8 a.bytes.now) (each_first a.shown.first a.shown.rows a.bytes.now a.field.now (omega arith) c.le-count.ensures.value))

pub returns-in_default : goal.returns-in_default
returns-in_default c =
    let a = c.args in
    let l = c.loop in
    let more : c.le-count.result - l.counter ≡ suc (c.le-count.result - (l.counter + 1)) = omega arith in
    each_unsound a.shown.first a.shown.rows a.bytes.now l.invariant.1 more (rw c.in_default.is at c.next_bitmap.ensures)

pub loop-preserved : goal.loop-preserved
loop-preserved c =
    let a = c.args in
    let l = c.loop in
    let more : c.le-count.result - l.counter ≡ suc (c.le-count.result - (l.counter + 1)) = omega arith in (
      c.mark_indexed.auto.field ∙ l.invariant.0,
      each_next a.shown.first a.shown.rows a.bytes.now l.invariant.1 more c.in-Some.next c.in-Some.ensures.is_read c.in-Some.ensures.so c.mark_indexed.ensures,
    )

pub returns : goal.returns
returns c =
    let a = c.args in
    let l = c.loop in
    rw c.is_empty.ensures (each_done a.shown.first a.shown.rows a.bytes.now l.invariant.1 (omega arith))
