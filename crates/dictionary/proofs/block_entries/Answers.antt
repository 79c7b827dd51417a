use mathlib.Core.Path.{◌≡◌}
use mathlib.Core.Bool.{true, ◌&&◌}
use native.Mathlib.Omega.{arith}
use borrow.Author.Rules.{rules}
use Rattle.std.specs.Prelude.{Err}
use lib.ListN.{drop}
use Rattle.dictionary.specs.Reading.{past, is_value_due}
use Rattle.dictionary.specs.Promises.{EndsAt, bytes_at, cell_at}
use Rattle.dictionary.proofs.Walks.{walk_first, walk_refused, walk_barred, walk_short, walk_next, in_block}
use Rattle.dictionary.proofs.VersionTwo.{span, rule_past, rule_due, rule_kept, block_fails, block_ends}
use Rattle.dictionary.proofs.block_entries.Goals as goal
use Rattle.dictionary.proofs.block_entries.Goals.{Else-not-is_due, In_ok-end}

pub loop-init : goal.loop-init
loop-init c =
    let a = c.args in
    let start = walk_first (in_block a.t) a.n (cell_at a.body.now a.before, cell_at a.body.now a.due) (drop a.at.0 a.body.now) in
    (omega arith, c.requires.0, c.requires.1, c.requires.2, omega arith, start)

-- the entry's value
found : (c : In_ok-end) → let a = c.args in
    EndsAt a.t a.body.now c.loop.next.0 c.in_ok-end.end.0
found c = rw c.in_ok-end.was at c.value_end.ensures

-- it is past the one before, and the one that is due
kept : (c : Else-not-is_due) → let a = c.args in
    let v = bytes_at a.body.now (span c.loop.next.0 c.in_ok-end.end.0) in
    (past a.t (cell_at a.body.now c.loop.last) v && is_value_due (cell_at a.body.now c.loop.first) v) ≡ true
kept c = rule_kept c.is_past.ensures c.if-not-is_past.false c.is_due.ensures c.if-not-is_due.false

pub returns-in_err-end : goal.returns-in_err-end
returns-in_err-end c =
    let a = c.args in
    let y : c.from_residual.result ≡ Err c.in_err-end.field-0.0 = search rules in
    rw y (block_fails a.t a.n a.body.now a.before a.due a.at.0
    (walk_refused a.body.now c.loop.next.0 c.loop.invariant.5 c.loop-test.true (rw c.in_err-end.was at c.value_end.ensures)))

pub is_past-requires : goal.is_past-requires
is_past-requires c = let w = found c in (c.loop.invariant.2, omega arith, w.2)

pub returns-then-not-is_past : goal.returns-then-not-is_past
returns-then-not-is_past c =
    let a = c.args in
    block_fails a.t a.n a.body.now a.before a.due a.at.0
    (walk_barred a.body.now c.loop.next.0 c.loop.invariant.5 c.loop-test.true c.in_ok-end.end.0 (found (goal.at.returns-then-not-is_past c).In_ok-end)
    (rule_past c.is_past.ensures _ c.if-not-is_past.true))

pub is_due-requires : goal.is_due-requires
is_due-requires c = let w = found (goal.at.is_due-requires c).In_ok-end in (c.loop.invariant.3, omega arith, w.2)

pub returns-then-not-is_due : goal.returns-then-not-is_due
returns-then-not-is_due c =
    let a = c.args in
    block_fails a.t a.n a.body.now a.before a.due a.at.0
    (walk_barred a.body.now c.loop.next.0 c.loop.invariant.5 c.loop-test.true c.in_ok-end.end.0 (found (goal.at.returns-then-not-is_due c).In_ok-end)
    (rule_due c.is_past.ensures c.if-not-is_past.false c.is_due.ensures c.if-not-is_due.true))

pub overflow_sub-body : goal.overflow_sub-body
overflow_sub-body c = let w = found (goal.at.overflow_sub-body c).In_ok-end in omega arith

pub returns-then-body-end : goal.returns-then-body-end
returns-then-body-end c =
    let a = c.args in
    block_fails a.t a.n a.body.now a.before a.due a.at.0
    (walk_short a.body.now c.loop.next.0 c.loop.invariant.5 c.loop-test.true c.in_ok-end.end.0 (found (goal.at.returns-then-body-end c).In_ok-end) (kept (goal.at.returns-then-body-end c).Else-not-is_due) c.if-body-end.true)

pub loop-preserved : goal.loop-preserved
loop-preserved c =
    let a = c.args in
    let w = found (goal.at.loop-preserved c).In_ok-end in
    let next = walk_next a.body.now c.loop.next.0 c.loop.invariant.5 c.loop-test.true c.in_ok-end.end.0 w (kept (goal.at.loop-preserved c).Else-not-is_due) (omega arith) in
    (omega arith, omega arith, (omega arith, w.2), tt, omega arith, next)

pub returns : goal.returns
returns c =
    let a = c.args in
    let inv = c.loop.invariant in
    block_ends a.body.now a.before a.due a.at.0 c.loop.next.0 c.loop.last inv.5 inv.4 c.loop-test.false inv.0 inv.1 inv.2
