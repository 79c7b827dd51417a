use mathlib.Core.Path.{◌≡◌, refl}
use native.Mathlib.Omega.{arith}
use borrow.Author.Rules.{rules}
use Rattle.std.specs.Prelude.{Err}
use Rattle.dictionary.specs.Promises.{EndsAt}
use Rattle.dictionary.proofs.Walks.{walk_first, walk_refused, walk_short, walk_next, directory}
use lib.ListN.{drop}
use Rattle.dictionary.proofs.VersionTwo.{directory_ends}
use Rattle.dictionary.proofs.directory_end.Goals as goal
use Rattle.dictionary.proofs.directory_end.Goals.{In_ok-end}

pub loop-init : goal.loop-init
loop-init c = let a = c.args in (c.requires, omega arith, walk_first (directory a.t) a.n tt (drop a.at.0 a.body.now))

-- the listing's value
found : (c : In_ok-end) → let a = c.args in
    EndsAt a.t a.body.now c.loop.next.0 c.in_ok-end.end.0
found c = rw c.in_ok-end.was at c.value_end.ensures

pub returns-in_err-end : goal.returns-in_err-end
returns-in_err-end c =
    let y : c.from_residual.result ≡ Err c.in_err-end.field-0.0 = search rules in
    rw y (walk_refused c.args.body.now c.loop.next.0 c.loop.invariant.2 c.loop-test.true (rw c.in_err-end.was at c.value_end.ensures))

pub overflow_sub-body : goal.overflow_sub-body
overflow_sub-body c = let w = found (goal.at.overflow_sub-body c).In_ok-end in omega arith

pub returns-then-body-end-lt-NUMBER : goal.returns-then-body-end-lt-NUMBER
returns-then-body-end-lt-NUMBER c =
    walk_short c.args.body.now c.loop.next.0 c.loop.invariant.2 c.loop-test.true c.in_ok-end.end.0 (found (goal.at.returns-then-body-end-lt-NUMBER c).In_ok-end) refl c.if-body-end-lt-NUMBER.true

pub loop-preserved : goal.loop-preserved
loop-preserved c =
    let w = found (goal.at.loop-preserved c).In_ok-end in
    let next = walk_next c.args.body.now c.loop.next.0 c.loop.invariant.2 c.loop-test.true c.in_ok-end.end.0 w refl (omega arith) in
    (omega arith, omega arith, next)

pub returns : goal.returns
returns c =
    let a = c.args in
    directory_ends a.body.now a.at.0 c.loop.next.0 c.loop.invariant.2 c.loop.invariant.1 c.loop-test.false c.loop.invariant.0
