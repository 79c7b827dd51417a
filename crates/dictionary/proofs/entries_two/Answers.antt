-- `entries_two` meets its contract: each way out is a law of the reading from the block number on.
use Prim.Native.Nat.{◌+◌}
use mathlib.Core.Path.{◌≡◌}
use native.Mathlib.Omega.{arith}
use borrow.Author.Rules.{rules}
use Rattle.std.specs.Prelude.{Err, Ok}
use Rattle.dictionary.specs.Layout.{most_blocks}
use Rattle.dictionary.specs.Promises.{CountAt, DirectoryAt}
use Rattle.dictionary.proofs.VersionTwo.{two-count, two_unfit, two-directory, two-short, two-broken, two-offset, two_sum, two_ends}
use Rattle.dictionary.proofs.entries_two.Goals as goal
use Rattle.dictionary.proofs.entries_two.Goals.{In_ok-end, In_ok-b}

-- the block number, and the directory
blocks : (c : In_ok-b) → let a = c.args in CountAt most_blocks a.body.now a.at.0 (Ok c.in_ok-b.b)
blocks c = rw c.in_ok-b.was at c.count_at.ensures

listed : (c : In_ok-end)
    → let a = c.args in
    DirectoryAt a.t c.in_ok-b.b a.body.now (a.at.0 + 4) (Ok c.in_ok-end.end)
listed c = rw c.in_ok-end.was at c.directory_end.ensures

pub returns-in_err-b : goal.returns-in_err-b
returns-in_err-b c =
    let a = c.args in
    let y : c.from_residual.result ≡ Err c.in_err-b.field-0.0 = search rules in
    rw y (two-count a.t a.n a.body.now a.at.0 (rw c.in_err-b.was at c.count_at.ensures))

pub returns-then-not-blocks_fit : goal.returns-then-not-blocks_fit
returns-then-not-blocks_fit c = let a = c.args in two_unfit a.t a.n a.body.now a.at.0 (blocks (goal.at.returns-then-not-blocks_fit c).In_ok-b) c.blocks_fit.ensures c.if-not-blocks_fit.true

pub directory_end-requires : goal.directory_end-requires
directory_end-requires c = omega (arith, blocks (goal.at.directory_end-requires c).In_ok-b)

pub returns-in_err-end : goal.returns-in_err-end
returns-in_err-end c =
    let a = c.args in
    let y : c.from_residual-in_err-end.result ≡ Err c.in_err-end.field-0.0 = search rules in
    rw y (two-directory a.t a.n a.body.now a.at.0 (blocks (goal.at.returns-in_err-end c).In_ok-b) c.blocks_fit.ensures c.if-not-blocks_fit.false
    (rw c.in_err-end.was at c.directory_end.ensures))

pub overflow_sub-body : goal.overflow_sub-body
overflow_sub-body c = omega (arith, (listed (goal.at.overflow_sub-body c).In_ok-end).3)

pub returns-then-body-end-lt-NUMBER : goal.returns-then-body-end-lt-NUMBER
returns-then-body-end-lt-NUMBER c =
    let a = c.args in
    two-short a.t a.n a.body.now a.at.0 (blocks (goal.at.returns-then-body-end-lt-NUMBER c).In_ok-b) c.blocks_fit.ensures c.if-not-blocks_fit.false (listed (goal.at.returns-then-body-end-lt-NUMBER c).In_ok-end) c.if-body-end-lt-NUMBER.true

pub all_blocks-requires : goal.all_blocks-requires
all_blocks-requires c =
    let l = (listed (goal.at.all_blocks-requires c).In_ok-end).3 in
    let n = blocks (goal.at.all_blocks-requires c).In_ok-b in
    (omega arith, n.2, ((listed (goal.at.all_blocks-requires c).In_ok-end).0, (listed (goal.at.all_blocks-requires c).In_ok-end).2))

pub returns-in_err-blocks : goal.returns-in_err-blocks
returns-in_err-blocks c =
    let a = c.args in
    let l = (listed (goal.at.returns-in_err-blocks c).In_ok-end).3 in
    let y : c.from_residual-in_err-blocks.result ≡ Err c.in_err-blocks.field-0.0 = search rules in
    rw y (two-broken a.t a.n a.body.now a.at.0 (blocks (goal.at.returns-in_err-blocks c).In_ok-b) c.blocks_fit.ensures c.if-not-blocks_fit.false
    (listed (goal.at.returns-in_err-blocks c).In_ok-end) (omega arith) c.be-offset.ensures.value (rw c.in_err-blocks.was at c.all_blocks.ensures))

pub overflow_sub-blocks : goal.overflow_sub-blocks
overflow_sub-blocks c = let x = rw c.in_ok-blocks.was at c.all_blocks.ensures in omega (arith, x.1)

pub returns-then-offset-blocks : goal.returns-then-offset-blocks
returns-then-offset-blocks c =
    let a = c.args in
    let l = (listed (goal.at.returns-then-offset-blocks c).In_ok-end).3 in
    two-offset a.t a.n a.body.now a.at.0 (blocks (goal.at.returns-then-offset-blocks c).In_ok-b) c.blocks_fit.ensures c.if-not-blocks_fit.false (listed (goal.at.returns-then-offset-blocks c).In_ok-end) (omega arith) c.be-offset.ensures.value
    (rw c.in_ok-blocks.was at c.all_blocks.ensures) c.if-offset-blocks.true

pub returns-then-blocks-n : goal.returns-then-blocks-n
returns-then-blocks-n c =
    let a = c.args in
    let l = (listed (goal.at.returns-then-blocks-n c).In_ok-end).3 in
    two_sum a.t a.n a.body.now a.at.0 (blocks (goal.at.returns-then-blocks-n c).In_ok-b) c.blocks_fit.ensures c.if-not-blocks_fit.false (listed (goal.at.returns-then-blocks-n c).In_ok-end) (omega arith) c.be-offset.ensures.value
    (rw c.in_ok-blocks.was at c.all_blocks.ensures) c.if-offset-blocks.false c.if-blocks-n.true

pub returns : goal.returns
returns c =
    let a = c.args in
    let l = (listed (goal.at.returns c).In_ok-end).3 in
    two_ends a.t a.n a.body.now a.at.0 (blocks (goal.at.returns c).In_ok-b) c.blocks_fit.ensures c.if-not-blocks_fit.false (listed (goal.at.returns c).In_ok-end) (omega arith) c.be-offset.ensures.value
    (rw c.in_ok-blocks.was at c.all_blocks.ensures) c.if-offset-blocks.false c.if-blocks-n.false
