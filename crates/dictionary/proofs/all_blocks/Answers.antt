use mathlib.Core.Path.{◌≡◌}
use native.Mathlib.Omega.{arith}
use borrow.Author.Rules.{rules}
use Rattle.std.specs.Prelude.{Err}
use lib.ListN.{drop}
use Rattle.dictionary.proofs.VersionTwo.{listed-from, in_blocks-first, in_blocks_done, in_blocks_stand, in_blocks_refused, in_blocks-next}
use Rattle.dictionary.proofs.all_blocks.Goals as goal

pub loop-init : goal.loop-init
loop-init c =
    let a = c.args in
    let start = in_blocks-first a.t in
    (omega arith, c.requires.0, tt, omega arith, omega arith, λ ds l. start ds (drop a.base.0 a.body.now) (drop a.directory.0 a.body.now) l.0)

pub one_block-requires : goal.one_block-requires
one_block-requires c =
    let inv = c.loop.invariant in
    let l = c.requires.2.1 in
    let st = inv.5 c.requires.2.0 c.requires.2.1 in
    (inv.0, inv.1, inv.2, listed-from c.args.t (drop c.loop.listing.0 c.args.body.now) st.left st.listed (omega (arith, st.count)))

pub returns-in_err-block : goal.returns-in_err-block
returns-in_err-block c =
    let a = c.args in
    let o = c.loop in
    let y : c.from_residual.result ≡ Err c.in_err-block.field-0.0 = search rules in
    rw y (λ ds l. in_blocks_refused a.body.now a.base.0 o.listing.0 o.next.0 o.before (o.invariant.5 ds l) (omega arith) (rw c.in_err-block.was at c.one_block.ensures))

pub overflow_add-sum : goal.overflow_add-sum
overflow_add-sum c = let x = rw c.in_ok-block.was at c.one_block.ensures in omega (arith, x.4)

pub loop-preserved : goal.loop-preserved
loop-preserved c =
    let a = c.args in
    let o = c.loop in
    let x = rw c.in_ok-block.was at c.one_block.ensures in (
      omega (arith, x.1),
      x.2,
      x.3,
      omega arith,
      omega (arith, x.4),
      λ ds l. in_blocks-next a.body.now a.base.0 o.listing.0 o.next.0 o.before (o.invariant.5 ds l) (omega arith) c.in_ok-block.block x,
    )

pub returns : goal.returns
returns c =
    let o = c.loop in
    (λ ds l. let st = o.invariant.5 ds l in (st.es, in_blocks_done st (omega arith), st.total, in_blocks_stand st), o.invariant.0, o.invariant.1)
