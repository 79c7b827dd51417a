use lib.ListN.{drop}
use Rattle.dictionary.proofs.VersionOne.{sought-first, sought_done, sought_stands, sought-found, sought-next}
use Rattle.dictionary.proofs.has_value.Goals as goal

pub loop-init : goal.loop-init
loop-init c = let a = c.args in sought-first a.t a.v.now (drop a.at.0 a.body.now) a.n

pub known_end-to-requires : goal.known_end-to-requires
known_end-to-requires c =
    sought_stands c.args.body.now c.loop.p c.loop.invariant c.loop-test.true c.requires.0 c.requires.1

pub returns-then-same : goal.returns-then-same
returns-then-same c =
    sought-found c.args.body.now c.loop.p c.loop.invariant c.loop-test.true c.known_end-to.result.0 c.known_end-to.ensures c.same.ensures c.if-same.true

pub loop-preserved : goal.loop-preserved
loop-preserved c =
    sought-next c.args.body.now c.loop.p c.loop.invariant c.loop-test.true c.known_end-to.result.0 c.known_end-to.ensures c.same.ensures c.if-same.false

pub returns : goal.returns
returns c = sought_done c.loop.invariant c.loop-test.false
