-- `base` meets its contract: the body offset stands behind the directory.
use native.Mathlib.Omega.{arith}
use Rattle.lookup.proofs.ListingSteps.{base_short, base-past, base_at}
use Rattle.lookup.proofs.Reader.base.Goals as goal

pub returns-then-self-end-lt-WORD : goal.returns-then-self-end-lt-WORD
returns-then-self-end-lt-WORD c =
    let a = c.args in
    base_short a.self.t a.self.table.now a.self.body.now a.fields c.directory_end.ensures c.in_ok-end.was c.if-self-end-lt-WORD.true

pub returns-then-room-offset : goal.returns-then-room-offset
returns-then-room-offset c =
    let a = c.args in
    let w = rw c.in_ok-end.was at c.directory_end.ensures in
    base-past a.self.t a.self.table.now a.self.body.now a.fields c.directory_end.ensures c.in_ok-end.was (omega (arith, w.1, c.if-self-end-lt-WORD.false))
    c.be-offset.ensures.value c.if-room-offset.true

pub returns : goal.returns
returns c =
    let a = c.args in
    let w = rw c.in_ok-end.was at c.directory_end.ensures in
    base_at a.self.t a.self.table.now a.self.body.now a.fields c.directory_end.ensures c.in_ok-end.was (omega (arith, w.1, c.if-self-end-lt-WORD.false))
    c.be-offset.ensures.value c.if-room-offset.false
