-- `seek` meets its contract: the fields in front, the body offset, the halving and the block, one after another.
use native.Mathlib.Omega.{arith}
use Rattle.std.proofs.Common.{rules}
use Rattle.lookup.proofs.SeekSteps.{seek_base, seek_halved, seek_searched, seek_found}
use Rattle.lookup.proofs.Reader.seek.Goals as goal

pub returns-in_err-base : goal.returns-in_err-base
returns-in_err-base c =
    let a = c.args in
    let h = seek_base a.self.t a.self.literal.now a.self.table.now a.self.body.now _ (rw c.in_ok-fields.was at c.front.ensures).0
    c.if-self-fields.false c.base.ensures c.in_err-base.was in
    search (rules, h)

pub returns-in_err-halving : goal.returns-in_err-halving
returns-in_err-halving c =
    let a = c.args in
    let h = seek_halved a.self.t a.self.literal.now a.self.table.now a.self.body.now _ (rw c.in_ok-fields.was at c.front.ensures).0
    c.if-self-fields.false c.base.ensures c.in_ok-base.was c.halve.ensures c.in_err-halving.was in
    search (rules, h)

pub returns-in_err-found : goal.returns-in_err-found
returns-in_err-found c =
    let a = c.args in
    let h = seek_searched a.self.t a.self.literal.now a.self.table.now a.self.body.now _ (rw c.in_ok-fields.was at c.front.ensures).0
    c.if-self-fields.false c.base.ensures c.in_ok-base.was c.halve.ensures c.in_ok-halving.was c.search_below.ensures c.in_err-found.was in
    search (rules, h)

pub returns : goal.returns
returns c =
    let a = c.args in
    seek_found a.self.t a.self.literal.now a.self.table.now a.self.body.now _ (rw c.in_ok-fields.was at c.front.ensures).0
    c.if-self-fields.false c.base.ensures c.in_ok-base.was c.halve.ensures c.in_ok-halving.was c.search_below.ensures c.in_ok-found.was
