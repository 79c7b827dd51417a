-- `next` gives the first place, and leaves those behind it.
use mathlib.Core.Path.{ap}
use native.Mathlib.Omega.{arith}
use borrow.Author.Rules.{rules}
use lib.ListN.{length}
use Rattle.stored_value.proofs.Places.{Turn, stands, turn, no_turn}
use Rattle.stored_value.proofs.LiteralPlacesIterator.next.Goals as goal
use Rattle.stored_value.proofs.LiteralPlacesIterator.next.Goals.{After-known_size}

pub known_size-requires : goal.known_size-requires
known_size-requires c = let a = c.args.self.now in stands a.t a.bytes.now a.at.0 a.stand.1 (omega arith)

pub returns-then-self-clause-steps : goal.returns-then-self-clause-steps
returns-then-self-clause-steps c =
    let a = c.args.self.now in
    let z = no_turn a.t a.bytes.now a.at.0 a.stand.1 (omega arith) in
    (rw z, rw z)

-- the first literal
here : (c : After-known_size) → let a = c.args.self.now in Turn a.t a.bytes.now a.at.0 c.known_size.result
here c = let a = c.args.self.now in turn a.t a.bytes.now a.at.0 a.stand.1 (omega arith) c.known_size.result c.known_size.ensures

pub overflow_add-end : goal.overflow_add-end
overflow_add-end c = omega (arith, (here (goal.at.overflow_add-end c).After-known_size).within)

pub invariant_of-self : goal.invariant_of-self
invariant_of-self c =
    let x = here (goal.at.invariant_of-self c).After-known_size in
    record { stand = (x.within, x.behind) }

pub returns-clause-steps : goal.returns-clause-steps
returns-clause-steps c = (here (goal.at.returns-clause-steps c).After-known_size).all

pub returns-clause-goes : goal.returns-clause-goes
returns-clause-goes c =
    let x = ap length (here (goal.at.returns-clause-goes c).After-known_size).all in
    search rules
