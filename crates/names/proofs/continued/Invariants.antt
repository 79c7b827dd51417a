-- The invariant: what is left gives the whole, and the value fits the bits of the bytes read.
use Rattle.names.proofs.Decoding.{Continued}
use Rattle.names.proofs.continued.Given as goal

abbrev pub invariant-loop : goal.invariant-loop
invariant-loop l = Continued l.initial.s l.n l.lead l.value l.rest l.counter
