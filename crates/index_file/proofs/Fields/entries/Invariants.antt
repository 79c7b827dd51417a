-- The invariant: what is left gives the whole. A name, a start and a length are one turn of the reading.
use Rattle.names.specs.Reading.{matches}
use Rattle.index_file.proofs.Steps.{Entries}
use Rattle.index_file.proofs.Fields.entries.Given as goal

abbrev pub invariant-loop : goal.invariant-loop
invariant-loop l = Entries (matches l.kind.bytes.now) l.initial.self.rest.now l.n l.seen l.self.rest.now l.counter
