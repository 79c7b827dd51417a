-- The invariant: what is left gives the whole. A name, a number and that many entries are one turn of the reading.
use Rattle.names.specs.Reading.{matches}
use Rattle.index_file.proofs.Steps.{Columns}
use Rattle.index_file.proofs.Fields.columns.Given as goal

abbrev pub invariant-loop : goal.invariant-loop
invariant-loop l = Columns (matches l.column.bytes.now) (matches l.kind.bytes.now) l.initial.self.rest.now l.n l.seen l.listed l.self.rest.now l.counter
