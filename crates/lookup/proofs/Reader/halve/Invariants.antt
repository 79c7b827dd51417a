-- `halve` meets its contract by `Halves`: each turn leaves fewer blocks in doubt.
use Rattle.lookup.proofs.HalveLoop.{Halves}
use Rattle.lookup.proofs.Reader.halve.Given as goal

abbrev pub invariant-loop-many : goal.invariant-loop-many
invariant-loop-many l = Halves l.self.t l.self.literal.now l.self.table.now l.self.body.now l.blocks l.low l.many l.offset l.compared

abbrev pub decreases-loop-many : goal.decreases-loop-many
decreases-loop-many l = l.many
