-- `fill` meets its contract by `Filling`. A position fits 32 bits, since it is within the body's limit.
use Rattle.opening.proofs.TableSteps.{Filling}
use Rattle.opening.proofs.fill.Given as goal

abbrev pub invariant-loop-i : goal.invariant-loop-i
invariant-loop-i l = Filling l.t l.n l.body l.initial.start l.initial.table l.table l.i l.start
