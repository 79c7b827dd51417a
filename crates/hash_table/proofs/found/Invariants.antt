-- `found` meets its contract: a walk through the chain of v, whatever values the table holds.
use Prim.Native.Nat.{ℕ}
use mathlib.Core.List.{List}
use Rattle.hash_table.specs.Promises.{Holds}
use Rattle.hash_table.proofs.Chaining.{Walk}
use Rattle.hash_table.proofs.found.Given as goal

abbrev pub invariant-loop-at : goal.invariant-loop-at
invariant-loop-at l = (vs : List (List ℕ)) → Holds l.s l.table vs → Walk vs l.v l.at

abbrev pub decreases-loop-at : goal.decreases-loop-at
decreases-loop-at l = l.at
