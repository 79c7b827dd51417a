-- `has_value` meets its contract. The loop's invariant: whatever entries stand at `at`, the value is among those left exactly if it is among all (`Sought`).
use lib.ListN.{drop}
use Rattle.dictionary.proofs.VersionOne.{Sought}
use Rattle.dictionary.proofs.has_value.Given as goal

abbrev pub invariant-loop : goal.invariant-loop
invariant-loop l = Sought l.t l.v (drop l.initial.p l.body) l.n l.counter (drop l.p l.body)
