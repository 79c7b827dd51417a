-- `directory_end` meets its contract. The loop's invariant: what is left of the reading, behind the listings so far, gives the whole (`Walked`).
use Prim.Native.Nat.{◌≤◌}
use lib.ListN.{length, drop}
use Rattle.dictionary.proofs.Walks.{Walked, directory}
use Rattle.dictionary.proofs.directory_end.Given as goal

abbrev pub invariant-loop : goal.invariant-loop
invariant-loop l =
    (l.next.0 ≤ length l.body) × (l.counter ≤ l.n)
    × Walked (directory l.t) l.n tt (drop l.initial.next.0 l.body) l.counter tt (drop l.next.0 l.body)
