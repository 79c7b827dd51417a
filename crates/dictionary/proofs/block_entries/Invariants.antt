-- `block_entries` meets its contract. The loop's invariant: what is left of the reading, behind the entries so far, gives the whole (`Walked`).
use Prim.Native.Nat.{◌≤◌}
use lib.ListN.{length, drop}
use Rattle.dictionary.specs.Promises.{SpanIn, cell_at}
use Rattle.dictionary.proofs.Walks.{Walked, in_block}
use Rattle.dictionary.proofs.block_entries.Given as goal

abbrev pub invariant-loop : goal.invariant-loop
invariant-loop l =
    (l.initial.next.0 ≤ l.next.0) × (l.next.0 ≤ length l.body) × SpanIn l.body l.last × SpanIn l.body l.first × (l.counter ≤ l.n)
    × Walked (in_block l.t) l.n (cell_at l.body l.initial.last, cell_at l.body l.initial.first) (drop l.initial.next.0 l.body) l.counter (cell_at l.body l.last, cell_at l.body l.first) (drop l.next.0 l.body)
