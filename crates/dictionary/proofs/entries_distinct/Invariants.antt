-- `entries_distinct` meets its contract. The loop's invariant: what is left of the reading, behind the entries so far, gives the whole, and a table that is
-- kept has those entries' values (`Kept`).
use Prim.Native.Nat.{◌≤◌}
use Rattle.std.proofs.Common.{IsTrue, not, nat_eq}
use lib.ListN.{length}
use Rattle.dictionary.proofs.VersionOne.{Kept}
use Rattle.dictionary.proofs.entries_distinct.Given as goal

abbrev pub invariant-loop-i : goal.invariant-loop-i
invariant-loop-i g l = (l.p ≤ length l.body) × (l.i ≤ l.n) × Kept (IsTrue (not (nat_eq g.row.TABLED 0))) l.t l.n l.body l.at.0 l.i l.p l.table
