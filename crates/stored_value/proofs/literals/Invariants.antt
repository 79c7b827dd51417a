-- `literals` meets its contract: what is left to read, behind the literals read so far, gives the whole.
use Prim.Native.Nat.{ℕ, ◌-◌, ◌≤◌}
use mathlib.Core.Path.{◌≡◌}
use mathlib.Core.List.{List, []}
use lib.ListN.{length, drop}
use Rattle.stored_value.specs.Meaning.{most_literals}
use Rattle.stored_value.specs.Reading as reading
use Rattle.stored_value.proofs.literals.Given as goal

abbrev pub invariant-loop-at : goal.invariant-loop-at
invariant-loop-at l =
    (ls : List (List ℕ)) × (length ls ≡ l.count) × (l.count ≤ most_literals) × (l.at ≤ length l.s)
    × (reading.literals l.t (most_literals - l.count) ls (drop l.at l.s) ≡ reading.literals l.t most_literals [] l.s)

abbrev pub decreases-loop-at : goal.decreases-loop-at
decreases-loop-at l = length l.s - l.at
