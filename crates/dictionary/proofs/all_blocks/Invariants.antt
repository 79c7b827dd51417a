-- `all_blocks` meets its contract. The loop's invariant: whatever listings the directory has, what is left of them and of the reading gives the whole
-- (`InBlocks`).
use Prim.Native.Nat.{◌*◌, ◌≤◌}
use mathlib.Core.List.{List}
use lib.ListN.{length, drop}
use Rattle.numbers.specs.Meaning.{sign_bit}
use Rattle.dictionary.specs.Promises.{DirectoryFrom, SpanIn, cell_at}
use Rattle.dictionary.specs.Reading.{Listing}
use Rattle.dictionary.proofs.VersionTwo.{InBlocks}
use Rattle.dictionary.proofs.all_blocks.Given as goal

abbrev pub invariant-loop : goal.invariant-loop
invariant-loop l =
    (l.base.0 ≤ l.next.0) × (l.next.0 ≤ length l.body) × SpanIn l.body l.before × (l.counter ≤ l.b) × (l.sum ≤ sign_bit * l.counter)
    × ((ds : List Listing) → DirectoryFrom l.t l.b (drop l.initial.listing.0 l.body) ds
    → InBlocks l.t ds (drop l.base.0 l.body) l.counter (drop l.listing.0 l.body) (cell_at l.body l.before) l.sum (drop l.next.0 l.body))
