-- `place_values` meets its contract by `Placements`, told, and by `Settings`. The sum fits, since it is never more than there are rows.
use Rattle.std.proofs.Common.{◌≡◌, ◌≤◌, IsTrue, not, nat_eq, length}
use Rattle.bitmap_index.proofs.PlacingEntries.{Placements}
use Rattle.bitmap_index.proofs.QuickAudit.{Settings}
use Rattle.bitmap_index.proofs.place_values.Given as goal

abbrev pub invariant-loop-i : goal.invariant-loop-i
invariant-loop-i g l =
    record {
      placed : IsTrue (not (nat_eq g.row.TELL 0)) → Placements l.t l.body l.summary l.initial.field l.field l.cursor l.i l.sum;
      set : Settings l.t l.body l.summary l.initial.field l.field l.cursor l.i l.sum;
      few : l.sum ≤ l.summary.rows;
      same : length l.field ≡ length l.initial.field;
    }
