-- `extent_of` meets its contract by its two cases.
use Rattle.bitmap_index.proofs.PlacingRows.{as_long, exactly}
use Rattle.bitmap_index.proofs.extent_of.Goals as goal

pub returns-then-extent-eq-MINUS_ONE : goal.returns-then-extent-eq-MINUS_ONE
returns-then-extent-eq-MINUS_ONE c = as_long c.args.extent c.if-extent-eq-MINUS_ONE.true

pub returns : goal.returns
returns c = exactly c.args.extent c.if-extent-eq-MINUS_ONE.false
