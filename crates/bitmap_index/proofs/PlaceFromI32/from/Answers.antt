-- `from` meets its contract: a negative offset's row is -1 less the offset, which fits at the least value too; any other offset is a place.
use Rattle.bitmap_index.proofs.Offsets.{row_fits, row_cast, place_cast, as_single, as_bitmap}
use Rattle.bitmap_index.proofs.PlaceFromI32.from.Goals as goal

pub overflow_sub-result : goal.overflow_sub-result
overflow_sub-result c = row_fits c.args.offset c.ranges.offset c.if-offset-lt0.true

pub overflow_cast-result : goal.overflow_cast-result
overflow_cast-result c = row_cast c.args.offset c.ranges.offset c.if-offset-lt0.true

pub returns-then-offset-lt0 : goal.returns-then-offset-lt0
returns-then-offset-lt0 c = as_single c.args.offset c.ranges.offset c.if-offset-lt0.true

pub overflow_cast-result-2 : goal.overflow_cast-result-2
overflow_cast-result-2 c = place_cast c.args.offset c.ranges.offset c.if-offset-lt0.false

pub returns : goal.returns
returns c = as_bitmap c.args.offset c.ranges.offset c.if-offset-lt0.false
