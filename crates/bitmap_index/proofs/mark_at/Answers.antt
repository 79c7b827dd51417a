-- `mark_at` meets its contract by where the offset says the rows are.
use Rattle.std.proofs.Common.{sym, ◌∙◌}
use Rattle.bitmap_index.proofs.PlacingRows.{to_end}
use Rattle.bitmap_index.proofs.Marking.{as_row, sound_there, there_inside, as_bitmap}
use Rattle.bitmap_index.proofs.mark_at.Goals as goal

pub returns-in-Single : goal.returns-in-Single
returns-in-Single c =
    let a = c.args in
    as_row a.offset a.rows a.region.now a.field.now c.ranges.offset (sym c.from.ensures ∙ c.in-Single.is) c.mark.ensures.1

pub slice_bounds-set-count : goal.slice_bounds-set-count
slice_bounds-set-count c =
    let a = c.args in
    there_inside a.offset a.rows a.region.now a.field.now c.ranges.offset (sym c.from.ensures ∙ c.in-Bitmap.is) c.requires

pub slice_bounds-set-start : goal.slice_bounds-set-start
slice_bounds-set-start c =
    let a = c.args in
    there_inside a.offset a.rows a.region.now a.field.now c.ranges.offset (sym c.from.ensures ∙ c.in-Bitmap.is) c.requires

pub set-requires : goal.set-requires
set-requires c =
    let a = c.args in
    rw (to_end _ a.region.now) (sound_there a.offset a.rows a.region.now a.field.now c.ranges.offset (sym c.from.ensures ∙ c.in-Bitmap.is) c.requires)

pub returns-in-Bitmap : goal.returns-in-Bitmap
returns-in-Bitmap c =
    let a = c.args in
    as_bitmap a.offset a.rows a.region.now a.field.now c.ranges.offset (sym c.from.ensures ∙ c.in-Bitmap.is) (rw (to_end _ a.region.now) at c.set.ensures)
