-- `place_at` meets its contract by where the offset says the rows are.
use Rattle.std.proofs.Common.{sym, ◌∙◌}
use Rattle.bitmap_index.proofs.PlacingRows.{as_row, as_place}
use Rattle.bitmap_index.proofs.QuickAudit.{set_as_row, set_as_place}
use Rattle.bitmap_index.proofs.place_at.Goals as goal

pub returns-in-Single-clause-placed : goal.returns-in-Single-clause-placed
returns-in-Single-clause-placed g c =
    let a = c.args in
    λ told. as_row a.entry a.offset a.extent a.rows a.region.now a.field.now c.ranges.offset (sym c.from.ensures ∙ c.in-Single.is) (c.place_row.ensures.placed told)

pub returns-in-Single-clause-set : goal.returns-in-Single-clause-set
returns-in-Single-clause-set g c =
    let a = c.args in
    set_as_row a.entry a.offset a.extent a.rows a.region.now a.field.now c.ranges.offset (sym c.from.ensures ∙ c.in-Single.is) c.place_row.ensures.set

pub returns-in-Bitmap-clause-placed : goal.returns-in-Bitmap-clause-placed
returns-in-Bitmap-clause-placed g c =
    let a = c.args in
    λ told. as_place a.entry a.offset a.extent a.rows a.region.now a.field.now c.ranges.offset (sym c.from.ensures ∙ c.in-Bitmap.is) (c.place_bitmap.ensures.placed told)

pub returns-in-Bitmap-clause-set : goal.returns-in-Bitmap-clause-set
returns-in-Bitmap-clause-set g c =
    let a = c.args in
    set_as_place a.entry a.offset a.extent a.rows a.region.now a.field.now c.ranges.offset (sym c.from.ensures ∙ c.in-Bitmap.is) c.place_bitmap.ensures.set
