-- `place_row` meets its contract: RANGE by the first test, TWICE by what `row_field::mark` says of the row.
use Rattle.std.proofs.Common.{arith}
use Rattle.std.proofs.lemmas.Grind.{common_steps}
use Rattle.bitmap_index.proofs.PlacingRows.{row_range, row_twice, row_done}
use Rattle.bitmap_index.proofs.QuickAudit.{row-set, refused-set}
use Rattle.bitmap_index.proofs.place_row.Goals as goal
use Rattle.bitmap_index.proofs.place_row.Goals.{else-this-ne0-via-then-this-ne0+else-seen, else-this-ne0-via-else-this-ne0}

pub returns-then-rows-row-clause-placed : goal.returns-then-rows-row-clause-placed
returns-then-rows-row-clause-placed g c =
    let a = c.args in
    λ told. row_range a.entry a.row.0 a.rows a.field.now c.if-rows-row.true

pub returns-then-seen-clause-placed : goal.returns-then-seen-clause-placed
returns-then-seen-clause-placed g c =
    let a = c.args in
    λ told. row_twice a.entry a.row.0 a.rows a.field.now c.if-rows-row.false c.mark-seen.ensures.0 c.mark-seen.ensures.1 c.if-seen.true

pub returns-then-seen-clause-set : goal.returns-then-seen-clause-set
returns-then-seen-clause-set g c =
    let a = c.args in
    refused-set (row_twice a.entry a.row.0 a.rows a.field.now c.if-rows-row.false c.mark-seen.ensures.0 c.mark-seen.ensures.1 c.if-seen.true)

pub returns-clause-placed : goal.returns-clause-placed
returns-clause-placed g c =
    let a = c.args in
    elim c.else-this-ne0.branch [
      | else-this-ne0-via-then-this-ne0+else-seen w ↦ λ told. row_done a.entry a.row.0 a.rows a.field.now c.if-rows-row.false c.mark-seen.ensures.0 c.mark-seen.ensures.1
          c.requires w.if-seen.false
      | else-this-ne0-via-else-this-ne0 w ↦ λ told. absurd (grind (arith, common_steps))
    ]

pub returns-clause-set : goal.returns-clause-set
returns-clause-set g c =
    let a = c.args in
    row-set a.row.0 a.rows a.field.now c.if-rows-row.false c.requires c.mark-seen.ensures.1 a.entry
