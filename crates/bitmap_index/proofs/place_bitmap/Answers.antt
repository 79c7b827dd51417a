-- `place_bitmap` meets its contract: what measuring and marking promise of the part that begins at the bitmap's place, put into the reading.
use Rattle.std.proofs.Common.{rules, arith, ◌≡◌, Ok}
use Rattle.bitmap_index.proofs.PlacingRows.{to_end, behind_region, bitmap-unsound, bitmap_range, bitmap-sound, bitmap_twice, bitmap_done}
use Rattle.bitmap_index.proofs.QuickAudit.{bitmap-set, refused-set}
use Rattle.bitmap_index.proofs.place_bitmap.Goals as goal

pub returns-then-region-at-clause-placed : goal.returns-then-region-at-clause-placed
returns-then-region-at-clause-placed g c =
    let a = c.args in
    λ told. behind_region a.entry a.at.0 a.extent a.rows a.region.now a.field.now c.if-region-at.true

pub returns-in_err-shape-clause-placed : goal.returns-in_err-shape-clause-placed
returns-in_err-shape-clause-placed g c =
    let a = c.args in
    let h = bitmap-unsound a.entry a.at.0 a.extent a.rows a.region.now a.field.now (to_end a.at.0 a.region.now) c.extent_of.ensures c.measure.ensures in
    λ told. search (rules, h)

pub returns-then-rows-shape-clause-placed : goal.returns-then-rows-shape-clause-placed
returns-then-rows-shape-clause-placed g c =
    let a = c.args in
    let t : c.measure.result ≡ Ok c.in_ok-shape.shape = search rules in
    λ told. bitmap_range a.entry a.at.0 a.extent a.rows a.region.now a.field.now (to_end a.at.0 a.region.now)
    c.extent_of.ensures c.measure.ensures t (omega arith)

pub set-requires : goal.set-requires
set-requires g c =
    let a = c.args in
    let t : c.measure.result ≡ Ok c.in_ok-shape.shape = search rules in
    bitmap-sound a.entry a.at.0 a.extent a.rows a.region.now a.field.now (to_end a.at.0 a.region.now)
    c.extent_of.ensures c.measure.ensures t (λ i. (c.type_inv.region i).fits) (omega arith)

pub returns-then-not-this-clause-set : goal.returns-then-not-this-clause-set
returns-then-not-this-clause-set g c =
    let a = c.args in
    let t : c.measure.result ≡ Ok c.in_ok-shape.shape = search rules in
    bitmap-set a.at.0 a.extent a.rows a.region.now a.field.now (to_end a.at.0 a.region.now)
    c.extent_of.ensures c.measure.ensures t (λ i. (c.type_inv.region i).fits) (omega arith) c.requires c.set.ensures a.entry

pub mark-requires : goal.mark-requires
mark-requires g c =
    let a = c.args in
    let t : c.measure.result ≡ Ok c.in_ok-shape.shape = search rules in
    bitmap-sound a.entry a.at.0 a.extent a.rows a.region.now a.field.now (to_end a.at.0 a.region.now)
    c.extent_of.ensures c.measure.ensures t (λ i. (c.type_inv.region i).fits) (omega arith)

pub returns-then-mark-clause-placed : goal.returns-then-mark-clause-placed
returns-then-mark-clause-placed g c =
    let a = c.args in
    let t : c.measure.result ≡ Ok c.in_ok-shape.shape = search rules in
    λ told. bitmap_twice a.entry a.at.0 a.extent a.rows a.region.now a.field.now (to_end a.at.0 a.region.now)
    c.extent_of.ensures c.measure.ensures t (λ i. (c.type_inv.region i).fits) (omega arith) c.mark.ensures c.if-mark.true

pub returns-then-mark-clause-set : goal.returns-then-mark-clause-set
returns-then-mark-clause-set g c =
    let a = c.args in
    let t : c.measure.result ≡ Ok c.in_ok-shape.shape = search rules in
    refused-set (bitmap_twice a.entry a.at.0 a.extent a.rows a.region.now a.field.now (to_end a.at.0 a.region.now)
    c.extent_of.ensures c.measure.ensures t (λ i. (c.type_inv.region i).fits) (omega arith) c.mark.ensures c.if-mark.true)

pub returns-clause-placed : goal.returns-clause-placed
returns-clause-placed g c =
    let a = c.args in
    let t : c.measure.result ≡ Ok c.in_ok-shape.shape = search rules in
    λ told. bitmap_done a.entry a.at.0 a.extent a.rows a.region.now a.field.now (to_end a.at.0 a.region.now)
    c.extent_of.ensures c.measure.ensures t (λ i. (c.type_inv.region i).fits) (omega arith) c.mark.ensures c.requires c.if-mark.false

pub returns-clause-set : goal.returns-clause-set
returns-clause-set g c =
    let a = c.args in
    let t : c.measure.result ≡ Ok c.in_ok-shape.shape = search rules in
    bitmap-set a.at.0 a.extent a.rows a.region.now a.field.now (to_end a.at.0 a.region.now)
    c.extent_of.ensures c.measure.ensures t (λ i. (c.type_inv.region i).fits) (omega arith) c.requires c.mark.ensures.marked a.entry
