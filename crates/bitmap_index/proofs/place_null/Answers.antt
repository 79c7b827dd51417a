-- `place_null` meets its contract: as for any entry, if the head has one for null; in a field that was clear the rows set are the rows placed.
use Rattle.std.proofs.Common.{rules, refl}
use Rattle.bitmap_index.proofs.PlacingRows.{to_end}
use Rattle.bitmap_index.proofs.PlacingEntries.{no_null, with_null, null-refused, null-kept, null_counted}
use Rattle.bitmap_index.proofs.place_null.Goals as goal

pub returns-in_default : goal.returns-in_default
returns-in_default c =
    let a = c.args in
    no_null a.summary a.body.now a.field.now c.in_default.is

pub returns-in_err-placed : goal.returns-in_err-placed
returns-in_err-placed c =
    let a = c.args in
    let p = with_null a.summary a.body.now a.field.now c.in-Some.is (rw (to_end a.summary.region.0 a.body.now) at c.place_at.ensures.placed refl) in
    let h = null-refused a.summary a.body.now a.field.now p in
    search (rules, h)

pub returns-then-not-counted : goal.returns-then-not-counted
returns-then-not-counted c =
    let a = c.args in
    let p = with_null a.summary a.body.now a.field.now c.in-Some.is (rw (to_end a.summary.region.0 a.body.now) at c.place_at.ensures.placed refl) in
    null-kept a.summary a.body.now a.field.now p c.in_ok-placed.was

pub returns : goal.returns
returns c =
    let a = c.args in
    let p = with_null a.summary a.body.now a.field.now c.in-Some.is (rw (to_end a.summary.region.0 a.body.now) at c.place_at.ensures.placed refl) in
    null_counted a.summary a.body.now a.field.now p c.in_ok-placed.was c.requires.2 c.count.ensures
