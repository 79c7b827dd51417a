-- `place_found` meets its contract: as for any entry, if one was found.
use Rattle.std.proofs.Common.{refl}
use Rattle.bitmap_index.proofs.PlacingRows.{to_end}
use Rattle.lookup.proofs.AnswerSteps.{found_none, found_some}
use Rattle.lookup.proofs.place_found.Goals as goal

pub returns-in_default : goal.returns-in_default
returns-in_default c = let a = c.args in found_none a.body.now a.summary a.found a.field.now c.in_default.is

pub returns : goal.returns
returns c =
    let a = c.args in
    found_some a.body.now a.summary a.found a.field.now c.in-Some.is (rw (to_end a.summary.region.0 a.body.now) at (c.place_at.ensures.placed refl))
