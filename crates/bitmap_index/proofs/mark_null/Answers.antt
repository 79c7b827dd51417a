-- `mark_null` meets its contract: as for any entry, if the head has one for null.
use Rattle.bitmap_index.specs.Names.{question_of}
use Rattle.bitmap_index.proofs.PlacingRows.{to_end}
use Rattle.bitmap_index.proofs.Marking.{no_null, null-not-chosen, null_is_chosen, sound-null}
use Rattle.bitmap_index.proofs.mark_null.Goals as goal

pub returns-in_default : goal.returns-in_default
returns-in_default c =
    let a = c.args in
    λ ls. no_null a.body.now a.summary (question_of a.question) ls a.field.now c.in_default.is

pub returns-then-not-chooses_null : goal.returns-then-not-chooses_null
returns-then-not-chooses_null c =
    let a = c.args in
    λ ls. null-not-chosen a.body.now a.summary (question_of a.question) ls a.field.now c.in-Some.is (c.chooses_null.ensures ls) c.if-not-chooses_null.true

pub mark_at-requires : goal.mark_at-requires
mark_at-requires c =
    let a = c.args in
    rw (to_end a.summary.region.0 a.body.now) (sound-null a.body.now a.summary c.requires c.in-Some.is)

pub returns : goal.returns
returns c =
    let a = c.args in
    λ ls. null_is_chosen a.body.now a.summary (question_of a.question) ls a.field.now c.in-Some.is (c.chooses_null.ensures ls) c.if-not-chooses_null.false
    (rw (to_end a.summary.region.0 a.body.now) at c.mark_at.ensures)
