-- `mark_entry` meets its contract: an entry that is not chosen leaves the field as it was, and the rows of any other are marked.
use Rattle.dictionary.specs.Promises.{entry_at}
use Rattle.bitmap_index.specs.Names.{question_of}
use Rattle.bitmap_index.proofs.PlacingRows.{to_end}
use Rattle.bitmap_index.proofs.Marking.{not_chosen, is_chosen, sound-entry}
use Rattle.bitmap_index.proofs.mark_entry.Goals as goal

pub returns-then-not-chooses : goal.returns-then-not-chooses
returns-then-not-chooses c =
    let a = c.args in
    λ ls w. not_chosen a.body.now a.summary (question_of a.sought.now.question) ls a.field.now (entry_at a.body.now a.entry)
    (c.chooses.ensures ls w) c.if-not-chooses.true

pub mark_at-requires : goal.mark_at-requires
mark_at-requires c =
    let a = c.args in
    rw (to_end a.summary.region.0 a.body.now) (sound-entry a.body.now a.summary (entry_at a.body.now a.entry) c.requires.0.sound)

pub returns : goal.returns
returns c =
    let a = c.args in
    λ ls w. is_chosen a.body.now a.summary (question_of a.sought.now.question) ls a.field.now (entry_at a.body.now a.entry) (c.chooses.ensures ls w)
    c.if-not-chooses.false
    (rw (to_end a.summary.region.0 a.body.now) at c.mark_at.ensures)
