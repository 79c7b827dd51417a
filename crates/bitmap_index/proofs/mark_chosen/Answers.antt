-- `mark_chosen` meets its contract: null's entry, then the values'.
use Rattle.dictionary.specs.Promises.{nulls_of}
use Rattle.bitmap_index.specs.Names.{question_of}
use Rattle.bitmap_index.proofs.Marking.{both_marked, null_inside}
use Rattle.bitmap_index.proofs.mark_chosen.Goals as goal

pub mark_null-requires : goal.mark_null-requires
mark_null-requires c =
    let a = c.args in
    null_inside a.sought.now.t a.body.now a.summary c.requires.0

pub returns : goal.returns
returns c =
    let a = c.args in
    λ es d ls w. both_marked a.body.now a.summary (question_of a.sought.now.question) ls a.field.now (nulls_of a.summary) es (c.mark_null.ensures ls)
    (c.mark_values.ensures es d ls w)
