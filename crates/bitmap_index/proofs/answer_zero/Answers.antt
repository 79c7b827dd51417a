-- `answer_zero` meets its contract: an accepted audit found every entry sound, so that the chosen ones' rows can be marked; no row says skip.
use Rattle.numbers.proofs.ByteLists.{bytes_drop}
use Rattle.dictionary.specs.Promises.{dictionary_of}
use Rattle.bitmap_index.specs.Names.{question_of}
use Rattle.bitmap_index.proofs.Answering.{audited-sound}
use Rattle.bitmap_index.proofs.Asking.{zero_answered}
use Rattle.bitmap_index.proofs.answer_zero.Goals as goal

pub mark_asked-requires : goal.mark_asked-requires
mark_asked-requires c =
    let a = c.args in
    let region = bytes_drop a.summary.region.0 a.body.now (λ i. (c.type_inv.body i).fits) in
    let accepted = c.requires.0 in (
      record {
        is_read = accepted.is_read;
        sound = λ es d. audited-sound (dictionary_of a.body.now a.summary es) a.field.now region a.summary.rows (accepted.accepts es d).0;
      },
      c.requires.1,
    )

pub returns : goal.returns
returns c =
    let a = c.args in
    λ es d ls w. rw c.of.ensures (zero_answered (question_of a.question) ls (dictionary_of a.body.now a.summary es) a.field.now (c.mark_asked.ensures es d ls w)
    c.count-matched.ensures (c.requires.0.accepts es d).1)
