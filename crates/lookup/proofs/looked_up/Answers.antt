-- `looked_up` meets its contract: where the question is well formed the body is short; and what was found is answered in a field with room.
use borrow.Author.Tests.{leb-true}
use mathlib.Core.Path.{sym, ◌∙◌}
use lib.ListN.{length}
use Rattle.row_field.specs.Meaning.{size}
use Rattle.bitmap_index.proofs.AcceptedStages.{asked_back}
use Rattle.lookup.proofs.SeekSteps.{look_answers}
use Rattle.lookup.proofs.looked_up.Goals as goal

pub seek-requires : goal.seek-requires
seek-requires c =
    let a = c.args in
    let w = c.in_ok-test_question.ensures in
    (asked_back a.t _ a.literals.now a.body.now w.0 w.1).0

pub returns : goal.returns
returns c =
    let a = c.args in
    look_answers a.t a.edition a.literals.now a.table.now a.body.now a.field.now c.in_ok-test_question.ensures c.in_ok-located.ensures
    (leb-true (size c.in_ok-located.located.summary.rows) (length a.field.now) (sym c.has_room.ensures ∙ c.if-not-has_room.false)) c.answer_in.ensures
