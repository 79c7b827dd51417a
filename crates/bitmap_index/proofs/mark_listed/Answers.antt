-- `mark_listed` meets its contract: a table of zeros holds nothing, and once the literals are entered it finds exactly those.
use Rattle.std.proofs.Common.{refl}
use Rattle.bitmap_index.specs.Names.{question_of}
use Rattle.bitmap_index.proofs.Asking.{may_enter, in_table}
use Rattle.bitmap_index.proofs.mark_listed.Goals as goal

pub enter-requires : goal.enter-requires
enter-requires c =
    let a = c.args in
    may_enter a.t (question_of a.question) a.literals.now a.body.now c.requires.1

pub mark_chosen-requires : goal.mark_chosen-requires
mark_chosen-requires c =
    let a = c.args in
    let asked = c.requires.1 in
    (c.requires.0, (asked.0, in_table _ a.body.now asked.0 asked.1 refl c.enter.ensures))

pub returns : goal.returns
returns c =
    let a = c.args in
    λ es d ls w. c.mark_chosen.ensures es d ls (in_table _ a.body.now ls w refl c.enter.ensures)
