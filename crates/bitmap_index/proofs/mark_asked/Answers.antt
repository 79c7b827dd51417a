-- `mark_asked` meets its contract: with a table or without one.
use Rattle.std.proofs.Common.{refl}
use Rattle.bitmap_index.proofs.Asking.{no_table}
use Rattle.bitmap_index.proofs.mark_asked.Goals as goal

pub mark_chosen-requires : goal.mark_chosen-requires
mark_chosen-requires c =
    let asked = c.requires.1 in
    (c.requires.0, (asked.0, no_table _ c.args.body.now asked.0 asked.1 refl))

pub returns : goal.returns
returns c = λ es d ls w. c.mark_chosen.ensures es d ls (no_table _ c.args.body.now ls w refl)
