-- What is found lies within the buffer that is looked at.
use Rattle.std.proofs.Common.{◌∙◌, sym, ap}
use Rattle.std.proofs.Common.{Ok}
use Rattle.index_file.proofs.Theorems.{found_within}
use Rattle.file_to_answers.proofs.body_in.Goals as goal

pub part-requires : goal.part-requires
part-requires c =
    let a = c.args in
    found_within c.looked_at-bytes.result.now a.column.now a.kind.now c.in-Some.at (λ i. (c.type_inv.bytes i).fits) (sym c.find.ensures ∙ c.in_ok-at.was ∙ ap Ok c.in-Some.is)
