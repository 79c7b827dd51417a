-- What the code computes by the table is what `bit` and `mark` say.
use Rattle.row_field.proofs.Laws.{within_answer, within_store}
use Rattle.row_field.proofs.mark_within.Goals as goal

pub returns : goal.returns
returns c = (within_answer c.args.field.now c.args.row.0, within_store c.args.field.now c.args.row.0)
