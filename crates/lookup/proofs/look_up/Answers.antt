-- `look_up` meets its contract: with a refusal it has compared nothing.
use Rattle.lookup.proofs.SeekSteps.{look_refused}
use Rattle.lookup.proofs.look_up.Goals as goal

pub returns-in-Err : goal.returns-in-Err
returns-in-Err c =
    let a = c.args in
    look_refused a.t a.edition a.literals.now a.table.now a.body.now a.field.now (rw c.in-Err.is at c.looked_up.ensures)
