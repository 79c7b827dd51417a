-- `answer_in` meets its contract: null's rows, then those of the entry found, in a field that is clear.
use Rattle.lookup.proofs.AnswerSteps.{cleared-clear, found-stops, placed-counted, found-answers}
use Rattle.lookup.proofs.answer_in.Goals as goal

pub null_rows-requires : goal.null_rows-requires
null_rows-requires c =
    let z = cleared-clear c.args.located.summary.rows c.args.field.now c.clear.ensures c.requires.1 in
    (c.requires.0, z.0, z.1)

pub returns-in-Err : goal.returns-in-Err
returns-in-Err c =
    let a = c.args in
    found-stops a.body.now a.located a.field.now c.clear.ensures c.null_rows.ensures c.in_ok-nulls.was c.place_found.ensures c.in-Err.is c.clear-in-Err.ensures

pub matched_rows-matched-requires : goal.matched_rows-matched-requires
matched_rows-matched-requires c =
    let a = c.args in
    placed-counted a.body.now a.located a.field.now c.clear.ensures c.null_rows.ensures c.in_ok-nulls.was c.place_found.ensures c.requires.1 c.in-Ok.is

pub returns-in-Ok : goal.returns-in-Ok
returns-in-Ok c =
    let a = c.args in
    found-answers a.body.now a.located a.field.now c.clear.ensures c.null_rows.ensures c.in_ok-nulls.was c.place_found.ensures c.in-Ok.is c.matched_rows-matched.ensures
