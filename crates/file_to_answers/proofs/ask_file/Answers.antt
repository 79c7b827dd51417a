-- By cases of what is found in the buffer that is looked at. What holds of any bytes says of a column's file what the scan says.
use Rattle.std.proofs.lemmas.Result.{err_from_is_err_and}
use Rattle.file_to_answers.proofs.Calls.{asked_absent, asked_refused, asked_answer, asked_fault}
use Rattle.file_to_answers.proofs.ask_file.Goals as goal

pub returns-in_err-body : goal.returns-in_err-body
returns-in_err-body c =
    let a = c.args in
    let p = err_from_is_err_and c.from_residual.result c.from_residual.ensures.1 in
    let both = asked_refused _ a.column.now a.kind.now a.t a.question a.literals.now a.field.now (λ i. (c.type_inv.field i).fits) c.in_err-body.ensures in
    rw (p.1, p.2) (record { any_bytes = both.0; as_the_scan = both.1 })

pub returns-in_default : goal.returns-in_default
returns-in_default c =
    let a = c.args in
    let both = asked_absent _ a.column.now a.kind.now a.t a.question a.literals.now a.field.now (λ i. (c.type_inv.field i).fits) (rw c.in_default.is at c.in_ok-body.ensures) in
    record { any_bytes = both.0; as_the_scan = both.1 }

pub returns-in_err-answer : goal.returns-in_err-answer
returns-in_err-answer c =
    let a = c.args in
    let p = err_from_is_err_and c.from_residual-in_err-answer.result c.from_residual-in_err-answer.ensures.1 in
    let b = rw c.in-Some.is at c.in_ok-body.ensures in
    let both = asked_fault _ a.column.now a.kind.now a.t a.question a.literals.now a.field.now (λ i. (c.slice_known-1.given i).fits) b.1 b.2 c.in_err-answer.ensures in
    rw (p.1, p.2) (record { any_bytes = both.0; as_the_scan = both.1 })

pub returns : goal.returns
returns c =
    let a = c.args in
    let b = rw c.in-Some.is at c.in_ok-body.ensures in
    let both = asked_answer _ a.column.now a.kind.now a.t a.question a.literals.now a.field.now (λ i. (c.slice_known-1.given i).fits) b.1 b.2 c.in_ok-answer.ensures in
    record { any_bytes = both.0; as_the_scan = both.1 }
