-- `ask` meets its contract by its stages: the question, all that comes before the field is written, the audit and the answer.
use Rattle.std.proofs.Common.{rules, ◌≡◌, Err}
use Rattle.bitmap_index.proofs.Auditing.{is_ready}
use Rattle.bitmap_index.proofs.Asking.{ask_refused, ask_unprepared, ask_unaudited, ask_accepts, ask_answers}
use Rattle.bitmap_index.proofs.ask.Goals as goal

pub returns-in_err-question : goal.returns-in_err-question
returns-in_err-question c =
    let a = c.args in
    let refused : c.from_residual.result ≡ Err c.in_err-question.field-0.0 = search rules in
    rw refused (ask_refused a.t a.question a.literals.now a.body.now a.field.now c.in_err-question.ensures)

pub returns-in_err-summary : goal.returns-in_err-summary
returns-in_err-summary c =
    let a = c.args in
    let refused : c.from_residual-in_err-summary.result ≡ Err c.in_err-summary.field-0.0 = search rules in
    rw refused (ask_unprepared a.t a.question a.literals.now a.body.now a.field.now c.in_ok-question.ensures.1 c.in_err-summary.ensures)

pub audit_field-requires : goal.audit_field-requires
audit_field-requires c =
    let a = c.args in
    is_ready a.t a.body.now a.field.now c.in_ok-summary.ensures

pub returns-in_err-nulls : goal.returns-in_err-nulls
returns-in_err-nulls c =
    let a = c.args in
    let refused : c.from_residual-in_err-nulls.result ≡ Err c.in_err-nulls.field-0.0 = search rules in
    rw refused (ask_unaudited a.t a.question a.literals.now a.body.now a.field.now c.in_ok-question.ensures.1 c.in_ok-summary.ensures c.in_err-nulls.ensures)

pub answer_zero-requires : goal.answer_zero-requires
answer_zero-requires c =
    let a = c.args in (
      ask_accepts a.t a.question a.literals.now a.body.now a.field.now c.in_ok-question.ensures.1 c.in_ok-summary.ensures c.in_ok-nulls.ensures,
      rw c.in_ok-question.ensures.0 c.in_ok-question.ensures.1,
    )

pub returns : goal.returns
returns c =
    let a = c.args in
    ask_answers a.t a.question a.literals.now a.body.now a.field.now c.in_ok-question.ensures.1 c.in_ok-summary.ensures c.in_ok-nulls.ensures
    (rw c.in_ok-question.ensures.0 at c.answer_zero.ensures)
