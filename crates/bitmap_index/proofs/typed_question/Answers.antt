-- `typed_question` meets its contract by the tests in their order.
use Rattle.std.proofs.Common.{rules, ◌≡◌, Err}
use Rattle.bitmap_index.proofs.Asking.{long_body, long_literals, unknown_type, unknown_edition, unknown_name, misfit, wrong-number, fits_question}
use Rattle.bitmap_index.proofs.typed_question.Goals as goal

pub returns-then-body-gt-LIMIT : goal.returns-then-body-gt-LIMIT
returns-then-body-gt-LIMIT c =
    let a = c.args in
    long_body a.t a.question a.literals.now a.body.now c.if-body-gt-LIMIT.true

pub returns-then-literals-gt-LIMIT : goal.returns-then-literals-gt-LIMIT
returns-then-literals-gt-LIMIT c =
    let a = c.args in
    long_literals a.t a.question a.literals.now a.body.now c.if-body-gt-LIMIT.false c.if-literals-gt-LIMIT.true

pub returns-then-t-ge-TYPES : goal.returns-then-t-ge-TYPES
returns-then-t-ge-TYPES c =
    let a = c.args in
    unknown_type a.t a.question a.literals.now a.body.now c.if-body-gt-LIMIT.false c.if-literals-gt-LIMIT.false c.if-t-ge-TYPES.true

pub returns-in_err-edition : goal.returns-in_err-edition
returns-in_err-edition c =
    let a = c.args in
    let refused : c.from_residual.result ≡ Err c.in_err-edition.field-0.0 = search rules in
    rw refused (unknown_edition a.t a.question a.literals.now a.body.now c.if-body-gt-LIMIT.false c.if-literals-gt-LIMIT.false c.if-t-ge-TYPES.false c.in_err-edition.ensures)

pub returns-in_err-name : goal.returns-in_err-name
returns-in_err-name c =
    let a = c.args in
    let refused : c.from_residual-in_err-name.result ≡ Err c.in_err-name.field-0.0 = search rules in
    rw refused (unknown_name a.t a.question a.literals.now a.body.now c.if-body-gt-LIMIT.false c.if-literals-gt-LIMIT.false c.if-t-ge-TYPES.false c.in_ok-edition.edition c.in_ok-edition.ensures
    c.in_err-name.ensures)

pub returns-in_err-count : goal.returns-in_err-count
returns-in_err-count c =
    let a = c.args in
    let refused : c.from_residual-in_err-count.result ≡ Err c.in_err-count.field-0.0 = search rules in
    rw refused (misfit a.t a.question a.literals.now a.body.now c.if-body-gt-LIMIT.false c.if-literals-gt-LIMIT.false c.if-t-ge-TYPES.false c.in_ok-edition.edition c.in_ok-edition.ensures
    c.in_ok-name.name c.in_ok-name.ensures c.in_err-count.ensures.answer)

pub returns-then-not-takes : goal.returns-then-not-takes
returns-then-not-takes c =
    let a = c.args in
    wrong-number a.t a.question a.literals.now a.body.now c.if-body-gt-LIMIT.false c.if-literals-gt-LIMIT.false c.if-t-ge-TYPES.false c.in_ok-edition.edition c.in_ok-edition.ensures
    c.in_ok-name.name c.in_ok-name.ensures c.in_ok-count.ensures.answer c.takes.ensures c.if-not-takes.true

pub returns : goal.returns
returns c =
    let a = c.args in
    fits_question a.t a.question a.literals.now a.body.now c.if-body-gt-LIMIT.false c.if-literals-gt-LIMIT.false c.if-t-ge-TYPES.false c.in_ok-edition.edition c.in_ok-edition.ensures
    c.in_ok-name.name c.in_ok-name.ensures c.in_ok-count.ensures.answer c.takes.ensures c.if-not-takes.false
