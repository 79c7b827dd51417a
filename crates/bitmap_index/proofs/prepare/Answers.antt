-- `prepare` meets its contract by the stages in their order.
use Rattle.std.proofs.Common.{rules, ◌≡◌, Err}
use Rattle.bitmap_index.proofs.Auditing.{too_long, no_dictionary, no_room, ready}
use Rattle.bitmap_index.proofs.prepare.Goals as goal

pub returns-then-body-gt-LIMIT : goal.returns-then-body-gt-LIMIT
returns-then-body-gt-LIMIT c =
    let a = c.args in
    too_long a.t a.body.now a.field.now c.if-body-gt-LIMIT.true

pub returns-in_err-summary : goal.returns-in_err-summary
returns-in_err-summary c =
    let a = c.args in
    let refused : c.from_residual.result ≡ Err c.in_err-summary.field-0.0 = search rules in
    rw refused (no_dictionary a.t a.body.now a.field.now c.if-body-gt-LIMIT.false c.in_err-summary.ensures)

pub returns-then-not-has_room : goal.returns-then-not-has_room
returns-then-not-has_room c =
    let a = c.args in
    no_room a.t a.body.now a.field.now c.if-body-gt-LIMIT.false c.in_ok-summary.ensures c.has_room.ensures c.if-not-has_room.true

pub returns : goal.returns
returns c =
    let a = c.args in
    ready a.t a.body.now a.field.now c.if-body-gt-LIMIT.false c.in_ok-summary.ensures c.has_room.ensures c.if-not-has_room.false
