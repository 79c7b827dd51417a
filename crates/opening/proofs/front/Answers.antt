-- `front` meets its contract: each way out is a law of the reading of the fields in front.
use Rattle.std.proofs.Common.{◌≡◌, Err, rules}
use Rattle.numbers.specs.Meaning.{Bytes}
use Rattle.opening.proofs.FrontSteps.{front_empty, front-version, front-rows, front-values, front_cut, front-wrong, front-null, front-blocks, front_unfit, front_fits}
use Rattle.opening.proofs.front.Goals as goal

pub returns-then-body-lt-ROWS_AT : goal.returns-then-body-lt-ROWS_AT
returns-then-body-lt-ROWS_AT c = front_empty c.args.body.now c.if-body-lt-ROWS_AT.true

pub returns-then-byte-ne-VERSION : goal.returns-then-byte-ne-VERSION
returns-then-byte-ne-VERSION c = front-version c.args.body.now c.if-body-lt-ROWS_AT.false c.byte.ensures.0 c.if-byte-ne-VERSION.true

pub returns-in_err-rows : goal.returns-in_err-rows
returns-in_err-rows c =
    let y : c.from_residual.result ≡ Err c.in_err-rows.field-0.0 = search rules in
    rw y (front-rows c.args.body.now c.if-body-lt-ROWS_AT.false c.byte.ensures.0 c.if-byte-ne-VERSION.false c.in_err-rows.ensures)

pub returns-in_err-values : goal.returns-in_err-values
returns-in_err-values c =
    let y : c.from_residual-in_err-values.result ≡ Err c.in_err-values.field-0.0 = search rules in
    rw y (front-values c.args.body.now c.if-body-lt-ROWS_AT.false c.byte.ensures.0 c.if-byte-ne-VERSION.false c.in_ok-rows.ensures c.in_err-values.ensures)

pub returns-then-body-lt-NULL_AT : goal.returns-then-body-lt-NULL_AT
returns-then-body-lt-NULL_AT c =
    front_cut c.args.body.now c.if-body-lt-ROWS_AT.false c.byte.ensures.0 c.if-byte-ne-VERSION.false c.in_ok-rows.ensures c.in_ok-values.ensures
    c.if-body-lt-NULL_AT.true

pub returns-then-has-gt1 : goal.returns-then-has-gt1
returns-then-has-gt1 c =
    front-wrong c.args.body.now c.if-body-lt-ROWS_AT.false c.byte.ensures.0 c.if-byte-ne-VERSION.false c.in_ok-rows.ensures c.in_ok-values.ensures
    c.if-body-lt-NULL_AT.false c.byte-has.ensures.0 c.if-has-gt1.true

pub returns-in_err-null : goal.returns-in_err-null
returns-in_err-null c =
    let y : c.from_residual-in_err-null.result ≡ Err c.in_err-null.field-0.0 = search rules in
    rw y (front-null c.args.body.now c.if-body-lt-ROWS_AT.false c.byte.ensures.0 c.if-byte-ne-VERSION.false c.in_ok-rows.ensures c.in_ok-values.ensures
    c.if-body-lt-NULL_AT.false c.byte-has.ensures.0 c.if-has-gt1.false c.in_err-null.ensures)

pub returns-in_err-blocks : goal.returns-in_err-blocks
returns-in_err-blocks c =
    let y : c.from_residual-in_err-blocks.result ≡ Err c.in_err-blocks.field-0.0 = search rules in
    rw y (front-blocks c.args.body.now c.if-body-lt-ROWS_AT.false c.byte.ensures.0 c.if-byte-ne-VERSION.false c.in_ok-rows.ensures c.in_ok-values.ensures
    c.if-body-lt-NULL_AT.false c.byte-has.ensures.0 c.if-has-gt1.false c.in_ok-null.null c.in_ok-null.ensures c.in_err-blocks.ensures)

pub returns-then-not-blocks_fit : goal.returns-then-not-blocks_fit
returns-then-not-blocks_fit c =
    front_unfit c.args.body.now c.if-body-lt-ROWS_AT.false c.byte.ensures.0 c.if-byte-ne-VERSION.false c.in_ok-rows.ensures c.in_ok-values.ensures
    c.if-body-lt-NULL_AT.false c.byte-has.ensures.0 c.if-has-gt1.false c.in_ok-null.null c.in_ok-null.ensures c.in_ok-blocks.ensures c.blocks_fit.ensures
    c.if-not-blocks_fit.true

pub returns : goal.returns
returns c =
    let s = c.args.body.now in
    let bytes : Bytes s = λ i. (c.type_inv.body i).fits in
    front_fits s c.if-body-lt-ROWS_AT.false c.byte.ensures.0 c.if-byte-ne-VERSION.false c.in_ok-rows.ensures c.in_ok-values.ensures
    c.if-body-lt-NULL_AT.false c.byte-has.ensures.0 c.if-has-gt1.false c.in_ok-null.null c.in_ok-null.ensures c.in_ok-blocks.ensures c.blocks_fit.ensures
    c.if-not-blocks_fit.false bytes
