-- `audit` meets its contract: a refusal before the field is written leaves it, and all else is `audit_field`'s.
use Rattle.std.proofs.Common.{rules, ◌≡◌, Err}
use Rattle.bitmap_index.proofs.Auditing.{is_ready, audit_refused, bitmaps_refused, bitmaps-sound}
use Rattle.bitmap_index.proofs.audit.Goals as goal

pub returns-in_err-summary : goal.returns-in_err-summary
returns-in_err-summary c =
    let a = c.args in
    let refused : c.from_residual.result ≡ Err c.in_err-summary.field-0.0 = search rules in
    rw refused (audit_refused a.t a.body.now a.field.now c.in_err-summary.ensures)

pub audit_field-requires : goal.audit_field-requires
audit_field-requires c =
    let a = c.args in
    is_ready a.t a.body.now a.field.now c.in_ok-summary.ensures

pub returns-in_err-audit_field : goal.returns-in_err-audit_field
returns-in_err-audit_field c =
    let a = c.args in
    let refused : c.from_residual-in_err-audit_field.result ≡ Err c.in_err-audit_field.field-0.0 = search rules in
    rw refused (bitmaps_refused a.t a.body.now a.field.now c.in_ok-summary.ensures c.in_err-audit_field.ensures)

pub returns : goal.returns
returns c =
    let a = c.args in
    bitmaps-sound a.t a.body.now a.field.now c.in_ok-summary.ensures c.in_ok-audit_field.ensures
