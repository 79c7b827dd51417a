-- `open` meets its contract: what was read is ready to be audited, and what is left of an accepted open is a law of the reading.
use Rattle.dictionary.specs.Promises.{dictionary_of}
use Rattle.bitmap_index.proofs.Auditing.{is_ready}
use Rattle.opening.proofs.OpenSteps.{open_accepted}
use Rattle.opening.proofs.open.Goals as goal

pub audit_field-requires : goal.audit_field-requires
audit_field-requires c =
    let a = c.args in
    is_ready a.t a.body.now a.field.now c.in_ok-summary.ensures

pub returns : goal.returns
returns c =
    let a = c.args in
    let f = c.in_ok-fields.fields in
    let r = c.in_ok-summary.ensures in
    let u = c.in_ok-audit_field.ensures r.0.entries r.0.summary in
    let w = c.in_ok-fields.ensures in
    open_accepted a.t a.body.now a.field.now a.table.now c.audit_field.new.field c.fill.new.table f
    (dictionary_of a.body.now c.in_ok-summary.summary r.0.entries) w.0 w.1.0 r.1 c.if-table-fields.false u.outcome.0 u.buffer c.fill.ensures
