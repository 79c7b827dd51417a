-- `audit_field` meets its contract: no byte behind the field has changed, so that the field cleared again is the field cleared at first.
use Rattle.std.proofs.Common.{refl}
use Rattle.bitmap_index.proofs.Auditing.{zero_ready, then_zero}
use Rattle.bitmap_index.proofs.QuickAudit.{told_quickly, clear-again}
use Rattle.dictionary.specs.Promises.{dictionary_of}
use Rattle.bitmap_index.proofs.audit_field.Goals as goal

pub audit_clear-quick-requires : goal.audit_clear-quick-requires
audit_clear-quick-requires c =
    let a = c.args in
    zero_ready a.t a.body.now a.summary a.field.now c.clear.ensures c.requires

pub returns-in-Ok : goal.returns-in-Ok
returns-in-Ok c =
    let a = c.args in
    λ es l. told_quickly (dictionary_of a.body.now a.summary es) a.field.now c.audit_clear-quick.new.field c.clear.ensures
    (c.audit_clear-quick.ensures.quick es l) c.clear-2.ensures c.in-Ok.is

pub audit_clear-told-requires : goal.audit_clear-told-requires
audit_clear-told-requires c =
    let a = c.args in
    let y = c.requires.is_read in
    zero_ready a.t a.body.now a.summary a.field.now
    (clear-again (dictionary_of a.body.now a.summary y.entries) a.field.now c.audit_clear-quick.new.field c.clear.ensures
    (c.audit_clear-quick.ensures.quick y.entries y.summary) c.clear-2.ensures)
    c.requires

pub returns : goal.returns
returns c =
    let a = c.args in
    λ es l. then_zero (dictionary_of a.body.now a.summary es) a.field.now c.audit_clear-told.new.field
    (clear-again (dictionary_of a.body.now a.summary es) a.field.now c.audit_clear-quick.new.field c.clear.ensures
    (c.audit_clear-quick.ensures.quick es l) c.clear-2.ensures)
    (c.audit_clear-told.ensures.told refl es l) c.clear-3.ensures
