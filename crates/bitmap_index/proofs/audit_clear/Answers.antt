-- `audit_clear` meets its contract: null's entry, then the values'; a number of their rows other than the row count is MISSING. Untold, they were placed where as
-- many rows were set as there are, and all of them are set.
use Rattle.std.proofs.Common.{rules, arith, ◌≡◌, Err, true, sym, ◌∙◌}
use Rattle.std.proofs.lemmas.Grind.{common_steps}
use borrow.Author.Tests.{eqb-true}
use Rattle.bitmap_index.proofs.Auditing.{nulls-refuse, values-refuse, some_missing, none_missing}
use Rattle.bitmap_index.proofs.QuickAudit.{nulls-below, whole-known, placed-known}
use Rattle.bitmap_index.proofs.audit_clear.Goals as goal

pub returns-in_err-nulls-clause-told : goal.returns-in_err-nulls-clause-told
returns-in_err-nulls-clause-told g c =
    let a = c.args in
    let refused : c.from_residual.result ≡ Err c.in_err-nulls.field-0.0 = search rules in
    λ told es d. rw refused (nulls-refuse a.summary a.body.now a.field.now c.place_null.ensures es c.in_err-nulls.was)

pub returns-in_err-others-clause-told : goal.returns-in_err-others-clause-told
returns-in_err-others-clause-told g c =
    let a = c.args in
    let refused : c.from_residual-in_err-others.result ≡ Err c.in_err-others.field-0.0 = search rules in
    λ told es d. rw refused (values-refuse a.summary a.body.now a.field.now c.place_null.ensures es c.in_ok-nulls.was
    (c.place_values.ensures.placed told es d) c.in_err-others.was)

pub overflow_sub-left : goal.overflow_sub-left
overflow_sub-left g c =
    let a = c.args in
    nulls-below a.summary a.body.now a.field.now c.place_null.ensures c.requires.0.is_read.entries c.in_ok-nulls.was c.requires.1

pub returns-then-not-this-clause-quick : goal.returns-then-not-this-clause-quick
returns-then-not-this-clause-quick g c =
    let a = c.args in
    λ es d. let full : c.all_set.result ≡ true = grind (arith, common_steps) in
    whole-known a.summary a.body.now a.field.now c.place_null.ensures es
    (c.place_values.ensures.set es d) c.in_ok-nulls.was c.in_ok-others.was c.requires.1 c.if-others-left.false
    (eqb-true _ _ (sym c.all_set.ensures ∙ full)) a.t (λ i. (c.type_inv.body i).fits) d

pub returns-then-others-left-2-clause-told : goal.returns-then-others-left-2-clause-told
returns-then-others-left-2-clause-told g c =
    let a = c.args in
    λ told es d. some_missing a.summary a.body.now a.field.now c.place_null.ensures es c.in_ok-nulls.was
    (c.place_values.ensures.placed told es d) c.in_ok-others.was c.requires.1 c.if-others-left-2.true c.first_clear.ensures

pub returns-clause-told : goal.returns-clause-told
returns-clause-told g c =
    let a = c.args in
    λ told es d. none_missing a.summary a.body.now a.field.now c.place_null.ensures es c.in_ok-nulls.was
    (c.place_values.ensures.placed told es d) c.in_ok-others.was c.requires.1 c.if-others-left-2.false a.t (λ i. (c.type_inv.body i).fits) d

pub returns-clause-quick : goal.returns-clause-quick
returns-clause-quick g c =
    let a = c.args in
    λ es d. placed-known (none_missing a.summary a.body.now a.field.now c.place_null.ensures es c.in_ok-nulls.was
    (c.place_values.ensures.placed (grind (arith, common_steps)) es d) c.in_ok-others.was c.requires.1 c.if-others-left-2.false a.t (λ i. (c.type_inv.body i).fits) d)
