-- `fixed_fields` meets its contract: each way out is a law of the reading of the first ten bytes.
use mathlib.Core.Path.{◌≡◌, refl, sym, ◌∙◌}
use native.Mathlib.Omega.{arith}
use borrow.Author.Rules.{rules}
use lib.ListN.{length, get_or}
use Rattle.std.specs.Prelude.{Err, Ok}
use Rattle.dictionary.specs.Promises.{version_of}
use Rattle.dictionary.proofs.Fields.{none_there, some_there, fixed_empty, fixed_version, fixed_rows, fixed_values, fixed_short, fixed_wrong, fixed_fields_lem}
use Rattle.dictionary.proofs.fixed_fields.Goals as goal
use Rattle.dictionary.proofs.fixed_fields.Goals.{In_ok-version}

pub returns-then-is_empty : goal.returns-then-is_empty
returns-then-is_empty c = fixed_empty c.args.body.now (none_there (length c.args.body.now) c.is_empty.ensures c.if-is_empty.true)

pub returns-in_err-version : goal.returns-in_err-version
returns-in_err-version c =
    let y : c.from_residual.result ≡ Err c.in_err-version.field-0.0 = search rules in
    rw y (fixed_version c.args.body.now (some_there (length c.args.body.now) c.is_empty.ensures c.if-is_empty.false) refl (sym c.try_from.ensures ∙ c.in_err-version.was))

-- the version
is : (c : In_ok-version) → version_of (get_or c.args.body.now 0 0) ≡ Ok c.in_ok-version.version
is c = sym c.try_from.ensures ∙ c.in_ok-version.was

pub returns-in_err-rows : goal.returns-in_err-rows
returns-in_err-rows c =
    let y : c.from_residual-in_err-rows.result ≡ Err c.in_err-rows.field-0.0 = search rules in
    rw y (fixed_rows c.args.body.now (some_there (length c.args.body.now) c.is_empty.ensures c.if-is_empty.false) refl (is (goal.at.returns-in_err-rows c).In_ok-version) (rw c.in_err-rows.was at c.count_at.ensures))

pub count_at-requires-2 : goal.count_at-requires-2
count_at-requires-2 c = let r = rw c.in_ok-rows.was at c.count_at.ensures in omega arith

pub returns-in_err-values : goal.returns-in_err-values
returns-in_err-values c =
    let y : c.from_residual-in_err-values.result ≡ Err c.in_err-values.field-0.0 = search rules in
    rw y (fixed_values c.args.body.now (some_there (length c.args.body.now) c.is_empty.ensures c.if-is_empty.false) refl (is (goal.at.returns-in_err-values c).In_ok-version) (rw c.in_ok-rows.was at c.count_at.ensures) c.most_values.ensures
    (rw c.in_err-values.was at c.count_at-2.ensures))

pub returns-then-body-lt-NULL_AT : goal.returns-then-body-lt-NULL_AT
returns-then-body-lt-NULL_AT c =
    fixed_short c.args.body.now (some_there (length c.args.body.now) c.is_empty.ensures c.if-is_empty.false) refl (is (goal.at.returns-then-body-lt-NULL_AT c).In_ok-version) (rw c.in_ok-rows.was at c.count_at.ensures) c.most_values.ensures
    (rw c.in_ok-values.was at c.count_at-2.ensures) c.if-body-lt-NULL_AT.true

pub returns-then-has-gt1 : goal.returns-then-has-gt1
returns-then-has-gt1 c =
    fixed_wrong c.args.body.now (some_there (length c.args.body.now) c.is_empty.ensures c.if-is_empty.false) refl (is (goal.at.returns-then-has-gt1 c).In_ok-version) (rw c.in_ok-rows.was at c.count_at.ensures) c.most_values.ensures
    (rw c.in_ok-values.was at c.count_at-2.ensures) c.if-body-lt-NULL_AT.false refl c.if-has-gt1.true

pub returns : goal.returns
returns c =
    fixed_fields_lem c.args.body.now (some_there (length c.args.body.now) c.is_empty.ensures c.if-is_empty.false) refl (is (goal.at.returns c).In_ok-version) (rw c.in_ok-rows.was at c.count_at.ensures) c.most_values.ensures
    (rw c.in_ok-values.was at c.count_at-2.ensures) c.if-body-lt-NULL_AT.false refl c.if-has-gt1.false
