-- What is measured and marked, put into the reading.
use native.Mathlib.Omega.{arith}
use Rattle.std.proofs.Common.{rules}
use Rattle.refusal.specs.Reading.{and_then}
use Rattle.deletion_file.specs.Reading.{counted, left_by}
use Rattle.deletion_file.proofs.CallSteps.{not_marked, beyond_so, sound-below, marked_so}
use Rattle.deletion_file.proofs.mark_bitmap.Goals as goal

pub returns-in_err-shape-clause-answer : goal.returns-in_err-shape-clause-answer
unfolding counted and_then
returns-in_err-shape-clause-answer c =
    let refused = not_marked c.args.rows c.args.field.now c.args.bitmap.now c.in_err-shape.ensures in
    search (rules, refused)

pub returns-in_err-shape-clause-field : goal.returns-in_err-shape-clause-field
unfolding left_by
returns-in_err-shape-clause-field c =
    let refused = not_marked c.args.rows c.args.field.now c.args.bitmap.now c.in_err-shape.ensures in
    search (rules, refused)

pub returns-then-rows-shape-clause-answer : goal.returns-then-rows-shape-clause-answer
unfolding counted and_then
returns-then-rows-shape-clause-answer c =
    let refused = beyond_so c.args.rows c.args.field.now c.args.bitmap.now c.in_ok-shape.ensures c.if-rows-shape.true in
    search (rules, refused)

pub returns-then-rows-shape-clause-field : goal.returns-then-rows-shape-clause-field
unfolding left_by
returns-then-rows-shape-clause-field c =
    let refused = beyond_so c.args.rows c.args.field.now c.args.bitmap.now c.in_ok-shape.ensures c.if-rows-shape.true in
    search (rules, refused)

pub mark-requires : goal.mark-requires
mark-requires c =
    sound-below c.args.rows c.args.field.now c.args.bitmap.now c.in_ok-shape.ensures (omega arith) (λ i. (c.type_inv.bitmap i).fits)

pub returns-clause-answer : goal.returns-clause-answer
unfolding counted and_then
returns-clause-answer c =
    let marked = marked_so c.args.rows c.args.field.now c.args.bitmap.now c.in_ok-shape.ensures (omega arith) (λ i. (c.type_inv.bitmap i).fits) in
    search (rules, marked, c.mark.ensures.marked)

pub returns-clause-field : goal.returns-clause-field
unfolding left_by
returns-clause-field c =
    let marked = marked_so c.args.rows c.args.field.now c.args.bitmap.now c.in_ok-shape.ensures (omega arith) (λ i. (c.type_inv.bitmap i).fits) in
    search (rules, marked, c.mark.ensures.marked)
