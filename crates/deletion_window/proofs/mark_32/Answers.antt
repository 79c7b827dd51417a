-- What `measure_bitmap` and `mark_indexed` ensure, put into the reading.
use native.Mathlib.Omega.{arith}
use Rattle.std.proofs.Common.{rules}
use Rattle.refusal.specs.Reading.{and_then}
use Rattle.deletion_file.specs.Reading.{counted, left_by}
use Rattle.deletion_window.specs.Reading.{marked_in}
use Rattle.deletion_window.proofs.Marking.{not_listed, sound_so, listed}
use Rattle.deletion_window.proofs.mark_32.Goals as goal

pub returns-in_err-measure_bitmap-clause-answer : goal.returns-in_err-measure_bitmap-clause-answer
unfolding counted marked_in and_then
returns-in_err-measure_bitmap-clause-answer c =
    let refused = not_listed c.args.bytes.now c.in_err-measure_bitmap.ensures in
    search (rules, refused)

pub returns-in_err-measure_bitmap-clause-field : goal.returns-in_err-measure_bitmap-clause-field
unfolding left_by marked_in and_then
returns-in_err-measure_bitmap-clause-field c =
    let refused = not_listed c.args.bytes.now c.in_err-measure_bitmap.ensures in
    search (rules, refused)

pub mark_indexed-requires : goal.mark_indexed-requires
mark_indexed-requires c = (sound_so c.args.bytes.now c.in_ok-measure_bitmap.ensures (λ i. (c.type_inv.bytes i).fits), omega arith)

pub returns-clause-answer : goal.returns-clause-answer
unfolding counted marked_in and_then
returns-clause-answer c =
    let rows = listed c.args.bytes.now c.in_ok-measure_bitmap.ensures (λ i. (c.type_inv.bytes i).fits) in
    search (rules, rows, c.mark_indexed.ensures, c.count.ensures)

pub returns-clause-field : goal.returns-clause-field
unfolding left_by marked_in and_then
returns-clause-field c =
    let rows = listed c.args.bytes.now c.in_ok-measure_bitmap.ensures (λ i. (c.type_inv.bytes i).fits) in
    search (rules, rows, c.mark_indexed.ensures)
