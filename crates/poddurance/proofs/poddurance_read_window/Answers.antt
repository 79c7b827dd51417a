use Rattle.std.proofs.Common.{ap, ◌∙◌}
use Rattle.deletion_file.specs.Reading.{deletions_out, deletions_fault}
use Rattle.deletion_window.specs.Reading.{window_deletions}
use Rattle.deletion_file.proofs.CallSteps.{numbers_so, fault_so}
use Rattle.poddurance.proofs.poddurance_read_window.Goals as goal

pub returns : goal.returns
returns c =
    let a = c.args in
    let o = window_deletions a.file.now a.bin a.first a.rows a.field.now in
    let e = c.read_window.ensures.answer in
    record {
      numbers = c.counted.ensures.0 ∙ ap deletions_out e ∙ numbers_so a.rows o;
      fault_is = c.counted.ensures.1 ∙ ap deletions_fault e ∙ fault_so a.rows o;
      buffer = c.read_window.ensures.buffer;
    }
