-- The search by steps: what the reading makes of the bytes that are left, with the bins passed and what they gave, is what it makes of the whole. What is left
-- is the file's end, and what was found stands in the file.
use Rattle.std.proofs.Common.{◌≡◌, ◌≤◌, ◌+◌, ◌-◌, length, drop}
use Rattle.deletion_file.specs.Reading.{bin_in}
use Rattle.deletion_file.proofs.WalkSteps.{WalkState, FoundIn, plain_found}
use Rattle.deletion_file.proofs.find_bin.Given as goal

abbrev pub invariant-loop-bytes : goal.invariant-loop-bytes
invariant-loop-bytes l = record {
  counted : l.number + length l.left ≤ length l.file;
  is_left : l.left ≡ drop (length l.file - length l.left) l.file;
  walked : WalkState l.bin (bin_in l.bin l.file) l.left l.number (plain_found l.found);
  stands : FoundIn l.file l.found;
}

abbrev pub decreases-loop-bytes : goal.decreases-loop-bytes
decreases-loop-bytes l = length l.left
