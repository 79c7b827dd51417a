-- `decimal` meets its contract: the digits passed, and those that are left, say the number of all.
use Rattle.std.proofs.Common.{◌≡◌, drop}
use Rattle.case_lines.specs.Promises.{decimal_from}
use Rattle.case_lines.proofs.decimal.Given as goal

abbrev pub invariant-loop-byte : goal.invariant-loop-byte
invariant-loop-byte l = decimal_from l.number (drop l.byte-index l.digits) ≡ decimal_from 0 l.digits
