-- `crc32_cases::digits` meets its contract: what `checksum` ensures is the definition's value, which a theorem of `crc32` gives.
--
use mathlib.Core.Path.{◌∙◌}
use Rattle.crc32.proofs.Theorems.{of_digits}
use Rattle.crc32_cases.proofs.digits.Goals as goal

pub prove-unreachable-requires : goal.prove-unreachable-requires
prove-unreachable-requires c = c.if-prove.true (c.checksum.ensures ∙ of_digits)
