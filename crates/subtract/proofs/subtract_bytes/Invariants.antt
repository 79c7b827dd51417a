-- The field is without the rows of the bytes passed (`subtracted-byte`).
use Rattle.std.proofs.Common.{◌≡◌, ◌*◌}
use Rattle.numbers.specs.Meaning.{Bytes}
use Rattle.subtract.specs.Meaning.{subtracted}
use Rattle.subtract.proofs.subtract_bytes.Given as goal

abbrev pub invariant-loop-i : goal.invariant-loop-i
invariant-loop-i l = Bytes l.initial.first × (l.first ≡ subtracted (l.i * 8) l.initial.first l.second)
