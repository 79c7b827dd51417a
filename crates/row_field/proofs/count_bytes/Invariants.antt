-- The total is the count of the rows of the bytes passed (`count-byte`), which at first are those of the whole words.
use Rattle.std.proofs.Common.{◌≡◌, ◌*◌}
use Rattle.row_field.specs.Meaning.{count}
use Rattle.row_field.proofs.count_bytes.Given as goal

abbrev pub invariant-loop-i : goal.invariant-loop-i
invariant-loop-i l = l.total ≡ count l.field (l.i * 8)
