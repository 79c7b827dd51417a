-- What is gathered is 255 exactly if the count of the rows passed is full (`byte_full`).
use Rattle.std.proofs.Common.{◌≡◌, ◌*◌, ◌<◌, eqb}
use Rattle.row_field.specs.Meaning.{count}
use Rattle.row_field.proofs.all_full.Given as goal

abbrev pub invariant-loop-i : goal.invariant-loop-i
invariant-loop-i l = (l.all < 256) × (eqb l.all 255 ≡ eqb (count l.field (l.i * 8)) (l.i * 8))
