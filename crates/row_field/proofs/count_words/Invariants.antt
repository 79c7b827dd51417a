-- The total is the count of the rows of the words passed; a word's rows are its ones (`count_word`).
use Rattle.std.proofs.Common.{◌≡◌, ◌*◌}
use Rattle.row_field.specs.Meaning.{count}
use Rattle.row_field.proofs.count_words.Given as goal

abbrev pub invariant-loop-i : goal.invariant-loop-i
invariant-loop-i l = l.total ≡ count l.field (l.i * 64)
