-- The words passed are the same, so that what is left decides.
use Rattle.std.proofs.Common.{◌≡◌, ◌*◌, drop}
use Rattle.numbers.specs.Meaning.{same}
use Rattle.numbers.proofs.same_words.Given as goal

abbrev pub invariant-loop-i : goal.invariant-loop-i
invariant-loop-i l = same (drop (l.i * 8) l.a) (drop (l.i * 8) l.b) ≡ same l.a l.b
