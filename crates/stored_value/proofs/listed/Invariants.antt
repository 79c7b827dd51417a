-- `listed` meets its contract: v is listed exactly if it is one of the literals that are left.
use mathlib.Core.Path.{◌≡◌}
use Rattle.stored_value.specs.Meaning as meaning
use Rattle.stored_value.specs.Promises.{literals_in}
use Rattle.stored_value.specs.Places.{places_left}
use Rattle.stored_value.proofs.Places.{Inside, bytes_of}
use Rattle.stored_value.proofs.listed.Given as goal

abbrev pub invariant-loop-literal : goal.invariant-loop-literal
invariant-loop-literal l = record {
  inside : Inside l.literals (places_left l.literal-iterator);
  left : meaning.listed l.v (bytes_of l.literals (places_left l.literal-iterator)) ≡ meaning.listed l.v (literals_in l.t l.literals);
}
