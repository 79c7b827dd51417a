-- `enter` meets its contract: behind the literals that it passed, the table finds exactly what is listed among them (`Entering`).
use mathlib.Core.Path.{◌≡◌}
use lib.ListN.{length}
use Rattle.stored_value.specs.Promises.{literals_in}
use Rattle.stored_value.specs.Places.{places_left}
use Rattle.stored_value.proofs.Entering.{Entering}
use Rattle.stored_value.proofs.enter.Given as goal

abbrev pub invariant-loop-literal : goal.invariant-loop-literal
invariant-loop-literal l =
    (length l.table ≡ length l.initial.table) × Entering l.literals l.table l.n (places_left l.literal-iterator) (literals_in l.t l.literals)
