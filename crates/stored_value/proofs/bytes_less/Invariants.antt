-- `bytes_less` meets its contract: what is left of both, compared, gives the whole.
use mathlib.Core.Path.{◌≡◌}
use lib.ListN.{drop}
use Rattle.stored_value.specs.Meaning.{is_less_bytewise}
use Rattle.stored_value.proofs.bytes_less.Given as goal

abbrev pub invariant-loop-i : goal.invariant-loop-i
invariant-loop-i l = is_less_bytewise (drop l.i l.a) (drop l.i l.b) ≡ is_less_bytewise l.a l.b
