-- `spelled_short` meets its contract: after i bytes x is the number that they spell.
use Prim.Native.Nat.{◌^◌, ◌<◌}
use mathlib.Core.Path.{◌≡◌}
use Rattle.numbers.specs.Meaning.{be_at}
use Rattle.stored_value.proofs.spelled_short.Given as goal

abbrev pub invariant-loop-i : goal.invariant-loop-i
invariant-loop-i l = (l.x ≡ be_at l.i l.s 0) × (l.x < 256 ^ l.i)
