use Rattle.std.proofs.Common.{◌≡◌, ◌^◌, ◌<◌}
use Rattle.numbers.specs.Meaning.{le_at}
use Rattle.numbers.proofs.le.Given as goal

abbrev pub invariant-loop-i : goal.invariant-loop-i
invariant-loop-i g l = (l.x ≡ le_at l.i l.s l.at.0) × (l.x < 256 ^ l.i)
