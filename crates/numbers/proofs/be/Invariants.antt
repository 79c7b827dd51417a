use Rattle.std.proofs.Common.{◌≡◌, ◌^◌, ◌<◌}
use Rattle.numbers.specs.Meaning.{be_at}
use Rattle.numbers.proofs.be.Given as goal

abbrev pub invariant-loop-i : goal.invariant-loop-i
invariant-loop-i g l = (l.x ≡ be_at l.i l.s l.at.0) × (l.x < 256 ^ l.i)
