-- The invariant: what is left of both gives the whole.
use Rattle.std.proofs.Common.{◌≤◌, length}
use Rattle.names.proofs.Text.{Matched}
use Rattle.names.proofs.matches.Given as goal

abbrev pub invariant-loop-rest : goal.invariant-loop-rest
invariant-loop-rest l = (l.q ≤ length l.stored) × Matched l.asked l.stored l.rest l.q

abbrev pub decreases-loop-rest : goal.decreases-loop-rest
decreases-loop-rest l = length l.rest
