-- `fill` meets its contract by `Filling`.
use Rattle.opening.proofs.TableSteps.{filling_done, filling_refused, filling_next}
use Rattle.opening.proofs.fill.Goals as goal

pub returns-in_default : goal.returns-in_default
returns-in_default c = filling_refused c.loop-i.invariant c.loop-i-test.true (rw c.in_default.is at c.value_end.ensures)

pub loop-i-preserved : goal.loop-i-preserved
loop-i-preserved c = filling_next c.loop-i.invariant c.loop-i-test.true c.in-Ok.end.0 (rw c.in-Ok.is at c.value_end.ensures)

pub returns : goal.returns
returns c = filling_done c.loop-i.invariant c.loop-i-test.false
