use native.Mathlib.Omega.{arith}
use Rattle.stored_value.proofs.TwosComplement.{turn_fits}
use Rattle.stored_value.proofs.spelled_short.Goals as goal

pub overflow_mul-x : goal.overflow_mul-x
overflow_mul-x c = let l = c.loop-i in omega (arith, turn_fits l.i l.x 0 l.invariant.1 (omega arith) (omega arith))

pub overflow_add-x : goal.overflow_add-x
overflow_add-x c = let l = c.loop-i in omega (arith, turn_fits l.i l.x c.from.result l.invariant.1 (omega arith) (omega arith))
