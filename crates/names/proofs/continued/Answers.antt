use Rattle.std.proofs.Common.{◌<◌, arith}
use Rattle.names.proofs.Decoding.{continued_first, value_small, continued_done, continued_cut, continued_low, continued_high, continued_next}
use Rattle.names.proofs.continued.Goals as goal
use Rattle.names.proofs.continued.Goals.{Else-b-ge-LEAD_OF_TWO}

pub loop-init : goal.loop-init
loop-init c = let a = c.args in continued_first a.s.now a.n a.lead (omega arith)

pub returns-in_err-b : goal.returns-in_err-b
returns-in_err-b c = rw c.from_residual.ensures (continued_cut c.loop.invariant c.loop-test.true c.in_err-b.ensures.cases)

pub returns-then-b-lt-CONTINUATION : goal.returns-then-b-lt-CONTINUATION
returns-then-b-lt-CONTINUATION c = continued_low c.loop.invariant c.loop-test.true c.in_ok-b.ensures.cases.0 (omega (arith, c.from-b.ensures))

pub returns-then-b-ge-LEAD_OF_TWO : goal.returns-then-b-ge-LEAD_OF_TWO
returns-then-b-ge-LEAD_OF_TWO c =
    continued_high c.loop.invariant c.loop-test.true c.in_ok-b.ensures.cases.0 (omega (arith, c.from-b.ensures)) (omega (arith, c.from-b.ensures))

-- the value in a turn is small
small : (c : Else-b-ge-LEAD_OF_TWO) → c.loop.value < 262144
small c = value_small c.loop.invariant c.loop-test.true (omega arith)

pub overflow_mul-value : goal.overflow_mul-value
overflow_mul-value c = omega (arith, small c)

pub overflow_add-value : goal.overflow_add-value
overflow_add-value c = omega (arith, small c)

pub loop-preserved : goal.loop-preserved
loop-preserved c =
    rw c.from-b.ensures (continued_next c.loop.invariant c.loop-test.true c.in_ok-b.ensures.cases.0 (omega (arith, c.from-b.ensures)) (omega (arith, c.from-b.ensures)))

pub returns : goal.returns
returns c = continued_done c.loop.invariant c.loop-test.false
