-- `signed` meets its contract, on each side of half.
use Prim.Native.Nat.{◌-◌}
use native.Mathlib.Omega.{arith}
use mir.Syntax.{w64}
use Rattle.numbers.proofs.Signed.{down_fits}
use Rattle.stored_value.proofs.TwosComplement.{signed_low, signed_high}
use Rattle.stored_value.proofs.signed.Goals as goal

pub returns-then-x-last : goal.returns-then-x-last
returns-then-x-last c =
    let a = c.args in
    let x = c.spelled-x in
    let l = c.last_of-last in
    signed_low a.s.now a.w x.result l.result (omega arith) (omega arith) l.ensures x.ensures.0 (omega arith)

pub overflow_sub-result-2 : goal.overflow_sub-result-2
overflow_sub-result-2 c = down_fits w64 (c.last_of-last.result - c.spelled-x.result) (omega arith)

pub returns : goal.returns
returns c =
    let a = c.args in
    let x = c.spelled-x in
    let l = c.last_of-last in
    signed_high a.s.now a.w x.result l.result (omega arith) (omega arith) l.ensures x.ensures.0 (omega arith) (omega arith)
