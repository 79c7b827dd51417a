use Rattle.std.proofs.Common.{◌∙◌, sym}
use native.Mathlib.Omega.{arith}
use Rattle.subtract.proofs.Laws.{subtracted-none, subtracted-byte}
use Rattle.subtract.proofs.subtract_bytes.Goals as goal

pub loop-i-init : goal.loop-i-init
loop-i-init c = (λ j. (c.type_inv.first j).fits, subtracted-none _ _)

pub loop-i-preserved : goal.loop-i-preserved
loop-i-preserved c =
    let l = c.loop-i in
    let a = c.args in
    let b = subtracted-byte a.first.now a.second.now l.i (omega arith) l.invariant.0 (c.type_inv.second l.i).fits in
    (l.invariant.0, c.clear_bits.ensures ∙ rw l.invariant.1 (sym b))
