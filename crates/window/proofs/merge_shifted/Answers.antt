use Prim.Native.Nat.{◌-◌, ◌*◌}
use mathlib.Core.Path.{refl}
use native.Mathlib.Nat.{zero-add, sub-zero}
use native.Mathlib.Omega.{arith}
use lib.ListN.{length}
use Rattle.row_field.proofs.Loops.{marks_first, marks_part, marks_past}
use Rattle.row_field.proofs.RunRows.{bits_as}
use Rattle.window.proofs.ByteShifts.{bytes_next}
use Rattle.window.proofs.Merges.{shifted_done}
use Rattle.window.proofs.merge_shifted.Goals as goal

pub loop-i-init : goal.loop-i-init
loop-i-init c = (refl, rw (zero-add, sub-zero) (marks_first _ _))

pub loop-i-preserved : goal.loop-i-preserved
loop-i-preserved c =
    let bits = c.args.bits.now in
    let i = c.loop-i.i in (
      omega arith,
      marks_part c.loop-i.invariant.1 (bytes_next bits (λ j. (c.type_inv.bits j).fits) (length bits - 1) c.args.shift i (omega arith) (omega arith))
          (bits_as (i * 8) c.shifted_byte-byte.ensures c.mark_byte-seen.ensures),
    )

pub returns : goal.returns
returns c =
    let l = c.loop-i in
    let a = c.args in
    marks_past l.invariant.1 (shifted_done l.part a.bits.now (length a.bits.now - 1) a.shift l.i (omega arith))
