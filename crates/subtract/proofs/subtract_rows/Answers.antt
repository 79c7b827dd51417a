-- `subtracted_last` takes the last byte's rows too.
use Rattle.std.proofs.Common.{◌∙◌, sym}
use native.Mathlib.Omega.{arith}
use Rattle.subtract.proofs.Laws.{subtracted_last}
use Rattle.subtract.proofs.subtract_rows.Goals as goal

pub returns-then-more-ne0 : goal.returns-then-more-ne0
returns-then-more-ne0 c =
    let a = c.args in
    let l = subtracted_last a.first.now a.second.now a.rows (omega arith) (λ j. (c.slice_known-1.given j).fits) in
    c.clear_bits.ensures ∙ rw (c.subtract_bytes.ensures, c.low_bits-bits.ensures) (sym l)
