-- `merge_within` meets its contract: there are none, or they stand in one byte (`within_marked`), or past the part's end.
use native.Mathlib.Omega.{arith}
use Rattle.window.proofs.Merges.{within_none, within_past, within_marked}
use Rattle.window.proofs.merge_within.Goals as goal

pub returns-then-count-eq0 : goal.returns-then-count-eq0
returns-then-count-eq0 c =
    let a = c.args in
    within_none a.part.now a.bits.now a.at.0 a.from a.count a.shift c.if-count-eq0.true

pub returns-then-part-at : goal.returns-then-part-at
returns-then-part-at c =
    let a = c.args in
    within_past a.part.now a.bits.now a.at.0 a.from a.count a.shift c.if-part-at.true

pub returns : goal.returns
returns c =
    let a = c.args in
    within_marked a.part.now a.bits.now a.at.0 a.from a.count a.shift (λ i. (c.type_inv.bits i).fits) (omega arith)
    c.eight_bits.ensures c.low_bits-some.ensures c.mark_byte.ensures
