-- `merge_bytes` meets its contract: what is marked in the part that is lent is marked in the whole (`aligned_marked`, `shifted_marked`).
use Prim.Native.Nat.{◌+◌, ◌-◌, ◌/◌}
use native.Mathlib.Omega.{arith}
use Rattle.window.proofs.Merges.{aligned_marked, shifted_marked}
use Rattle.window.proofs.merge_bytes.Goals as goal

pub returns-then-from-eq0 : goal.returns-then-from-eq0
returns-then-from-eq0 c =
    let a = c.args in
    aligned_marked a.part.now a.at.0 a.count c.min-a.result c.min-e.result c.min-a.ensures c.min-e.ensures a.bits.now a.from
    (a.from / 8 + a.count - a.from / 8) (omega arith) (omega arith) c.if-from-eq0.true c.merge.ensures

pub returns : goal.returns
returns c =
    let a = c.args in
    shifted_marked a.part.now a.at.0 a.count c.min-a.result c.min-e.result c.min-a.ensures c.min-e.ensures a.bits.now a.from
    (a.from / 8 + a.count + 1 - a.from / 8) (omega arith) (omega arith) c.merge_shifted.ensures
