-- From 8 bits on a byte is less than the divisor.
use Rattle.std.proofs.Common.{◌^◌, ◌<◌, ◌≤◌, rules, sym, arith}
use native.Mathlib.Nat.{mod-eq_of_lt}
use lib.Pow.{pow_mono}
use Rattle.row_field.proofs.low_bits.Goals as goal

pub returns : goal.returns
returns c =
    let b : c.args.byte < 256 = search rules in
    let p : 2 ^ 8 ≤ 2 ^ c.args.count = pow_mono c.if-count-lt8.false in
    let l : c.args.byte < 2 ^ c.args.count = omega arith in
    sym (mod-eq_of_lt l)
