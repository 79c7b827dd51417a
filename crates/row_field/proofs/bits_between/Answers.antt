-- `bits_between` meets its contract: powers of two at most 256 fit, and the lower is at most the higher.
use Prim.Native.Nat.{◌≤◌, ◌*◌, ◌%◌, ◌^◌}
use mathlib.Core.Path.{◌≡◌}
use native.Mathlib.Omega.{arith}
use lib.Pow.{pow_mono, pow-add}
use Rattle.row_field.proofs.bits_between.Goals as goal

pub overflow_sub-result : goal.overflow_sub-result
overflow_sub-result c =
    let h : c.args.high ≤ 7 = omega arith in
    let u : 2 ^ c.args.low ≤ 2 ^ c.args.high = pow_mono c.requires.0 in
    let v : 2 ^ c.args.high ≤ 128 = pow_mono h in
    let x : 1 * 2 ^ c.args.low % 65536 ≡ 2 ^ c.args.low = omega arith in
    let y : 2 * 2 ^ c.args.high % 65536 ≡ 2 * 2 ^ c.args.high = omega arith in
    rw (x, y) (omega arith)

pub returns : goal.returns
returns c =
    let h : c.args.high ≤ 7 = omega arith in
    omega (arith, pow_mono c.requires.0, pow_mono h, pow-add 2 c.args.high 1)
