-- `count_last` joins the whole bytes' count and the last byte's; where the field ends before, `count_past`.
use Rattle.std.proofs.Common.{◌*◌, ◌%◌, ◌^◌, ◌<◌, ◌≤◌, sym, ap, ◌∙◌, get_or, arith}
use native.Mathlib.Nat.{mod-lt}
use lib.Count.{ones, ones-le}
use lib.Pow.{pow_pos, pow_mono}
use Rattle.row_field.proofs.Counts.{count-le, count_last, count_past}
use Rattle.row_field.proofs.count.Goals as goal
use Rattle.row_field.proofs.count.Goals.{After-low_bits-last}

-- the last byte's bits are at most seven
last_ones : (c : After-low_bits-last) → ones c.low_bits-last.result ≤ 7
last_ones c =
    let n = c.args.rows in
    let b = get_or c.args.field.now c.min-whole.result 0 in
    let h : n % 8 ≤ 7 = omega arith in
    let l : c.low_bits-last.result < 2 ^ 7 = omega (arith, c.low_bits-last.ensures, mod-lt b (pow_pos (n % 8)), pow_mono h) in
    ones-le 7 c.low_bits-last.result l

pub overflow_add-result : goal.overflow_add-result
overflow_add-result c =
    let i = c.min-whole.result in
    omega (arith, last_ones (goal.at.overflow_add-result c).After-low_bits-last, c.from.ensures, count-le c.args.field.now (i * 8))

pub returns-then-whole-field : goal.returns-then-whole-field
returns-then-whole-field c =
    let i = c.min-whole.result in
    omega (arith, count_last c.args.field.now i c.args.rows (omega arith), ap ones c.low_bits-last.ensures, c.from.ensures)

pub returns : goal.returns
returns c =
    let i = c.min-whole.result in
    c.count_bytes-total.ensures ∙ sym (count_past c.args.field.now i c.args.rows (omega arith) (omega arith))
