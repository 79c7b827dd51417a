-- The bytes at the front are 0, the others as they were (`zeroed_as_far`).
use Rattle.std.proofs.Common.{◌≡◌, min, length, take, replicate, length-take, sym, arith}
use Rattle.row_field.specs.Meaning.{size}
use Rattle.row_field.proofs.Counts.{zeroed_as_far}
use Rattle.row_field.proofs.clear.Goals as goal

pub returns : goal.returns
returns c =
    let n = c.args.rows in
    let b = c.args.buffer.now in
    let m = c.min-end.result in
    let e : m ≡ min (size n) (length b) = omega (arith, c.bytes_for.ensures, c.min-end.ensures) in
    let l : length (take m b) ≡ m = simp length-take (omega arith) in
    let z : c.fill.new.self ≡ replicate m 0 = rw l at (c.fill.ensures.after (λ y e. e)) in
    rw (z, e) (sym (zeroed_as_far (size n) b))
