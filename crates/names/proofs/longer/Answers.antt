-- The value of the bytes, then whether it is a code point that needs so many.
use Rattle.names.proofs.Decoding.{longer_broken, longer_low, longer_other, longer_whole}
use Rattle.names.proofs.longer.Goals as goal

pub returns-in_err-value : goal.returns-in_err-value
returns-in_err-value c = let a = c.args in rw c.from_residual.ensures (longer_broken a.s.now a.n a.least a.lead c.in_err-value.ensures)

pub returns-then-value-least : goal.returns-then-value-least
returns-then-value-least c = let a = c.args in longer_low a.s.now a.n a.least a.lead c.in_ok-value.ensures c.if-value-least.true

pub returns-then-not-is_scalar : goal.returns-then-not-is_scalar
returns-then-not-is_scalar c =
    let a = c.args in
    longer_other a.s.now a.n a.least a.lead c.in_ok-value.ensures c.if-value-least.false c.is_scalar.ensures c.if-not-is_scalar.true

pub returns : goal.returns
returns c =
    let a = c.args in
    longer_whole a.s.now a.n a.least a.lead c.in_ok-value.ensures c.if-value-least.false c.is_scalar.ensures c.if-not-is_scalar.false
