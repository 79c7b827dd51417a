-- Slices of different lengths differ, those of one length are compared.
use Rattle.std.proofs.Common.{sym, ◌∙◌, arith}
use Rattle.numbers.proofs.SameBytes.{same-other, same-pointwise}
use Rattle.numbers.proofs.same.Goals as goal

pub returns-then-a-b : goal.returns-then-a-b
returns-then-a-b c = let a = c.args in sym (same-other a.a.now a.b.now (λ e. omega arith))

pub returns : goal.returns
returns c = c.eq.ensures ∙ same-pointwise c.args.a.now c.args.b.now
