use mathlib.Core.Path.{sym, ◌∙◌}
use native.Mathlib.Omega.{arith}
use Rattle.stored_value.proofs.Steps.{less_end, less-differ, less-next}
use Rattle.stored_value.proofs.bytes_less.Goals as goal

pub returns-then-a-i : goal.returns-then-a-i
returns-then-a-i c =
    let l = c.loop-i in
    let a = c.args in
    sym (less-differ a.a.now a.b.now l.i (omega arith) (omega arith) c.if-a-i.true) ∙ l.invariant

pub loop-i-preserved : goal.loop-i-preserved
loop-i-preserved c =
    let l = c.loop-i in
    let a = c.args in
    sym (less-next a.a.now a.b.now l.i (omega arith) (omega arith) (omega arith)) ∙ l.invariant

pub returns : goal.returns
returns c =
    let l = c.loop-i in
    let a = c.args in
    sym (less_end a.a.now a.b.now l.i (omega arith)) ∙ l.invariant
