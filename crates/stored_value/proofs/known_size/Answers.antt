-- `known_size` meets its contract: whatever a value was read with, it is as long as its type says, or as a string says before its bytes.
use mathlib.Core.Path.{sym, ◌∙◌}
use native.Mathlib.Omega.{arith}
use Rattle.stored_value.proofs.Steps.{known-number, known-length, known-string}
use Rattle.stored_value.proofs.known_size.Goals as goal

pub be-n-requires-clause-there : goal.be-n-requires-clause-there
be-n-requires-clause-there c =
    let a = c.args in
    let (short, broken, k, e) = c.requires in
    known-length short broken a.t a.s.now a.at.0 k e (sym c.width_of-w.ensures.0 ∙ c.if-w-eq0.true)

pub returns-then-w-eq0 : goal.returns-then-w-eq0
returns-then-w-eq0 c =
    let a = c.args in
    λ short broken k e. rw c.be-n.ensures.value (known-string short broken a.t a.s.now a.at.0 k e (sym c.width_of-w.ensures.0 ∙ c.if-w-eq0.true))

pub returns : goal.returns
returns c =
    let a = c.args in
    λ short broken k e. c.width_of-w.ensures.0
    ∙ known-number short broken a.t a.s.now a.at.0 k e (omega (arith, c.width_of-w.ensures.0, c.if-w-eq0.false))
