use Rattle.std.proofs.Common.{◌≡◌, ◌∙◌, sym}
use Rattle.names.specs.Layout.{in_three_bytes, high_of}
use Rattle.names.specs.Promises.{form_stands_at}
use Rattle.names.proofs.Steps.{stands_pair}
use Rattle.names.proofs.pair_at.Goals as goal

pub returns-then-three_at : goal.returns-then-three_at
returns-then-three_at c =
    let a = c.args in
    let h : c.three_at.result ≡ form_stands_at (in_three_bytes (high_of a.value)) a.at a.s.now = c.three_at.ensures in
    c.three_at-then-three_at.ensures ∙ sym (stands_pair a.value a.at a.s.now ∙ simp (← h, c.if-three_at.true))

pub returns-else-three_at : goal.returns-else-three_at
returns-else-three_at c =
    let a = c.args in
    let h : c.three_at.result ≡ form_stands_at (in_three_bytes (high_of a.value)) a.at a.s.now = c.three_at.ensures in
    c.if-three_at.false ∙ sym (stands_pair a.value a.at a.s.now ∙ simp (← h, c.if-three_at.false))
