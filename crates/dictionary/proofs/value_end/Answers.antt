-- `value_end` meets its contract: what `size` says, as a position.
use mathlib.Core.Path.{refl, sym, ◌∙◌}
use native.Mathlib.Omega.{arith}
use Rattle.dictionary.proofs.Steps.{known-to}
use Rattle.dictionary.proofs.value_end.Goals as goal

pub returns : goal.returns
returns c = let a = c.args in known-to a.t a.body.now a.at.0 c.in_ok-n.n (sym c.size.ensures.answer ∙ c.in_ok-n.was) refl

pub overflow_add-result : goal.overflow_add-result
overflow_add-result c = let a = c.args in omega (arith, known-to a.t a.body.now a.at.0 c.in_ok-n.n (sym c.size.ensures.answer ∙ c.in_ok-n.was) refl)
