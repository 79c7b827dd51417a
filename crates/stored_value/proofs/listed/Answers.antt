use mathlib.Core.Path.{sym, ap, ◌∙◌}
use native.Mathlib.Omega.{arith}
use Rattle.std.specs.Prelude.{Ok}
use Rattle.stored_value.specs.Meaning as meaning
use Rattle.stored_value.proofs.Places.{all_in, inside, unlisted, listed_here, listed_behind}
use Rattle.stored_value.proofs.listed.Goals as goal

pub invariant_of-literal-items : goal.invariant_of-literal-items
invariant_of-literal-items c =
    let a = c.args in
    record { stand = (omega arith, c.requires.1 ∙ ap Ok (sym (all_in a.t a.literals.now c.requires.0 c.requires.1))) }

pub loop-literal-init : goal.loop-literal-init
loop-literal-init c =
    let a = c.args in
    let x = inside a.t a.literals.now c.requires.0 c.requires.1 in
    let y = all_in a.t a.literals.now c.requires.0 c.requires.1 in
    let g = c.into_iter-literal-iterator.ensures.into_iter_gives in
    record { inside = rw (g, y) x.0; left = rw (g, y) (ap (meaning.listed a.v.now) x.1) }

pub returns-then-same : goal.returns-then-same
returns-then-same c = λ ls e.
    let a = c.args in
    listed_here a.v.now a.literals.now _ _ c.loop-literal.invariant.left c.in-Some.literal _ c.in-Some.ensures.steps c.same.ensures c.if-same.true
    ∙ ap (meaning.listed a.v.now) (all_in a.t a.literals.now ls e)

pub loop-literal-preserved : goal.loop-literal-preserved
loop-literal-preserved c =
    let a = c.args in
    let l = c.loop-literal.invariant in
    record {
      inside = (rw c.in-Some.ensures.steps at l.inside).2;
      left = listed_behind a.v.now a.literals.now _ _ l.left c.in-Some.literal _ c.in-Some.ensures.steps c.same.ensures c.if-same.false;
    }

pub returns : goal.returns
returns c = λ ls e.
    let a = c.args in
    unlisted a.v.now a.literals.now _ _ c.loop-literal.invariant.left c.in-None.ensures.steps.0 ∙ ap (meaning.listed a.v.now) (all_in a.t a.literals.now ls e)
