use mathlib.Core.Path.{refl, sym, ap, ◌∙◌}
use native.Mathlib.Omega.{arith}
use Rattle.std.specs.Prelude.{Ok}
use Rattle.stored_value.proofs.Places.{all_in}
use Rattle.stored_value.proofs.Entering.{entering_first, entering_done, entering_few, entering_fits, entering_old, entering_new}
use Rattle.stored_value.proofs.enter.Goals as goal

pub invariant_of-literal-items : goal.invariant_of-literal-items
invariant_of-literal-items c =
    let a = c.args in
    let e = c.requires in
    record { stand = (omega arith, e.accepted ∙ ap Ok (sym (all_in a.t a.literals.now e.ls e.accepted))) }

pub loop-literal-init : goal.loop-literal-init
loop-literal-init c =
    let a = c.args in
    let e = c.requires in
    let y = all_in a.t a.literals.now e.ls e.accepted in
    (refl, rw (c.into_iter-literal-iterator.ensures.into_iter_gives, y) (entering_first a.t a.literals.now a.table.now e.ls e.accepted e.empty))

pub insert-requires : goal.insert-requires
insert-requires c =
    let l = c.loop-literal.invariant in
    entering_fits (rw c.in-Some.ensures.steps at l.1) (omega (arith, l.0, c.requires.room)) c.requires.short

pub overflow_add-n : goal.overflow_add-n
overflow_add-n c = omega (arith, entering_few (rw c.in-Some.ensures.steps at c.loop-literal.invariant.1))

pub loop-literal-preserved-then-not-insert : goal.loop-literal-preserved-then-not-insert
loop-literal-preserved-then-not-insert c =
    let l = c.loop-literal.invariant in
    (c.insert.auto.table ∙ l.0, entering_new (rw c.in-Some.ensures.steps at l.1) c.insert.new.table c.insert.ensures c.if-not-insert.true)

pub loop-literal-preserved : goal.loop-literal-preserved
loop-literal-preserved c =
    let l = c.loop-literal.invariant in
    (c.insert.auto.table ∙ l.0, entering_old (rw c.in-Some.ensures.steps at l.1) c.insert.new.table c.insert.ensures c.if-not-insert.false)

pub returns : goal.returns
returns c = λ ls e.
    let a = c.args in
    rw (all_in a.t a.literals.now ls e) at (entering_done c.loop-literal.invariant.1 c.in-None.ensures.steps.0)
