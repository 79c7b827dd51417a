use Rattle.std.proofs.Common.{ap, ◌∙◌, arith}
use Rattle.std.specs.Str.Iter.{chars_rest}
use Rattle.names.proofs.Text.{size-long, sized_first, sized_done, sized_over, sized_next}
use Rattle.names.proofs.asked_size.Goals as goal

pub returns-then-asked-gt-NAME_LIMIT : goal.returns-then-asked-gt-NAME_LIMIT
returns-then-asked-gt-NAME_LIMIT c = size-long c.args.asked.now c.if-asked-gt-NAME_LIMIT.true

pub loop-c-init : goal.loop-c-init
loop-c-init c = (omega arith, sized_first c.in-Ok.ensures.cases.1 (ap chars_rest c.into_iter-c-iterator.ensures.into_iter_gives ∙ c.chars-c-items.ensures.rest ∙ c.in-Ok.ensures.cases.0))

pub returns-then-size-gt-NAME_LIMIT : goal.returns-then-size-gt-NAME_LIMIT
returns-then-size-gt-NAME_LIMIT c =
    sized_over c.loop-c.invariant.1 c.in-Some.c _ c.in-Some.ensures.steps.0 (rw c.from.ensures at c.modified_size-size.ensures.0) c.in-Ok.ensures.cases.1 c.if-size-gt-NAME_LIMIT.true

pub loop-c-preserved : goal.loop-c-preserved
loop-c-preserved c = (
  c.if-size-gt-NAME_LIMIT.false,
  sized_next c.loop-c.invariant.1 c.in-Some.c _ c.in-Some.ensures.steps.0 (rw c.from.ensures at c.modified_size-size.ensures.0),
)

pub returns : goal.returns
returns c = sized_done c.loop-c.invariant.1 c.in-Ok.ensures.cases.1 c.in-None.ensures.steps.0.0 c.loop-c.invariant.0
