use Rattle.std.proofs.Common.{arith}
use Rattle.std.proofs.lemmas.Bool.Decides.{nat_tests}
use Rattle.names.proofs.Decoding.{first_smaller}
use Rattle.names.proofs.Text.{matches_longer, matched_first, matched_done, matched_broken, matched_short, matched_other, matched_next}
use Rattle.names.proofs.matches.Goals as goal

pub returns-then-stored-asked : goal.returns-then-stored-asked
returns-then-stored-asked c = let a = c.args in matches_longer a.asked.now a.stored.now c.if-stored-asked.true

pub loop-rest-init : goal.loop-rest-init
loop-rest-init c = (omega arith, matched_first c.args.asked.now c.args.stored.now)

pub returns-in_default : goal.returns-in_default
returns-in_default c = matched_broken c.loop-rest.invariant.1 (grind (arith, nat_tests)) (rw c.in_default.is at c.first_point.ensures)

pub returns-then-stored-q : goal.returns-then-stored-q
returns-then-stored-q c =
    matched_short c.loop-rest.invariant.1 c.in-Some.value c.in-Some.left.now (rw c.in-Some.is at c.first_point.ensures) c.modified_size-size.ensures.0 c.if-stored-q.true

pub modified_at-requires : goal.modified_at-requires
modified_at-requires c = omega (arith, c.modified_size-size.ensures.0)

pub returns-then-not-modified_at : goal.returns-then-not-modified_at
returns-then-not-modified_at c =
    matched_other c.loop-rest.invariant.1 c.in-Some.value c.in-Some.left.now (rw c.in-Some.is at c.first_point.ensures) c.modified_size-size.ensures.0
    c.modified_at.ensures c.if-not-modified_at.true

pub loop-rest-smaller : goal.loop-rest-smaller
loop-rest-smaller c = first_smaller c.in-Some.value c.in-Some.left.now c.loop-rest.rest.now (rw c.in-Some.is at c.first_point.ensures)

pub loop-rest-preserved : goal.loop-rest-preserved
loop-rest-preserved c = (
  omega arith,
  matched_next c.loop-rest.invariant.1 c.in-Some.value c.in-Some.left.now (rw c.in-Some.is at c.first_point.ensures) c.modified_size-size.ensures.0
      c.modified_at.ensures c.if-not-modified_at.false,
)

pub returns : goal.returns
returns c = matched_done c.loop-rest.invariant.1 (grind (arith, nat_tests)) c.loop-rest.invariant.0
