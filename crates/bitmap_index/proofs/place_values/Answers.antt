use Rattle.std.proofs.Common.{rules, arith, ◌≡◌, Err}
use Rattle.bitmap_index.proofs.PlacingRows.{to_end}
use Rattle.bitmap_index.proofs.PlacingEntries.{placements_refused, sum_fits, placements_next, placements_done}
use Rattle.bitmap_index.proofs.QuickAudit.{settings_next, settings_done}
use Rattle.bitmap_index.proofs.place_values.Goals as goal

pub returns-in_err-placed-clause-placed : goal.returns-in_err-placed-clause-placed
returns-in_err-placed-clause-placed g c =
    let a = c.args in
    let refused : c.from_residual.result ≡ Err c.in_err-placed.field-0.0 = search rules in
    λ told. rw refused (placements_refused (c.loop-i.invariant.placed told) c.next-next.result c.next-next.ensures c.loop-i-test.true
    (rw (to_end a.summary.region.0 a.body.now) at c.place_at.ensures.placed told) _ c.in_err-placed.was)

pub returns-then-summary-sum-clause-placed : goal.returns-then-summary-sum-clause-placed
returns-then-summary-sum-clause-placed g c =
    let a = c.args in
    λ told. let fits = sum_fits (c.loop-i.invariant.placed told) c.next-next.result c.next-next.ensures c.loop-i-test.true
    (rw (to_end a.summary.region.0 a.body.now) at c.place_at.ensures.placed told) c.in_ok-placed.was in
    absurd (omega (arith, fits, c.if-summary-sum.true))

pub loop-i-preserved : goal.loop-i-preserved
loop-i-preserved g c =
    let a = c.args in
    record {
      placed = λ told. placements_next (c.loop-i.invariant.placed told) c.next-next.result c.next-next.ensures c.loop-i-test.true
          (rw (to_end a.summary.region.0 a.body.now) at c.place_at.ensures.placed told) c.in_ok-placed.was;
      set = settings_next c.loop-i.invariant.set c.next-next.result (rw (to_end a.summary.region.0 a.body.now) at c.place_at.ensures.set) c.in_ok-placed.was
          c.next-next.ensures c.loop-i-test.true;
      few = search rules;
      same = search rules;
    }

pub returns-clause-placed : goal.returns-clause-placed
returns-clause-placed g c = λ told. placements_done (c.loop-i.invariant.placed told) c.loop-i-test.false

pub returns-clause-set : goal.returns-clause-set
returns-clause-set g c = settings_done c.loop-i.invariant.set c.loop-i-test.false
