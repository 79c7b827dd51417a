-- `halve` meets its contract by `Halves`.
use native.Mathlib.Omega.{arith}
use mathlib.Core.Path.{sym, ◌∙◌}
use Rattle.std.proofs.Common.{rules}
use Rattle.lookup.proofs.HalveLoop.{halves_done, halves_refused, halves_below, halves_above}
use Rattle.lookup.proofs.Reader.halve.Goals as goal

pub returns-in_err-listing : goal.returns-in_err-listing
returns-in_err-listing c =
    let h = halves_refused c.loop-many.invariant c.loop-many-test.true c.listing_at.ensures c.in_err-listing.was in
    search (rules, h)

pub loop-many-preserved-then-begins_above : goal.loop-many-preserved-then-begins_above
loop-many-preserved-then-begins_above c =
    halves_below c.loop-many.invariant c.loop-many-test.true c.listing_at.ensures c.in_ok-listing.was (sym c.begins_above.ensures ∙ c.if-begins_above.true)

pub loop-many-preserved : goal.loop-many-preserved
loop-many-preserved c =
    halves_above c.loop-many.invariant c.loop-many-test.true c.listing_at.ensures c.in_ok-listing.was (sym c.begins_above.ensures ∙ c.if-begins_above.false)

pub returns : goal.returns
returns c = halves_done c.loop-many.invariant c.loop-many-test.false
