-- `listing_at` meets its contract: a value, then its block's offset.
use native.Mathlib.Omega.{arith}
use Rattle.lookup.proofs.ListingSteps.{listing-short, listing_is}
use Rattle.lookup.proofs.Reader.listing_at.Goals as goal

pub returns-then-self-end-lt-WORD : goal.returns-then-self-end-lt-WORD
returns-then-self-end-lt-WORD c =
    let a = c.args in
    listing-short a.self.t a.self.body.now a.at.0 c.in_ok-end.end.0 c.in_ok-end.ensures c.if-self-end-lt-WORD.true

pub returns : goal.returns
returns c =
    let a = c.args in
    let w = c.in_ok-end.ensures in
    listing_is a.self.t a.self.body.now a.at.0 c.in_ok-end.end.0 w (omega (arith, w.2, c.if-self-end-lt-WORD.false)) c.be.ensures.value c.be.ensures.below
