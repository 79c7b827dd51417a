-- `one_block` meets its contract: each way out is a law of the reading of a block.
use mathlib.Core.Path.{◌≡◌}
use mathlib.Core.List.{◌++◌}
use native.Mathlib.Omega.{arith}
use borrow.Author.Rules.{rules}
use Rattle.std.specs.Prelude.{Err}
use lib.ListN.{length-append}
use Rattle.dictionary.proofs.VersionTwo.{AtBlock, listed_end, block_listed, block_misplaced, block-short, block_none, block_negative, block_refused, block_passed, block_stand}
use Rattle.dictionary.proofs.one_block.Goals as goal

pub known_end-end-requires : goal.known_end-end-requires
known_end-end-requires c = (c.requires.3.0, c.requires.3.1)

pub be-offset-requires-clause-there : goal.be-offset-requires-clause-there
be-offset-requires-clause-there c = listed_end c.args.t c.args.body.now c.args.listing.0 c.known_end-end.result.0 c.known_end-end.ensures c.requires.3

pub returns-then-offset-at : goal.returns-then-offset-at
returns-then-offset-at c = λ d ds l es f.
    let a = c.args in
    let here : AtBlock a.t a.body.now a.base.0 a.listing.0 a.at.0 c.known_end-end.result.0 a.before d ds
    = record { from = c.requires.0; to = c.requires.1; value = c.known_end-end.ensures; listed = l } in
    block_misplaced here es f c.be-offset.ensures.value c.if-offset-at.true

pub returns-then-body-at-lt-NUMBER : goal.returns-then-body-at-lt-NUMBER
returns-then-body-at-lt-NUMBER c = λ d ds l es f.
    let a = c.args in
    let here : AtBlock a.t a.body.now a.base.0 a.listing.0 a.at.0 c.known_end-end.result.0 a.before d ds
    = record { from = c.requires.0; to = c.requires.1; value = c.known_end-end.ensures; listed = l } in
    block-short here es f c.be-offset.ensures.value c.if-offset-at.false c.if-body-at-lt-NUMBER.true

pub returns-then-number-lt1 : goal.returns-then-number-lt1
returns-then-number-lt1 c = λ d ds l es f.
    let a = c.args in
    let here : AtBlock a.t a.body.now a.base.0 a.listing.0 a.at.0 c.known_end-end.result.0 a.before d ds
    = record { from = c.requires.0; to = c.requires.1; value = c.known_end-end.ensures; listed = l } in
    block_none here es f c.be-offset.ensures.value c.if-offset-at.false (omega arith) c.be-number.ensures.value c.if-number-lt1.true

pub returns-then-number-ge-SIGN_BIT : goal.returns-then-number-ge-SIGN_BIT
returns-then-number-ge-SIGN_BIT c = λ d ds l es f.
    let a = c.args in
    let here : AtBlock a.t a.body.now a.base.0 a.listing.0 a.at.0 c.known_end-end.result.0 a.before d ds
    = record { from = c.requires.0; to = c.requires.1; value = c.known_end-end.ensures; listed = l } in
    block_negative here es f c.be-offset.ensures.value c.if-offset-at.false (omega arith) c.be-number.ensures.value c.if-number-lt1.false c.if-number-ge-SIGN_BIT.true

pub returns-in_err-entries : goal.returns-in_err-entries
returns-in_err-entries c =
    let a = c.args in
    let y : c.from_residual.result ≡ Err c.in_err-entries.field-0.0 = search rules in
    rw y (λ d ds l es f.
    let here : AtBlock a.t a.body.now a.base.0 a.listing.0 a.at.0 c.known_end-end.result.0 a.before d ds
    = record { from = c.requires.0; to = c.requires.1; value = c.known_end-end.ensures; listed = l } in
    block_refused here es f c.be-offset.ensures.value c.if-offset-at.false (omega arith) c.be-number.ensures.value c.if-number-lt1.false c.if-number-ge-SIGN_BIT.false
    (rw c.in_err-entries.was at c.block_entries.ensures))

pub overflow_add-result : goal.overflow_add-result
overflow_add-result c =
    let v = c.known_end-end.ensures in
    omega arith

pub returns : goal.returns
returns c =
    let a = c.args in
    let b = rw c.in_ok-entries.was at c.block_entries.ensures in (
      λ d ds l.
          let here : AtBlock a.t a.body.now a.base.0 a.listing.0 a.at.0 c.known_end-end.result.0 a.before d ds
          = record { from = c.requires.0; to = c.requires.1; value = c.known_end-end.ensures; listed = l } in (
            block_listed here,
            (
              b.0.0,
              λ es f. block_passed here es f c.be-offset.ensures.value c.if-offset-at.false (omega arith) c.be-number.ensures.value c.if-number-lt1.false c.if-number-ge-SIGN_BIT.false c.in_ok-entries.entries b,
              b.0.2,
              λ more g. block_stand a.t a.body.now a.at.0 (b.0.0 ++ more) (omega arith) c.be-number.ensures.value c.if-number-lt1.false
                  (simp length-append (omega (arith, b.0.2))) (b.0.3 more g),
            ),
          ),
      omega (arith, b.1),
      b.2,
      b.3,
      c.if-number-ge-SIGN_BIT.false,
    )
