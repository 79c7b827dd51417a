-- `null_entry` meets its contract: each way out is a law of the reading of null's entry.
use mathlib.Core.Path.{◌≡◌}
use mathlib.Core.Bool.{true, false}
use native.Mathlib.Omega.{arith}
use Rattle.dictionary.specs.Promises.{is_two}
use Rattle.dictionary.proofs.Fields.{null-none, null-short, null-one, null-cut, null-two}
use Rattle.dictionary.proofs.null_entry.Goals as goal

pub returns-then-not-has : goal.returns-then-not-has
returns-then-not-has c = let a = c.args in (null-none a.body.now a.at.0 (is_two a.version) c.if-not-has.true, c.requires)

pub returns-then-body-at-lt-NUMBER : goal.returns-then-body-at-lt-NUMBER
returns-then-body-at-lt-NUMBER c = let a = c.args in null-short a.body.now a.at.0 (is_two a.version) c.if-not-has.false c.if-body-at-lt-NUMBER.true

pub returns-in-One : goal.returns-in-One
returns-in-One c =
    let a = c.args in
    let w : is_two a.version ≡ false = rw c.in-One.is in
    let o = c.offset_at-offset.ensures in
    (null-one a.body.now a.at.0 (is_two a.version) c.if-not-has.false (omega arith) o.0 o.1 w, omega arith)

pub returns-then-body-behind-lt-NUMBER : goal.returns-then-body-behind-lt-NUMBER
returns-then-body-behind-lt-NUMBER c =
    let a = c.args in
    let w : is_two a.version ≡ true = rw c.in-Two.is in
    let o = c.offset_at-offset.ensures in
    null-cut a.body.now a.at.0 (is_two a.version) c.if-not-has.false (omega arith) o.0 o.1 w c.if-body-behind-lt-NUMBER.true

pub returns-else-body-behind-lt-NUMBER : goal.returns-else-body-behind-lt-NUMBER
returns-else-body-behind-lt-NUMBER c =
    let a = c.args in
    let w : is_two a.version ≡ true = rw c.in-Two.is in
    let o = c.offset_at-offset.ensures in
    (null-two a.body.now a.at.0 (is_two a.version) c.if-not-has.false (omega arith) o.0 o.1 w (omega arith) c.be-extent.ensures.value, omega arith)
