-- `count_at` meets its contract: each way out is a law of the reading of a count.
use native.Mathlib.Omega.{arith}
use Rattle.dictionary.proofs.Fields.{count-short, count_negative, count-over, count_is}
use Rattle.dictionary.proofs.count_at.Goals as goal

pub returns-then-body-at-lt-NUMBER : goal.returns-then-body-at-lt-NUMBER
returns-then-body-at-lt-NUMBER c = let a = c.args in count-short _ a.body.now a.at.0 (omega arith)

pub returns-then-n-ge-SIGN_BIT : goal.returns-then-n-ge-SIGN_BIT
returns-then-n-ge-SIGN_BIT c = let a = c.args in count_negative _ a.body.now a.at.0 (omega arith) c.be-n.ensures.value c.if-n-ge-SIGN_BIT.true

pub returns-then-most-n : goal.returns-then-most-n
returns-then-most-n c = let a = c.args in count-over _ a.body.now a.at.0 (omega arith) c.be-n.ensures.value c.if-n-ge-SIGN_BIT.false c.if-most-n.true

pub returns : goal.returns
returns c = let a = c.args in (count_is _ a.body.now a.at.0 (omega arith) c.be-n.ensures.value c.if-n-ge-SIGN_BIT.false c.if-most-n.false, omega arith, c.if-most-n.false)
