-- `next` meets its contract: where a block's number is due it is read first, and `entry_at` makes the entry. What stands there is then a law of the
-- definition (`is_next`).
use mathlib.Core.Path.{◌∙◌}
use native.Mathlib.Omega.{arith}
use Rattle.dictionary.specs.Promises.{is_two}
use Rattle.dictionary.proofs.NextEntry.{next-cut, next-opened, next_open, is_next}
use Rattle.dictionary.proofs.next.Goals as goal

pub returns-then-body-at : goal.returns-then-body-at
returns-then-body-at c =
    let a = c.args in
    is_next a.t (is_two a.version) a.body.now a.cursor (λ i. (c.type_inv.body i).fits)
    (c.no_entry.ensures ∙ next-cut a.t (is_two a.version) a.body.now a.cursor c.if-cursor-eq0.true (omega arith))

pub returns-then-body-at-lt-NUMBER : goal.returns-then-body-at-lt-NUMBER
returns-then-body-at-lt-NUMBER c =
    let a = c.args in
    is_next a.t (is_two a.version) a.body.now a.cursor (λ i. (c.type_inv.body i).fits)
    (c.no_entry-then-body-at-lt-NUMBER.ensures ∙ next-cut a.t (is_two a.version) a.body.now a.cursor c.if-cursor-eq0.true (omega arith))

pub returns-then-cursor-eq0 : goal.returns-then-cursor-eq0
returns-then-cursor-eq0 c =
    let a = c.args in
    is_next a.t (is_two a.version) a.body.now a.cursor (λ i. (c.type_inv.body i).fits)
    (c.entry_at.ensures ∙ next-opened a.t (is_two a.version) a.body.now a.cursor c.if-cursor-eq0.true (omega arith) c.be.ensures.value)

pub returns : goal.returns
returns c =
    let a = c.args in
    is_next a.t (is_two a.version) a.body.now a.cursor (λ i. (c.type_inv.body i).fits)
    (c.entry_at-2.ensures ∙ next_open a.t (is_two a.version) a.body.now a.cursor c.if-cursor-eq0.false)
