use mathlib.Core.Path.{◌≡◌}
use native.Mathlib.Omega.{arith}
use borrow.Author.Rules.{rules}
use Rattle.std.specs.Prelude.{Err}
use Rattle.dictionary.proofs.Walks.{walk_refused, walk_barred, walk_short}
use Rattle.dictionary.proofs.VersionOne.{ones-from, ones_sound, kept_so, never_so, kept_first, kept_fits, Told, told_tabled, told_compared, told_twice, told_once, told_next}
use Rattle.dictionary.proofs.entries_distinct.Goals as goal
use Rattle.dictionary.proofs.entries_distinct.Goals.{then-this-ne0, else-this-ne0}

pub loop-i-init : goal.loop-i-init
loop-i-init g c = let a = c.args in (c.requires.start, omega arith, kept_first _ a.t a.n a.body.now a.at.0 a.table.now c.requires.tabled)

pub returns-in_err-to : goal.returns-in_err-to
returns-in_err-to g c =
    let y : c.from_residual.result ≡ Err c.in_err-to.field-0.0 = search rules in
    rw y (λ rows ns. walk_refused c.args.body.now c.loop-i.p c.loop-i.invariant.2.walk c.loop-i-test.true (rw c.in_err-to.was at c.value_end.ensures) (rows, ns))

pub insert-twice-requires : goal.insert-twice-requires
insert-twice-requires g c =
    kept_fits c.loop-i.invariant.2 c.loop-i-test.true c.in_ok-to.to.0 (rw c.in_ok-to.was at c.value_end.ensures) (kept_so g.row.TABLED c.if-this-ne0.true)

pub has_value-twice-requires : goal.has_value-twice-requires
has_value-twice-requires g c = let w = c.loop-i.invariant.2.walk in (w.items, ones-from w c.loop-i.invariant.1)

pub returns-then-twice : goal.returns-then-twice
returns-then-twice g c = λ rows ns.
    let st = c.loop-i.invariant.2 in
    let v = rw c.in_ok-to.was at c.value_end.ensures in
    let told : Told st c.loop-i-test.true c.in_ok-to.to.0 v c.if-this-ne0.table c.if-this-ne0.twice = elim c.if-this-ne0.branch [
      | then-this-ne0 w ↦ rw (w.table-is, w.twice-is) (told_tabled st c.loop-i-test.true c.in_ok-to.to.0 v (kept_so g.row.TABLED w.if-this-ne0.true)
          w.insert-twice.new.table w.insert-twice.result w.insert-twice.ensures w.insert-twice.auto.table)
      | else-this-ne0 w ↦ rw (w.table-is, w.twice-is) (told_compared st c.loop-i-test.true c.in_ok-to.to.0 v (never_so g.row.TABLED w.if-this-ne0.false)
          w.has_value-twice.result c.loop-i.invariant.1 w.has_value-twice.ensures)
    ] in
    walk_barred c.args.body.now c.loop-i.p st.walk c.loop-i-test.true c.in_ok-to.to.0 v (told_twice st c.loop-i-test.true c.in_ok-to.to.0 v told c.if-twice.true) (rows, ns)

pub returns-then-body-e-lt-NUMBER : goal.returns-then-body-e-lt-NUMBER
returns-then-body-e-lt-NUMBER g c = λ rows ns.
    let st = c.loop-i.invariant.2 in
    let v = rw c.in_ok-to.was at c.value_end.ensures in
    let told : Told st c.loop-i-test.true c.in_ok-to.to.0 v c.if-this-ne0.table c.if-this-ne0.twice = elim c.if-this-ne0.branch [
      | then-this-ne0 w ↦ rw (w.table-is, w.twice-is) (told_tabled st c.loop-i-test.true c.in_ok-to.to.0 v (kept_so g.row.TABLED w.if-this-ne0.true)
          w.insert-twice.new.table w.insert-twice.result w.insert-twice.ensures w.insert-twice.auto.table)
      | else-this-ne0 w ↦ rw (w.table-is, w.twice-is) (told_compared st c.loop-i-test.true c.in_ok-to.to.0 v (never_so g.row.TABLED w.if-this-ne0.false)
          w.has_value-twice.result c.loop-i.invariant.1 w.has_value-twice.ensures)
    ] in
    walk_short c.args.body.now c.loop-i.p st.walk c.loop-i-test.true c.in_ok-to.to.0 v (told_once st c.loop-i-test.true c.in_ok-to.to.0 v told c.if-twice.false)
    c.if-body-e-lt-NUMBER.true (rows, ns)

pub loop-i-preserved : goal.loop-i-preserved
loop-i-preserved g c =
    let st = c.loop-i.invariant.2 in
    let v = rw c.in_ok-to.was at c.value_end.ensures in
    let told : Told st c.loop-i-test.true c.in_ok-to.to.0 v c.if-this-ne0.table c.if-this-ne0.twice = elim c.if-this-ne0.branch [
      | then-this-ne0 w ↦ rw (w.table-is, w.twice-is) (told_tabled st c.loop-i-test.true c.in_ok-to.to.0 v (kept_so g.row.TABLED w.if-this-ne0.true)
          w.insert-twice.new.table w.insert-twice.result w.insert-twice.ensures w.insert-twice.auto.table)
      | else-this-ne0 w ↦ rw (w.table-is, w.twice-is) (told_compared st c.loop-i-test.true c.in_ok-to.to.0 v (never_so g.row.TABLED w.if-this-ne0.false)
          w.has_value-twice.result c.loop-i.invariant.1 w.has_value-twice.ensures)
    ] in
    (omega arith, omega arith, told_next st c.loop-i-test.true c.in_ok-to.to.0 v told c.if-twice.false (omega arith))

pub returns : goal.returns
returns g c =
    let l = c.loop-i.invariant in
    ones_sound c.args.body.now c.args.at.0 c.loop-i.p l.2.walk l.1 c.loop-i-test.false c.requires.start l.0
