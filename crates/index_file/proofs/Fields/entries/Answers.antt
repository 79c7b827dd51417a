use Rattle.std.proofs.lemmas.Result.{err_from_is_err_and}
use Rattle.index_file.proofs.Steps.{entries-first, entries_done, entries-name, entries-start, entries-length, entries-next}
use Rattle.index_file.proofs.Fields.entries.Goals as goal

pub loop-init : goal.loop-init
loop-init c = entries-first _ _ _

pub returns-in_err-stored : goal.returns-in_err-stored
returns-in_err-stored c = let p = err_from_is_err_and c.from_residual.result c.from_residual.ensures.1 in rw (p.1, p.2) (entries-name c.loop.invariant c.loop-test.true (rw c.in_err-stored.was at c.name.ensures))

pub returns-in_err-number : goal.returns-in_err-number
returns-in_err-number c =
    let p = err_from_is_err_and c.from_residual-in_err-number.result c.from_residual-in_err-number.ensures.1 in rw (p.1, p.2)
    (entries-start c.loop.invariant c.loop-test.true (rw c.in_ok-stored.was at c.name.ensures) (rw c.in_err-number.was at c.number.ensures))

pub returns-in_err-length : goal.returns-in_err-length
returns-in_err-length c =
    let p = err_from_is_err_and c.from_residual-in_err-length.result c.from_residual-in_err-length.ensures.1 in rw (p.1, p.2)
    (entries-length c.loop.invariant c.loop-test.true (rw c.in_ok-stored.was at c.name.ensures) (rw c.in_ok-number.was at c.number.ensures)
    (rw c.in_err-length.was at c.number-in-loop.ensures))

pub loop-preserved : goal.loop-preserved
loop-preserved c =
    entries-next c.loop.invariant c.loop-test.true (rw c.in_ok-stored.was at c.name.ensures) (rw c.in_ok-number.was at c.number.ensures)
    (rw c.in_ok-length.was at c.number-in-loop.ensures) c.is.ensures c.after_entry-seen.ensures

pub returns : goal.returns
returns c = entries_done c.loop.invariant c.loop-test.false
