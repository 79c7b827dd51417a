use Rattle.std.proofs.lemmas.Result.{err_from_is_err_and}
use Rattle.index_file.proofs.Steps.{columns-first, columns_done, columns-name, columns-count, columns-entries, columns-next}
use Rattle.index_file.proofs.Fields.columns.Goals as goal

pub loop-init : goal.loop-init
loop-init c = columns-first _ _ _ _

pub returns-in_err-stored : goal.returns-in_err-stored
returns-in_err-stored c = let p = err_from_is_err_and c.from_residual.result c.from_residual.ensures.1 in rw (p.1, p.2) (columns-name c.loop.invariant c.loop-test.true (rw c.in_err-stored.was at c.name.ensures))

pub returns-in_err-count : goal.returns-in_err-count
returns-in_err-count c =
    let p = err_from_is_err_and c.from_residual-in_err-count.result c.from_residual-in_err-count.ensures.1 in rw (p.1, p.2)
    (columns-count c.loop.invariant c.loop-test.true (rw c.in_ok-stored.was at c.name.ensures) (rw c.in_err-count.was at c.count.ensures))

pub returns-in_err-new : goal.returns-in_err-new
returns-in_err-new c =
    let p = err_from_is_err_and c.from_residual-in_err-new.result c.from_residual-in_err-new.ensures.1 in rw (p.1, p.2)
    (columns-entries c.loop.invariant c.loop-test.true (rw c.in_ok-stored.was at c.name.ensures) (rw c.in_ok-count.was at c.count.ensures)
    (rw c.in_err-new.was at c.entries.ensures))

pub loop-preserved : goal.loop-preserved
loop-preserved c =
    columns-next c.loop.invariant c.loop-test.true (rw c.in_ok-stored.was at c.name.ensures) (rw c.in_ok-count.was at c.count.ensures)
    (rw c.in_ok-new.was at c.entries.ensures) c.is-hit.ensures c.after_column-seen.ensures

pub returns : goal.returns
returns c = columns_done c.loop.invariant c.loop-test.false
