-- The window of the bitmap's own rows has the same of them.
use Rattle.deletion_window.proofs.Marking.{own_fits, outside_so, inside_so}
use Rattle.deletion_window.proofs.mark_indexed.Goals as goal

pub returns-then-own : goal.returns-then-own
returns-then-own c =
    let a = c.args in
    outside_so a.shown.first a.shown.rows a.index a.bytes.now c.clip-own.ensures c.requires.0 (λ i. (c.type_inv.bytes i).fits)
    c.if-own.true a.field.now

pub mark_window-requires : goal.mark_window-requires
mark_window-requires c =
    let a = c.args in
    (c.requires.0, own_fits a.shown.first a.shown.rows a.index a.bytes.now c.clip-own.ensures a.shown.ends)

pub returns : goal.returns
returns c =
    let a = c.args in
    inside_so a.shown.first a.shown.rows a.index a.bytes.now c.clip-own.ensures c.requires.0
    (λ i. (c.type_inv.bytes i).fits) c.mark_window.ensures
