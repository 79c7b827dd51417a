-- `mark` meets its contract: the code's table is that of the weights; a row past the end is not set, and changes nothing.
use mathlib.Core.Path.{sym}
use Rattle.row_field.proofs.Laws.{bit_out, mark_out}
use Rattle.row_field.proofs.mark.Goals as goal

pub returns : goal.returns
returns c =
    let a = c.args in
    (sym (bit_out a.field.now a.row.0 c.if-row-field.false), sym (mark_out a.field.now a.row.0 c.if-row-field.false))
