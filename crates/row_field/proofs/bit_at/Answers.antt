-- `bit_at` meets its contract: what the code computes is what `bit` says (`mark_answer`); a bit past the end is not set.
use mathlib.Core.Path.{sym}
use Rattle.row_field.proofs.Laws.{mark_answer, bit_out}
use Rattle.row_field.proofs.bit_at.Goals as goal

pub returns-then-at-bytes : goal.returns-then-at-bytes
returns-then-at-bytes c =
    let a = c.args in
    mark_answer a.bytes.now a.number

pub returns : goal.returns
returns c =
    let a = c.args in
    sym (bit_out a.bytes.now a.number c.if-at-bytes.false)
