-- `all_set` meets its contract. Where a whole byte is not full, no more rows are (`not_full`); else the last byte tells (`last_full`), or there is none (`past-full`).
use Prim.Native.Nat.{◌*◌}
use mathlib.Core.Path.{sym, ◌∙◌}
use native.Mathlib.Omega.{arith}
use Rattle.row_field.proofs.FullFields.{last_full, past-full, not_full}
use Rattle.row_field.proofs.all_set.Goals as goal

pub returns-then-not-all_full : goal.returns-then-not-all_full
returns-then-not-all_full c =
    let a = c.args in
    let i = c.min-whole.result in
    sym (not_full a.field.now (i * 8) a.rows (omega arith) (sym c.all_full.ensures ∙ c.if-not-all_full.true))

pub returns-then-whole-field : goal.returns-then-whole-field
returns-then-whole-field c =
    let a = c.args in
    let i = c.min-whole.result in
    rw (c.low_bits.ensures, c.low_bits-then-whole-field.ensures)
    (last_full a.field.now i a.rows (omega arith) (sym c.all_full.ensures ∙ c.if-not-all_full.false))

pub returns : goal.returns
returns c =
    let a = c.args in
    let i = c.min-whole.result in
    past-full a.field.now i a.rows (omega arith) (omega arith) (sym c.all_full.ensures ∙ c.if-not-all_full.false)
