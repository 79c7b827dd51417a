use Rattle.std.proofs.Common.{◌≡◌, ◌*◌, sym, ◌∙◌, arith}
use Rattle.row_field.proofs.FirstClear.{Front, front, rows_before, clear_next, clear_here, clear_none, clear-past}
use Rattle.row_field.proofs.first_clear.Goals as goal
use Rattle.row_field.proofs.first_clear.Goals.{After-unwrap_or-full}

-- the bytes that are passed over at once
passed : (c : After-unwrap_or-full) → Front c.args.field.now c.min-whole.result c.unwrap_or-full.result
passed c =
    let f = c.args.field.now in
    rw (c.unwrap_or-full.ensures, c.first_not_full.ensures) (front f c.min-whole.result (omega arith))

pub loop-row-init : goal.loop-row-init
loop-row-init c =
    let a = c.args in
    let p = passed c in
    let k = c.unwrap_or-full.result in
    clear-past a.field.now (k * 8) a.rows (omega (arith, p.within)) (rows_before a.field.now c.min-whole.result k p)

pub returns-then-not-bit_at : goal.returns-then-not-bit_at
returns-then-not-bit_at c =
    let l = c.loop-row in
    let a = c.args in
    sym (clear_here a.field.now l.row a.rows (omega arith) (sym c.bit_at.ensures ∙ c.if-not-bit_at.true)) ∙ l.invariant

pub loop-row-preserved : goal.loop-row-preserved
loop-row-preserved c =
    let l = c.loop-row in
    let a = c.args in
    sym (clear_next a.field.now l.row a.rows (omega arith) (sym c.bit_at.ensures ∙ c.if-not-bit_at.false)) ∙ l.invariant

pub returns : goal.returns
returns c =
    let l = c.loop-row in
    let a = c.args in
    let p = passed (goal.at.returns c).After-unwrap_or-full in
    let e : l.row ≡ a.rows = omega (arith, p.within) in
    sym (clear_none a.field.now a.rows) ∙ (rw e at l.invariant)
