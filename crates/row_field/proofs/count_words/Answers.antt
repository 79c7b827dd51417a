use Rattle.std.proofs.Common.{◌≡◌, ◌+◌, ◌*◌, sym, ap, arith}
use lib.Count.{ones}
use Rattle.row_field.specs.Meaning.{count}
use Rattle.row_field.proofs.Counts.{count_none, count_word, count-le}
use Rattle.row_field.proofs.count_words.Goals as goal
use Rattle.row_field.proofs.count_words.Goals.{After-from-total}

pub loop-i-init : goal.loop-i-init
loop-i-init c = sym (count_none _)

-- one word more
turn : (c : After-from-total) → count c.args.field.now ((c.loop-i.i + 1) * 64) ≡ c.loop-i.total + c.from-total.result
turn c =
    let i = c.loop-i.i in
    let f = c.args.field.now in
    omega (arith, count_word f i (λ j. (c.type_inv.field j).fits), ap ones c.le.ensures.value, c.from-total.ensures)

pub overflow_add-total : goal.overflow_add-total
overflow_add-total c = omega (arith, turn c, count-le c.args.field.now ((c.loop-i.i + 1) * 64))

pub loop-i-preserved : goal.loop-i-preserved
loop-i-preserved c = sym (turn (goal.at.loop-i-preserved c).After-from-total)
