use Rattle.std.proofs.Common.{rules}
use Rattle.numbers.proofs.Words.{placed, placed_below, placed_fits}
use Rattle.numbers.proofs.le.Goals as goal

pub overflow_add-x : goal.overflow_add-x
overflow_add-x g c =
    let h = placed c.from.result c.loop-i.i g.row.N (search rules) (search rules) (search rules) in
    let f = placed_fits c.loop-i.x c.from.result c.loop-i.i g.row.N (search rules) (search rules) (search rules) (search rules) in
    rw h (search (rules, f))

pub loop-i-preserved : goal.loop-i-preserved
loop-i-preserved g c =
    let h = placed c.from.result c.loop-i.i g.row.N (search rules) (search rules) (search rules) in
    let b = placed_below c.loop-i.x c.from.result c.loop-i.i (search rules) (search rules) in
    rw h (search (rules, b), b)
