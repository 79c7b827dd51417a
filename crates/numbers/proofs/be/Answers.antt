use Rattle.std.proofs.Common.{rules}
use Rattle.numbers.proofs.Words.{within_word}
use Rattle.numbers.proofs.be.Goals as goal

pub overflow_mul-x : goal.overflow_mul-x
overflow_mul-x g c = let h = within_word c.loop-i.x c.loop-i.i g.row.N (search rules) (search rules) (search rules) in search (rules, h)

pub overflow_add-x : goal.overflow_add-x
overflow_add-x g c = let h = within_word c.loop-i.x c.loop-i.i g.row.N (search rules) (search rules) (search rules) in search (rules, h)
