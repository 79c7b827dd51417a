-- `last_of` meets its contract: the table's rule at each of its entries.
use borrow.Author.Rules.{rules}
use Rattle.stored_value.proofs.TwosComplement.{last_is}
use Rattle.stored_value.proofs.last_of.Goals as goal

pub returns : goal.returns
returns c = last_is c.args.w (search rules)
