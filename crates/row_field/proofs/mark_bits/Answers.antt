-- `mark_bits` meets its contract: one `or` marks the rows of a byte's bits, and one `and` asks about them (`byte_marked`).
use borrow.Author.Rules.{rules}
use Rattle.row_field.proofs.ByteRows.{byte_marked}
use Rattle.row_field.proofs.mark_bits.Goals as goal

pub returns : goal.returns
returns c =
    let a = c.args in
    byte_marked a.field.now a.at.0 a.bits (search rules) (search rules)
