-- The table's entry with the upper bytes is the register after one byte more (`by_entry`).
use Rattle.std.proofs.Common.{ℕ, ◌/◌, ◌<◌, rules, sym, ap, ◌∙◌}
use lib.Bits.{bit_xor}
use Rattle.crc32.proofs.Register.{by_entry}
use Rattle.crc32.proofs.Table.{table_entry}
use Rattle.crc32.proofs.after_byte.Goals as goal

pub returns : goal.returns
returns c =
    let r = c.args.register in
    let b = c.args.byte in
    let h : b < 256 = search rules in
    rw c.from.ensures (ap (λ (e : ℕ). bit_xor e (r / 256)) (table_entry (bit_xor r b)) ∙ sym (by_entry r b h))
