use Rattle.std.proofs.Common.{ℕ, sym, ap, ◌∙◌, arith}
use lib.Bits.{bit_xor}
use Rattle.crc32.specs.Meaning.{checksum}
use Rattle.crc32.proofs.Register.{bytes_next, bytes_done}
use Rattle.crc32.proofs.checksum.Goals as goal

pub loop-byte-preserved : goal.loop-byte-preserved
loop-byte-preserved c =
    let l = c.loop-byte in
    let bytes = c.args.bytes.now in
    rw c.after_byte-register.ensures (sym (bytes_next l.register l.byte-index bytes (omega arith)) ∙ l.invariant)

pub returns : goal.returns
unfolding checksum
returns c =
    let l = c.loop-byte in
    let done = bytes_done l.register l.byte-index c.args.bytes.now (omega arith) in
    ap (λ (r : ℕ). bit_xor r 0xFFFF_FFFF) (sym done ∙ l.invariant)
