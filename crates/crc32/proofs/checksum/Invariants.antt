-- The register, taken through the bytes that are left, gives what the whole gives. A turn is `by_entry`: the table's entry with the upper bytes is the
-- register after one byte more.
use Rattle.std.proofs.Common.{◌≡◌, drop}
use Rattle.crc32.specs.Meaning.{with_bytes}
use Rattle.crc32.proofs.checksum.Given as goal

abbrev pub invariant-loop-byte : goal.invariant-loop-byte
invariant-loop-byte l = with_bytes l.register (drop l.byte-index l.bytes) ≡ with_bytes 0xFFFF_FFFF l.bytes
