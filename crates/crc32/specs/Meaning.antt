-- CRC-32 as java.util.zip.CRC32 computes it, a bit at a time.
use Rattle.std.specs.Prelude.{ℕ, zero, suc, ◌/◌, ◌%◌, List, [], ◌∷◌}
use Rattle.std.specs.Int.Bits.{bit_xor}

-- the polynomial of CRC-32 without its power 32; the lowest bit stands for the power 31
abbrev pub polynomial : ℕ
polynomial = 0xEDB8_8320

-- the bit that fell out of the register, and what is left: if the bit is 1, the polynomial is xor-ed in
unfoldable pub after_bit : ℕ → ℕ → ℕ
after_bit zero rest = rest
after_bit (suc n) rest = bit_xor rest polynomial

-- one step: the register is shifted right by one bit
unfoldable pub shifted : ℕ → ℕ
shifted r = after_bit (r % 2) (r / 2)

-- n steps
unfoldable pub steps : ℕ → ℕ → ℕ
steps zero r = r
steps (suc n) r = steps n (shifted r)

-- the register after a byte: it is xor-ed into the low byte, and eight steps follow
unfoldable pub with_byte : ℕ → ℕ → ℕ
with_byte r b = steps 8 (bit_xor r b)

-- the register after bytes, in their order
unfoldable pub with_bytes : ℕ → List ℕ → ℕ
with_bytes r [] = r
with_bytes r (b ∷ bs) = with_bytes (with_byte r b) bs

-- the register starts with its 32 bits set, and in the end each bit is inverted
unfoldable pub checksum : List ℕ → ℕ
checksum bs = bit_xor (with_bytes 0xFFFF_FFFF bs) 0xFFFF_FFFF
