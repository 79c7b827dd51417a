-- The checksum of bytes has 32 bits.
use Prim.Native.Nat.{ℕ, zero, suc, ◌/◌, ◌%◌, ◌^◌, ◌<◌}
use mathlib.Core.List.{List, [], ◌∷◌}
use native.Mathlib.Omega.{arith}
use lib.Bits.{xor_lt, bit_xor}
use Rattle.numbers.specs.Meaning.{Bytes}
use Rattle.crc32.specs.Meaning.{polynomial, after_bit, shifted, steps, with_byte, with_bytes, checksum}

after_lt : (x r : ℕ) → r < 2 ^ 32 → after_bit x r < 2 ^ 32
unfolding after_bit
after_lt zero r h = h
after_lt (suc x) r h = xor_lt 32 r polynomial h (omega arith)

steps-lt : (n r : ℕ) → r < 2 ^ 32 → steps n r < 2 ^ 32
unfolding steps shifted
steps-lt zero r h = h
steps-lt (suc n) r h = steps-lt n (shifted r) (after_lt (r % 2) (r / 2) (omega arith))

bytes_lt : (bs : List ℕ) (r : ℕ) → Bytes bs → r < 2 ^ 32 → with_bytes r bs < 2 ^ 32
unfolding with_bytes with_byte
bytes_lt [] r b h = h
bytes_lt (x ∷ bs) r b h =
    bytes_lt bs (with_byte r x) (λ i. b (suc i)) (steps-lt 8 (bit_xor r x) (xor_lt 32 r x h (omega (arith, b 0))))

pub checksum-lt : (bs : List ℕ) → Bytes bs → checksum bs < 2 ^ 32
unfolding checksum
checksum-lt bs b = xor_lt 32 (with_bytes 0xFFFF_FFFF bs) 0xFFFF_FFFF (bytes_lt bs 0xFFFF_FFFF b (omega arith)) (omega arith)
