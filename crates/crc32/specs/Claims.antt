-- Check values of CRC-32.
use Rattle.std.specs.Prelude.{◌≡◌, [], ◌∷◌}
use Rattle.crc32.specs.Meaning.{checksum}

abbrev pub OfNothing : Type 0
OfNothing = checksum [] ≡ 0

-- the letter "a"
abbrev pub OfLetter : Type 0
OfLetter = checksum (97 ∷ []) ≡ 0xE8B7_BE43

-- the digits "123456789"
abbrev pub OfDigits : Type 0
OfDigits = checksum (49 ∷ 50 ∷ 51 ∷ 52 ∷ 53 ∷ 54 ∷ 55 ∷ 56 ∷ 57 ∷ []) ≡ 0xCBF4_3926
