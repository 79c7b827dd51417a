-- The claims of specs/Claims, computed from the definition.
use mathlib.Core.Path.{refl}
use Rattle.crc32.specs.Meaning.{checksum, with_bytes, with_byte, steps, shifted, after_bit}
use Rattle.crc32.specs.Claims.{OfNothing, OfLetter, OfDigits}

pub of_nothing : OfNothing
unfolding checksum with_bytes
of_nothing = refl

pub of_letter : OfLetter
unfolding checksum with_bytes with_byte steps shifted after_bit
of_letter = refl

pub of_digits : OfDigits
unfolding checksum with_bytes with_byte steps shifted after_bit
of_digits = refl
