-- Two's complement by the code's steps, once over the bytes k of a number and the integer type w that holds it.
use Prim.Native.Nat.{ℕ, zero, suc, ◌-◌, ◌/◌, ◌^◌, ◌<◌, ◌≤◌}
use mathlib.Core.Path.{◌≡◌, refl}
use native.Mathlib.Nat.{zero-add}
use lib.IntN.{pos, negsuc, ◌-ℤ◌}
use mir.Syntax.{Width}
use mir.Val.{SFits, to_z, of_z, hbits}
use mir.Facts.{to_z-of_z}
use borrow.Author.Tests.{lt-ltb, le-ltb}
use Rattle.numbers.specs.Meaning.{signed}

minus : (y : ℕ) → negsuc 0 -ℤ pos y ≡ negsuc y
minus zero = refl
minus (suc y) = rw zero-add

module _ (w : Width) where
  low : (y : ℕ) → y < 2 ^ hbits w → to_z w y ≡ pos y
  low y h = rw (lt-ltb y (2 ^ hbits w) h)

  down : (y : ℕ) → y < 2 ^ hbits w → negsuc 0 -ℤ to_z w y ≡ negsuc y
  down y h = rw (low y h) (minus y)

  pub down_fits : (y : ℕ) → y < 2 ^ hbits w → SFits w (negsuc 0 -ℤ to_z w y)
  down_fits y h = rw (down y h) (record { sfits = h })

  module _ (k x : ℕ) where
    pub signed_low : x < 256 ^ k / 2 → x < 2 ^ hbits w → to_z w x ≡ signed k x
    signed_low h g = rw (low x g, lt-ltb x (256 ^ k / 2) h)

    pub signed_high : 256 ^ k / 2 ≤ x → 256 ^ k - 1 - x < 2 ^ hbits w → to_z w (of_z w (negsuc 0 -ℤ to_z w (256 ^ k - 1 - x))) ≡ signed k x
    signed_high h g = rw (to_z-of_z (down_fits (256 ^ k - 1 - x) g), le-ltb x (256 ^ k / 2) h) (down (256 ^ k - 1 - x) g)
