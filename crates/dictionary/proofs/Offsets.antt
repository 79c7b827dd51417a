-- An offset as the 32 bits that are stored and as the signed number that the code holds: each gives the other.
use Prim.Native.Nat.{ℕ, suc, ◌-◌, ◌<◌}
use mathlib.Core.Path.{◌≡◌, sym, ap, ◌∙◌}
use native.Mathlib.Decide.{dec_lt}
use native.Mathlib.Omega.{arith}
use lib.IntN.{ℤ, negsuc}
use mir.Syntax.{w32}
use mir.Val.{SFits, to_z, of_z}
use mir.Facts.{to_z-of_z, of_z-to_z}
use borrow.Author.Tests.{lt-ltb, le-ltb}
use Rattle.numbers.specs.Meaning.{signed32, sign_bit, minus_one_32}
use Rattle.dictionary.specs.Promises.{pattern}

pub signed_fits : (x : ℕ) → x < 4294967296 → SFits w32 (signed32 x)
signed_fits x h = go (dec_lt x sign_bit)
  where
    go : Dec (x < sign_bit) → SFits w32 (signed32 x)
    go (yes l) = rw (lt-ltb x sign_bit l) (record { sfits = l })
    go (no l) =
        let g : minus_one_32 - x < sign_bit = omega arith in
        rw (le-ltb x sign_bit (omega arith)) (record { sfits = g })

-- the language's own reading of 32 bits is this one
pub read-signed : (x : ℕ) → to_z w32 x ≡ signed32 x
read-signed x = go (dec_lt x sign_bit)
  where
    go : Dec (x < sign_bit) → to_z w32 x ≡ signed32 x
    go (yes l) = rw (lt-ltb x sign_bit l)
    go (no l) =
        let e : 4294967296 - suc x ≡ minus_one_32 - x = omega arith in
        rw (le-ltb x sign_bit (omega arith)) (ap negsuc e)

pub pattern-signed : (x : ℕ) → x < 4294967296 → pattern (signed32 x) ≡ x
pattern-signed x h = ap (of_z w32) (sym (read-signed x)) ∙ of_z-to_z {w = w32} {n = x} (record { fits = h })

-- a number that was read is the same when it is passed on, and has its 32 bits
module _ {z : ℤ} (x : ℕ) (e : z ≡ signed32 x) (h : x < 4294967296) where
  pub signed_passed : to_z w32 (of_z w32 z) ≡ signed32 x
  signed_passed = rw e (to_z-of_z {w = w32} {z = signed32 x} (signed_fits x h))

  pub pattern_passed : pattern (to_z w32 (of_z w32 z)) ≡ x
  pattern_passed = ap (of_z w32) signed_passed ∙ pattern-signed x h
