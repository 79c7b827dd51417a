-- The rule of CRC-32's table: each entry is eight steps of its place.
use Prim.Native.Nat.{ℕ, ◌%◌}
use mathlib.Core.Path.{◌≡◌, refl}
use mathlib.Core.Bool.{Bool}
use native.Mathlib.Omega.{arith}
use lib.Dec.{eqb}
use lib.ListN.{get_or}
use borrow.Author.Tests.{eqb-true}
use Rattle.numbers.proofs.Tables.{at_place}
use Rattle.crc32.specs.Meaning.{after_bit, shifted, steps}
use Rattle.crc32.specs.declared.TheConstants.{TABLE}

-- the rule as a test of one entry
unfoldable right : ℕ → ℕ → Bool
right i x = eqb x (steps 8 i)

-- which antt computes at all 256
pub table_entry : (x : ℕ) → get_or TABLE (x % 256) 0 ≡ steps 8 (x % 256)
unfolding right steps shifted after_bit
table_entry x = eqb-true (get_or TABLE (x % 256) 0) (steps 8 (x % 256)) (at_place right TABLE refl (x % 256) (omega arith))
