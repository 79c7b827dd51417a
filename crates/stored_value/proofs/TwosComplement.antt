-- The signed number of w bytes by the code's steps. What carries them: what i bytes spell is below 256 ^ i, which fits 64 bits up to the eighth byte.
use Prim.Native.Nat.{ℕ, zero, suc, ◌+◌, ◌-◌, ◌*◌, ◌/◌, ◌^◌, ◌<◌, ◌≤◌}
use mathlib.Core.Path.{◌≡◌, refl}
use mathlib.Core.List.{List, [], ◌∷◌}
use native.Mathlib.Nat.{pow-suc, add-zero, add-suc, zero-add}
use native.Mathlib.Numerals.{add-one}
use native.Mathlib.Omega.{arith}
use lib.Dec.{eqb}
use lib.ListN.{get_or}
use lib.IntN.{negsuc, ◌-ℤ◌}
use mir.Syntax.{w64}
use mir.Val.{SFits, to_z, of_z}
use mir.Facts.{sfits_to_z, Fits-of_z}
use borrow.Author.Tests.{eqb-true}
use Rattle.numbers.specs.Meaning.{be_at}
use Rattle.numbers.proofs.Tables.{at_place}
use Rattle.numbers.proofs.Signed.{down_fits}
use Rattle.numbers.proofs.Signed as law
use Rattle.stored_value.specs.Meaning.{signed_number}

pow_up : (i j : ℕ) → 256 ^ i ≤ 256 ^ (i + j)
pow_up i zero = rw add-zero (omega arith)
pow_up i (suc j) = rw (add-suc, pow-suc) (omega (arith, pow_up i j))

pow_fits : (i : ℕ) → i ≤ 8 → 256 ^ i ≤ 18446744073709551616
pow_fits i h = let e : i + (8 - i) ≡ 8 = omega arith in rw e at (pow_up i (8 - i))

-- ---- a turn of the loop

pub spelled-next : (s : List ℕ) (i x b : ℕ) → x ≡ be_at i s 0 → b ≡ get_or s i 0 → x * 256 + b ≡ be_at (i + 1) s 0
spelled-next s i x b e f = rw (add-one, zero-add, e, f)

module _ (i x b : ℕ) (h : x < 256 ^ i) (g : b < 256) where
  pub spelled-below : x * 256 + b < 256 ^ (i + 1)
  spelled-below = let p : 256 ^ (i + 1) ≡ 256 ^ i * 256 = rw (add-one, pow-suc) in omega arith

  pub turn_fits : i < 8 → x * 256 + b < 18446744073709551616
  turn_fits l = omega (arith, spelled-below, pow_fits (i + 1) (omega arith))

-- what a reader of v bytes read
pub spelled_at : (s : List ℕ) {w v x : ℕ} → w ≡ v → x ≡ be_at v s 0 → x < 256 ^ v → (x ≡ be_at w s 0) × (x < 256 ^ w)
spelled_at s e f l = rw e (f, l)

-- ---- the greatest number that w bytes spell

abbrev lasts : List ℕ
lasts =
    0 ∷ 255 ∷ 65535 ∷ 16777215 ∷ 4294967295 ∷ 1099511627775 ∷ 281474976710655 ∷ 72057594037927935 ∷ 18446744073709551615 ∷ []

pub last_is : (w : ℕ) → w ≤ 8 → get_or lasts w 0 + 1 ≡ 256 ^ w
last_is w h = eqb-true (get_or lasts w 0 + 1) (256 ^ w) (at_place (λ (i x : ℕ). eqb (x + 1) (256 ^ i)) lasts refl w (omega arith))

-- ---- on each side of half

half_is : (w last : ℕ) → 0 < w → last + 1 ≡ 256 ^ w → 256 ^ w / 2 ≡ last / 2 + 1
half_is zero last h e = omega arith
half_is (suc w) last h e = let p : 256 ^ suc w ≡ 256 ^ w * 256 = pow-suc _ _ in omega arith

module _ (s : List ℕ) (w x last : ℕ) (some : 0 < w) (most : w ≤ 8) (whole : last + 1 ≡ 256 ^ w) (spells : x ≡ be_at w s 0) where
  last_fits : last < 18446744073709551616
  last_fits = omega (arith, pow_fits w most)

  pub signed_low : x ≤ last / 2 → (to_z w64 x ≡ signed_number w s) × SFits w64 (to_z w64 x)
  unfolding signed_number
  signed_low h =
      let g : x < 9223372036854775808 = omega (arith, last_fits) in
      let q : x < 256 ^ w / 2 = omega (arith, half_is w last some whole) in
      (rw (← spells) (law.signed_low w64 w x q g), sfits_to_z {w = w64} {n = x} (record { fits = omega arith }))

  pub signed_high : x ≤ last → last / 2 < x
      → (to_z w64 (of_z w64 (negsuc 0 -ℤ to_z w64 (last - x))) ≡ signed_number w s) × SFits w64 (to_z w64 (of_z w64 (negsuc 0 -ℤ to_z w64 (last - x))))
  unfolding signed_number
  signed_high b h =
      let g : last - x < 9223372036854775808 = omega (arith, last_fits) in
      let q : 256 ^ w / 2 ≤ x = omega (arith, half_is w last some whole) in
      let r : 256 ^ w - 1 - x ≡ last - x = omega (arith, whole) in
      let n : 256 ^ w - 1 - x < 9223372036854775808 = omega arith in
      (rw (← spells, ← r) (law.signed_high w64 w x q n), sfits_to_z (Fits-of_z (down_fits w64 (last - x) g)))
