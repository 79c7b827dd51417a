-- Offsets as the code takes them: the signed number z that an `i32` holds, and the single row -1 - z of a negative one.
use Prim.Native.Nat.{ℕ, suc, ◌-◌, ◌<◌}
use mathlib.Core.Path.{◌≡◌, refl, sym, ap, ◌∙◌}
use mathlib.Core.Bool.{true, false}
use native.Mathlib.Nat.{lt_trans}
use native.Mathlib.Omega.{arith}
use lib.Dec.{T, lit<}
use lib.IntN.{ℤ, pos, negsuc, ◌-ℤ◌, nat_abs}
use lib.Signed.{lt_z, non_neg}
use Rattle.numbers.specs.Meaning.{sign_bit, row, position}
use Rattle.numbers.specs.declared.Position.{Position}
use Rattle.numbers.specs.declared.Row.{Row}
use Rattle.bitmap_index.specs.declared.Place.{Place}
use Rattle.bitmap_index.specs.declared.Place.TheVariants.{Single, Bitmap}
use Rattle.bitmap_index.specs.Promises.{place_of}
use mir.Syntax.{w32, w64}
use mir.Val.{SFits, Fits, to_z, of_z}
use mir.Facts.{to_z-of_z}
use borrow.Author.Tests.{ltb-true, le-ltb}

-- the row of a negative number, and what the code computes for it
pub record Negative (z : ℤ) : Type 0 where
  pub row : ℕ
  pub so : z ≡ negsuc row
  pub turned : negsuc 0 -ℤ z ≡ pos row
  pub below : row < sign_bit

single : (z : ℤ) → SFits w32 z → lt_z z (pos 0) ≡ true → Negative z
single (pos n) f t = let h = ltb-true n 0 t in absurd (let a : ⊥ = omega arith in a)
single (negsuc n) f t =
    record { row = n; so = refl; turned = rw (le-ltb (suc n) 1 (omega arith)) (ap pos (let e : suc n - 1 ≡ n = omega arith in e)); below = f.sfits }

module _ (z : ℤ) (f : SFits w32 z) (t : lt_z (to_z w32 (of_z w32 z)) (pos 0) ≡ true) where
  pub of : Negative z
  of = single z f (rw (to_z-of_z f) at t)

  pub row_fits : SFits w32 (negsuc 0 -ℤ to_z w32 (of_z w32 z))
  row_fits = rw (to_z-of_z f, of.turned) (record { sfits = of.below })

  pub row_is : to_z w32 (of_z w32 (negsuc 0 -ℤ to_z w32 (of_z w32 z))) ≡ pos of.row
  row_is = to_z-of_z row_fits ∙ rw (to_z-of_z f) of.turned

  pub row_cast : T (non_neg (to_z w32 (of_z w32 (negsuc 0 -ℤ to_z w32 (of_z w32 z))))) × Fits w64 (nat_abs (to_z w32 (of_z w32 (negsuc 0 -ℤ to_z w32 (of_z w32 z)))))
  row_cast = rw row_is (tt, record { fits = lt_trans of.below (lit< tt) })

-- any other is a place
pub record Offset (z : ℤ) : Type 0 where
  pub place : ℕ
  pub so : z ≡ pos place
  pub below : place < sign_bit

a_place : (z : ℤ) → SFits w32 z → lt_z z (pos 0) ≡ false → Offset z
a_place (pos n) f t = record { place = n; so = refl; below = f.sfits }
a_place (negsuc n) f t = absurd (let w : ◌≡◌ {A = ℕ} 0 1 = cc in omega arith)

module _ (z : ℤ) (f : SFits w32 z) (t : lt_z (to_z w32 (of_z w32 z)) (pos 0) ≡ false) where
  pub at : Offset z
  at = a_place z f (rw (to_z-of_z f) at t)

  pub place_is : to_z w32 (of_z w32 z) ≡ pos at.place
  place_is = to_z-of_z f ∙ at.so

  pub place_cast : T (non_neg (to_z w32 (of_z w32 z))) × Fits w64 (nat_abs (to_z w32 (of_z w32 z)))
  place_cast = rw place_is (tt, record { fits = lt_trans at.below (lit< tt) })

-- ---- the same by the code's `Place`

pub as_single : (z : ℤ) (f : SFits w32 z) (t : lt_z (to_z w32 (of_z w32 z)) (pos 0) ≡ true)
    → Single (row (nat_abs (to_z w32 (of_z w32 (negsuc 0 -ℤ to_z w32 (of_z w32 z)))))) ≡ place_of z
as_single z f t = rw (row_is z f t) (sym (ap place_of (of z f t).so))

pub as_bitmap : (z : ℤ) (f : SFits w32 z) (t : lt_z (to_z w32 (of_z w32 z)) (pos 0) ≡ false)
    → Bitmap (position (nat_abs (to_z w32 (of_z w32 z)))) ≡ place_of z
as_bitmap z f t = rw (place_is z f t) (sym (ap place_of (at z f t).so))

abbrev single_row : Place → ℕ
single_row (Single r) = r.0
single_row (Bitmap p) = 0

abbrev bitmap_at : Place → ℕ
bitmap_at (Single r) = 0
bitmap_at (Bitmap p) = p.0

single_back : (z : ℤ) {r : Row} → place_of z ≡ Single r → z ≡ negsuc r.0
single_back (negsuc n) e = ap (λ p. negsuc (single_row p)) e
single_back (pos n) e = absurd (let w : ◌≡◌ {A = ℕ} 0 1 = cc in omega arith)

bitmap_back : (z : ℤ) {p : Position} → place_of z ≡ Bitmap p → z ≡ pos p.0
bitmap_back (pos n) e = ap (λ p. pos (bitmap_at p)) e
bitmap_back (negsuc n) e = absurd (let w : ◌≡◌ {A = ℕ} 0 1 = cc in omega arith)

module _ (z : ℤ) (f : SFits w32 z) where
  pub is_single : {r : Row} → place_of (to_z w32 (of_z w32 z)) ≡ Single r → z ≡ negsuc r.0
  is_single h = single_back z (rw (to_z-of_z f) at h)

  pub is_bitmap : {p : Position} → place_of (to_z w32 (of_z w32 z)) ≡ Bitmap p → z ≡ pos p.0
  is_bitmap h = bitmap_back z (rw (to_z-of_z f) at h)
