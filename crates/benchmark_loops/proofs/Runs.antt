-- The rows from one row up to another, taken one after the other.
use Prim.Native.Nat.{ℕ, suc, ◌+◌, ◌-◌, ◌*◌, ◌<◌, ◌≤◌, min}
use mathlib.Core.Path.{◌≡◌}
use mathlib.Core.List.{List, ◌∷◌}
use native.Mathlib.Decide.{dec_le}
use native.Mathlib.Omega.{arith}
use lib.ListN.{length}
use Rattle.row_field.specs.Meaning.{up_to}
use Rattle.row_field.proofs.Marks.{Past}
use Rattle.row_field.proofs.RunRows.{up_to-past}

pub row_next : (a end : ℕ) → a < end → up_to a (end - a) ≡ a ∷ up_to (a + 1) (end - (a + 1))
unfolding up_to
row_next a end h =
    let e : end - a ≡ suc (end - (a + 1)) = omega arith in
    rw e

-- nothing is left that the field has
rows_left : (f : List ℕ) (a end : ℕ) → min end (length f * 8) ≤ a → Dec (length f * 8 ≤ a) → Past f (up_to a (end - a))
unfolding up_to
rows_left f a end h (yes l) = up_to-past f a (end - a) l
rows_left f a end h (no l) =
    let e : end - a ≡ 0 = omega arith in
    rw e tt

pub rows_done : (f : List ℕ) (a end : ℕ) → min end (length f * 8) ≤ a → Past f (up_to a (end - a))
rows_done f a end h = rows_left f a end h (dec_le (length f * 8) a)
