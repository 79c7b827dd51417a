-- A rule of a table, proved at each of its entries by one test that antt computes, one entry after the other.
use Prim.Native.Nat.{ℕ, zero, suc, ◌+◌, ◌<◌, ◌≤◌}
use mathlib.Core.Path.{◌≡◌}
use mathlib.Core.Bool.{Bool, true, ◌&&◌}
use mathlib.Core.List.{List, [], ◌∷◌}
use native.Mathlib.Nat.{add-zero, zero-add}
use native.Mathlib.Decide.{dec_lt}
use native.Mathlib.Omega.{arith}
use lib.ListN.{length, get_or, get_or-eq_default}
use Rattle.numbers.proofs.Booleans.{and_both}

-- the test f passes at each entry of the list and its place, counted from i
abbrev pub every : (ℕ → ℕ → Bool) → ℕ → List ℕ → Bool
every f i [] = true
every f i (x ∷ xs) = f i x && every f (i + 1) xs

from : (f : ℕ → ℕ → Bool) (xs : List ℕ) (i : ℕ) → every f i xs ≡ true → (k : ℕ) → k < length xs → f (i + k) (get_or xs k 0) ≡ true
from f [] i t k h = absurd (omega arith)
from f (x ∷ xs) i t zero h = rw add-zero (and_both (f i x) (every f (i + 1) xs) t).0
from f (x ∷ xs) i t (suc k) h =
    let e : i + suc k ≡ i + 1 + k = omega arith in
    rw e (from f xs (i + 1) (and_both (f i x) (every f (i + 1) xs) t).1 k (omega arith))

-- so it passes at the entry of any place
pub at_place : (f : ℕ → ℕ → Bool) (xs : List ℕ) → every f 0 xs ≡ true → (k : ℕ) → k < length xs → f k (get_or xs k 0) ≡ true
at_place f xs t k h = rw zero-add at (from f xs 0 t k h)

-- a test of an entry alone passes past the end too, if it passes at 0
pub at_any : (f : ℕ → Bool) (xs : List ℕ) → f 0 ≡ true → every (λ i x. f x) 0 xs ≡ true → (k : ℕ) → f (get_or xs k 0) ≡ true
at_any f xs z t k = by (dec_lt k (length xs))
  where
    by : Dec (k < length xs) → f (get_or xs k 0) ≡ true
    by (yes h) = at_place (λ i x. f x) xs t k h
    by (no h) =
        let l : length xs ≤ k = omega arith in
        rw (get_or-eq_default xs 0 l) z
