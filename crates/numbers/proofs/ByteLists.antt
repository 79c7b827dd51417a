-- Parts of bytes are bytes, and so are bytes one after another, and bytes with one replaced.
use Prim.Native.Nat.{ℕ, zero, suc, ◌+◌, ◌/◌, ◌%◌, ◌<◌}
use mathlib.Core.List.{List, [], ◌∷◌, ◌++◌}
use native.Mathlib.Omega.{arith}
use lib.ListN.{take, drop, set}
use lib.Seq.{get_or-drop}
use Rattle.numbers.specs.Meaning.{Bytes, be, le}

pub bytes-nil : Bytes []
bytes-nil i = omega arith

pub bytes_one : (v : ℕ) → v < 256 → Bytes (v ∷ [])
bytes_one v h zero = h
bytes_one v h (suc i) = omega arith

pub bytes_take : (n : ℕ) (s : List ℕ) → Bytes s → Bytes (take n s)
bytes_take zero s h i = omega arith
bytes_take (suc n) [] h i = omega arith
bytes_take (suc n) (b ∷ s) h zero = h 0
bytes_take (suc n) (b ∷ s) h (suc i) = bytes_take n s (λ j. h (suc j)) i

pub bytes_drop : (n : ℕ) (s : List ℕ) → Bytes s → Bytes (drop n s)
bytes_drop n s h i = rw (get_or-drop n s i 0) (h (n + i))

pub bytes-append : (x y : List ℕ) → Bytes x → Bytes y → Bytes (x ++ y)
bytes-append [] y b c i = c i
bytes-append (a ∷ x) y b c zero = b 0
bytes-append (a ∷ x) y b c (suc i) = bytes-append x y (λ j. b (suc j)) c i

pub bytes-set : (s : List ℕ) (i v : ℕ) → Bytes s → v < 256 → Bytes (set s i v)
bytes-set [] i v b h j = b j
bytes-set (x ∷ s) zero v b h zero = h
bytes-set (x ∷ s) zero v b h (suc j) = b (suc j)
bytes-set (x ∷ s) (suc i) v b h zero = b 0
bytes-set (x ∷ s) (suc i) v b h (suc j) = bytes-set s i v (λ k. b (suc k)) h j

pub bytes-be : (w v : ℕ) → Bytes (be w v)
bytes-be zero v = bytes-nil
bytes-be (suc w) v = bytes-append (be w (v / 256)) (v % 256 ∷ []) (bytes-be w (v / 256)) (bytes_one (v % 256) (omega arith))

pub bytes_le : (w v : ℕ) → Bytes (le w v)
bytes_le zero v i = bytes-nil i
bytes_le (suc w) v zero = omega arith
bytes_le (suc w) v (suc i) = bytes_le w (v / 256) i
