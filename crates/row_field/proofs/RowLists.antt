-- Lists of rows: rows that rise, rows below a bound, the rows from one on, those of them that a field has, rows counted from a base on.
use Prim.Native.Nat.{ℕ, zero, suc, ◌+◌, ◌*◌, ◌<◌, ◌≤◌}
use mathlib.Core.Path.{◌≡◌, refl, ap}
use mathlib.Core.Bool.{Bool, true, false, cond}
use mathlib.Core.List.{List, [], ◌∷◌, ◌++◌}
use native.Mathlib.Nat.{zero-add, add-zero, suc-add, add_assoc}
use native.Mathlib.Omega.{arith}
use lib.ListN.{length}
use Rattle.row_field.specs.Meaning.{bit, up_to, above, Rising, Below, rows_from, rows_of}

-- ---- rows that rise

-- lower from below, and higher from above
pub rising_more : (lo hi lo' hi' : ℕ) (rs : List ℕ) → lo' ≤ lo → hi ≤ hi' → Rising lo hi rs → Rising lo' hi' rs
rising_more lo hi lo' hi' [] h l s = tt
rising_more lo hi lo' hi' (r ∷ rs) h l s = (omega arith, omega arith, rising_more (r + 1) hi (r + 1) hi' rs (omega arith) l s.2)

pub rising_below : (lo hi : ℕ) (rs : List ℕ) → Rising lo hi rs → Below hi rs
rising_below lo hi [] s = tt
rising_below lo hi (r ∷ rs) s = (s.1, rising_below (r + 1) hi rs s.2)

-- rows that rise and are below n rise below n
pub rising_within : (lo hi n : ℕ) (rs : List ℕ) → Rising lo hi rs → Below n rs → Rising lo n rs
rising_within lo hi n [] s b = tt
rising_within lo hi n (r ∷ rs) s b = (s.0, b.0, rising_within (r + 1) hi n rs s.2 b.1)

pub rising_length : (lo hi : ℕ) (rs : List ℕ) → lo ≤ hi → Rising lo hi rs → lo + length rs ≤ hi
rising_length lo hi [] h s = omega arith
rising_length lo hi (r ∷ rs) h s = omega (arith, rising_length (r + 1) hi rs (omega arith) s.2)

pub rising_append : (lo mid hi : ℕ) (xs ys : List ℕ) → lo ≤ mid → mid ≤ hi → Rising lo mid xs → Rising mid hi ys → Rising lo hi (xs ++ ys)
rising_append lo mid hi [] ys h l s t = rising_more mid hi lo hi ys h (omega arith) t
rising_append lo mid hi (x ∷ xs) ys h l s t = (s.0, omega arith, rising_append (x + 1) mid hi xs ys (omega arith) l s.2 t)

-- one row more at the front, or none
pub rising_cond : (b : Bool) (lo hi a : ℕ) (rs : List ℕ) → lo ≤ a → a < hi → Rising (a + 1) hi rs → Rising lo hi (cond b (a ∷ rs) rs)
rising_cond true lo hi a rs h l s = (h, l, s)
rising_cond false lo hi a rs h l s = rising_more (a + 1) hi lo hi rs (omega arith) (omega arith) s

pub below_more : (n m : ℕ) (rs : List ℕ) → n ≤ m → Below n rs → Below m rs
below_more n m [] h s = tt
below_more n m (r ∷ rs) h s = (omega arith, below_more n m rs h s.1)

-- ---- the rows from one on

pub length-up_to : (a k : ℕ) → length (up_to a k) ≡ k
unfolding up_to
length-up_to a zero = refl
length-up_to a (suc k) = ap suc (length-up_to (a + 1) k)

pub up_to-append : (a k m : ℕ) → up_to a (k + m) ≡ up_to a k ++ up_to (a + k) m
unfolding up_to
up_to-append a zero m = rw (zero-add, add-zero)
up_to-append a (suc k) m =
    let e : a + 1 + k ≡ a + suc k = omega arith in
    rw (suc-add k m, up_to-append (a + 1) k m, e)

pub up_to_rising : (lo hi a k : ℕ) → lo ≤ a → a + k ≤ hi → Rising lo hi (up_to a k)
unfolding up_to
up_to_rising lo hi a zero h l = tt
up_to_rising lo hi a (suc k) h l = (h, omega arith, up_to_rising (a + 1) hi (a + 1) k (omega arith) (omega arith))

-- ---- those of them that a field has

pub cond-append : (b : Bool) (a : ℕ) (xs ys : List ℕ) → cond b (a ∷ (xs ++ ys)) (xs ++ ys) ≡ cond b (a ∷ xs) xs ++ ys
cond-append true a xs ys = refl
cond-append false a xs ys = refl

pub rows_from-append : (f : List ℕ) (a k m : ℕ) → rows_from f a (k + m) ≡ rows_from f a k ++ rows_from f (a + k) m
unfolding rows_from
rows_from-append f a zero m = rw (zero-add, add-zero)
rows_from-append f a (suc k) m =
    let e : a + 1 + k ≡ a + suc k = omega arith in
    rw (suc-add k m, rows_from-append f (a + 1) k m, e) (cond-append (bit f a) a (rows_from f (a + 1) k) (rows_from f (a + suc k) m))

pub rows_from_rising : (f : List ℕ) (lo hi a k : ℕ) → lo ≤ a → a + k ≤ hi → Rising lo hi (rows_from f a k)
unfolding rows_from
rows_from_rising f lo hi a zero h l = tt
rows_from_rising f lo hi a (suc k) h l =
    rising_cond (bit f a) lo hi a (rows_from f (a + 1) k) h (omega arith) (rows_from_rising f (a + 1) hi (a + 1) k (omega arith) (omega arith))

pub rows_of_rising : (f : List ℕ) → Rising 0 (length f * 8) (rows_of f)
rows_of_rising f = rows_from_rising f 0 (length f * 8) 0 (length f * 8) (omega arith) (omega arith)

-- ---- rows counted from a base on

pub above_zero : (vs : List ℕ) → above 0 vs ≡ vs
above_zero [] = refl
above_zero (v ∷ vs) = rw (zero-add v, above_zero vs)

pub above_rising : (base lo hi : ℕ) (vs : List ℕ) → Rising lo hi vs → Rising (base + lo) (base + hi) (above base vs)
above_rising base lo hi [] s = tt
above_rising base lo hi (v ∷ vs) s = (omega arith, omega arith, rw add_assoc (above_rising base (v + 1) hi vs s.2))
