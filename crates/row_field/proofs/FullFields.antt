-- Fields with every row set: a count is as many as there are rows, byte by byte.
use Prim.Native.Nat.{ℕ, zero, suc, ◌+◌, ◌-◌, ◌*◌, ◌/◌, ◌%◌, ◌^◌, ◌<◌, ◌≤◌}
use mathlib.Core.Path.{◌≡◌, refl, sym, ap, ◌∙◌}
use mathlib.Core.Bool.{true, false, ◌&&◌}
use mathlib.Core.List.{List}
use native.Mathlib.Nat.{pow-suc, mod-lt, mod-eq_of_lt}
use native.Mathlib.Decide.{ℕ_discrete}
use native.Mathlib.Omega.{arith}
use lib.Bits.{bit_and, and_le_l, and_le_r}
use lib.Count.{ones, ones_step, ones-le, ones-ones}
use lib.Dec.{eqb}
use lib.ListN.{length, get_or}
use lib.Pow.{pow_pos}
use borrow.Author.Tests.{eq-eqb, ne_eqb, eqb-true, eqb-false}
use Rattle.numbers.proofs.Tables.{at_place}
use Rattle.row_field.specs.Meaning.{weights, bit, count}
use Rattle.row_field.proofs.Counts.{tally-add, tally-le, rows-tally, count-le, count-part, count_past}

-- ---- numbers whose digits are all ones

ones-full : (k x : ℕ) → x < 2 ^ k → ones x ≡ k → x ≡ 2 ^ k - 1
ones-full zero x h e = omega arith
ones-full (suc k) x h e =
    let g = rw pow-suc at h in
    let l : x / 2 < 2 ^ k = omega arith in
    let o = ones-le k (x / 2) l in
    let r = ones-full k (x / 2) l (omega (arith, ones_step x)) in
    rw pow-suc (omega (arith, ones_step x, pow_pos k))

ones_test_go : (k x : ℕ) → x < 2 ^ k → Dec (x ≡ 2 ^ k - 1) → eqb (ones x) k ≡ eqb x (2 ^ k - 1)
ones_test_go k x h (yes e) = rw (e, ones-ones k, eq-eqb k k refl, eq-eqb (2 ^ k - 1) (2 ^ k - 1) refl)
ones_test_go k x h (no n) = rw (ne_eqb x (2 ^ k - 1) n, ne_eqb (ones x) k (λ e. n (ones-full k x h e)))

ones_test : (k x : ℕ) → x < 2 ^ k → eqb (ones x) k ≡ eqb x (2 ^ k - 1)
ones_test k x h = ones_test_go k x h (ℕ_discrete x (2 ^ k - 1))

low_ones : (k : ℕ) → k < 8 → 255 % 2 ^ k ≡ 2 ^ k - 1
low_ones k h = eqb-true _ _ (at_place (λ (i x : ℕ). eqb (255 % 2 ^ i) (2 ^ i - 1)) weights refl k h)

and-full_go : (a b : ℕ) → a < 256 → b < 256 → Dec (a ≡ 255) → Dec (b ≡ 255) → eqb (bit_and a b) 255 ≡ eqb a 255 && eqb b 255
and-full_go a b h l (yes d) (yes e) = rw (eq-eqb a 255 d, eq-eqb b 255 e, eq-eqb (bit_and a b) 255 (rw (d, e)))
and-full_go a b h l (yes d) (no e) = rw (eq-eqb a 255 d, ne_eqb b 255 e, ne_eqb (bit_and a b) 255 (omega (arith, and_le_r a b)))
and-full_go a b h l (no d) e = rw (ne_eqb a 255 d, ne_eqb (bit_and a b) 255 (omega (arith, and_le_l a b)))

and-full : (a b : ℕ) → a < 256 → b < 256 → eqb (bit_and a b) 255 ≡ eqb a 255 && eqb b 255
and-full a b h l = and-full_go a b h l (ℕ_discrete a 255) (ℕ_discrete b 255)

-- ---- a count that is full

sum_full_go : (a n b k : ℕ) → a ≤ n → b ≤ k → Dec (a ≡ n) → Dec (b ≡ k) → eqb (a + b) (n + k) ≡ eqb a n && eqb b k
sum_full_go a n b k h l (yes d) (yes e) = rw (d, e, eq-eqb n n refl, eq-eqb k k refl, eq-eqb (n + k) (n + k) refl)
sum_full_go a n b k h l (yes d) (no e) = rw (eq-eqb a n d, ne_eqb b k e, ne_eqb (a + b) (n + k) (omega arith))
sum_full_go a n b k h l (no d) e = rw (ne_eqb a n d, ne_eqb (a + b) (n + k) (omega arith))

sum_full : (a n b k : ℕ) → a ≤ n → b ≤ k → eqb (a + b) (n + k) ≡ eqb a n && eqb b k
sum_full a n b k h l = sum_full_go a n b k h l (ℕ_discrete a n) (ℕ_discrete b k)

-- k rows more, of one byte
part-full : (f : List ℕ) (i k : ℕ) → k ≤ 8 → eqb (count f (i * 8 + k)) (i * 8 + k) ≡ eqb (count f (i * 8)) (i * 8) && eqb (get_or f i 0 % 2 ^ k) (2 ^ k - 1)
part-full f i k h =
    let y = get_or f i 0 % 2 ^ k in
    let l : y < 2 ^ k = mod-lt (get_or f i 0) (pow_pos k) in
    ap (λ (n : ℕ). eqb n (i * 8 + k)) (count-part f i k h)
    ∙ sum_full (count f (i * 8)) (i * 8) (ones y) k (count-le f (i * 8)) (ones-le k y l)
    ∙ ap (λ b. eqb (count f (i * 8)) (i * 8) && b) (ones_test k y l)

pub byte_full : (f : List ℕ) (i all : ℕ) → all < 256 → get_or f i 0 < 256 → eqb all 255 ≡ eqb (count f (i * 8)) (i * 8)
    → eqb (bit_and all (get_or f i 0)) 255 ≡ eqb (count f ((i + 1) * 8)) ((i + 1) * 8)
byte_full f i all h l e =
    let d : (i + 1) * 8 ≡ i * 8 + 8 = omega arith in
    rw (and-full all (get_or f i 0) h l, e, d) (sym (part-full f i 8 (omega arith) ∙ rw (mod-eq_of_lt l)))

-- the last byte's bits that stand for rows
pub last_full : (f : List ℕ) (i n : ℕ) → i ≡ n / 8 → eqb (count f (i * 8)) (i * 8) ≡ true
    → eqb (get_or f i 0 % 2 ^ (n % 8)) (255 % 2 ^ (n % 8)) ≡ eqb (count f n) n
last_full f i n h e =
    let d : n ≡ i * 8 + n % 8 = omega arith in
    rw (low_ones (n % 8) (omega arith)) (sym (ap (λ (m : ℕ). eqb (count f m) m) d ∙ part-full f i (n % 8) (omega arith) ∙ rw e))

-- rows past the end are not set
pub past-full : (f : List ℕ) (i n : ℕ) → length f ≤ i → i * 8 ≤ n → eqb (count f (i * 8)) (i * 8) ≡ true → eqb (i * 8) n ≡ eqb (count f n) n
past-full f i n l h e = ap (λ (m : ℕ). eqb m n) (sym (eqb-true (count f (i * 8)) (i * 8) e) ∙ sym (count_past f i n l h))

-- where some row is not set, so it is among more
fewer_full : (f : List ℕ) (n m : ℕ) → n ≤ m → count f m ≡ m → count f n ≡ n
fewer_full f n m h e =
    let d : n + (m - n) ≡ m = omega arith in
    let z : 0 + n ≡ n = omega arith in
    let t = rw (d, z) at (tally-add (bit f) 0 n (m - n)) in
    omega (arith, rows-tally f 0 m, rows-tally f 0 n, tally-le (bit f) n (m - n), tally-le (bit f) 0 n)

pub not_full : (f : List ℕ) (n m : ℕ) → n ≤ m → eqb (count f n) n ≡ false → eqb (count f m) m ≡ false
not_full f n m h e = ne_eqb (count f m) m (λ d. eqb-false (count f n) n e (fewer_full f n m h d))
