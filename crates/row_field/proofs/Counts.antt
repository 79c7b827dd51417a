-- Laws of `count` and of a zeroed field. A count is a tally over rows, and the tally over a byte's rows is the byte's ones.
use Prim.Native.Nat.{ℕ, zero, suc, ◌+◌, ◌-◌, ◌*◌, ◌/◌, ◌%◌, ◌^◌, ◌<◌, ◌≤◌, min}
use mathlib.Core.Path.{◌≡◌, refl, sym, ap, ◌∙◌}
use mathlib.Core.Bool.{Bool, true, false, cond}
use mathlib.Core.List.{List, [], ◌∷◌, ◌++◌}
use native.Mathlib.Nat.{mod-eq_of_lt, zero-div, pow-suc}
use native.Mathlib.Decide.{dec_lt, ℕ_discrete}
use native.Mathlib.Numerals.{add-one}
use native.Mathlib.Omega.{arith}
use lib.Count.{ones, ones_step, ones-le, ones_cat}
use lib.Dec.{eqb}
use lib.Pow.{pow-add, field, mod-mod-pow}
use lib.ListN.{length, get_or, drop, replicate, length-replicate}
use borrow.Author.Tests.{eq-eqb, ne_eqb}
use Rattle.numbers.specs.Meaning.{Bytes, le_at}
use Rattle.numbers.proofs.Laws.{le_at-lt}
use Rattle.row_field.specs.Meaning.{size, bit, mark, mark_all, field_of, zeroed, Rising, rows_from, count}
use Rattle.row_field.proofs.Laws.{digit, digit-suc, tick, tick-digit, bit_at, bit_out, length-mark, bit-mark-same, bit-mark-other, bit-zeros}

-- ---- tallies

-- for how many of the k numbers from a on p holds
unfoldable pub tally : (ℕ → Bool) → ℕ → ℕ → ℕ
tally p a zero = 0
tally p a (suc k) = tick (p a) + tally p (a + 1) k

pub tick-le : (b : Bool) → tick b ≤ 1
tick-le true = omega arith
tick-le false = omega arith

pub tally-le : (p : ℕ → Bool) (a k : ℕ) → tally p a k ≤ k
unfolding tally
tally-le p a zero = omega arith
tally-le p a (suc k) = omega (arith, tally-le p (a + 1) k, tick-le (p a))

pub tally-add : (p : ℕ → Bool) (a j k : ℕ) → tally p a (j + k) ≡ tally p a j + tally p (a + j) k
unfolding tally
tally-add p a zero k =
    let e : 0 + k ≡ k = omega arith in
    let f : a + 0 ≡ a = omega arith in
    rw (e, f) (omega arith)
tally-add p a (suc j) k =
    let e : suc j + k ≡ suc (j + k) = omega arith in
    let f : a + suc j ≡ a + 1 + j = omega arith in
    rw (e, f) (omega (arith, tally-add p (a + 1) j k))

pub tally-none : (p : ℕ → Bool) (a k : ℕ) → ((r : ℕ) → a ≤ r → r < a + k → p r ≡ false) → tally p a k ≡ 0
unfolding tally
tally-none p a zero h = refl
tally-none p a (suc k) h =
    let e : p a ≡ false = h a (omega arith) (omega arith) in
    rw e (omega (arith, tally-none p (a + 1) k (λ r l m. h r (omega arith) (omega arith))))

pub tick-true : (b : Bool) → tick b ≡ 1 → b ≡ true
tick-true true e = refl
tick-true false e = absurd (omega arith)

full_go : (p : ℕ → Bool) (a r : ℕ) → p a ≡ true → (a + 1 ≤ r → p r ≡ true) → a ≤ r → Dec (r ≡ a) → p r ≡ true
full_go p a r first rest h (yes e) = rw e first
full_go p a r first rest h (no n) = rest (omega arith)

-- where it holds for as many as there are, it holds for each
pub tally-full : (p : ℕ → Bool) (a k : ℕ) → tally p a k ≡ k → (r : ℕ) → a ≤ r → r < a + k → p r ≡ true
unfolding tally
tally-full p a zero e r h l = absurd (omega arith)
tally-full p a (suc k) e r h l =
    let b : tick (p a) ≡ 1 = omega (arith, tally-le p (a + 1) k, tick-le (p a)) in
    full_go p a r (tick-true (p a) b) (λ m. tally-full p (a + 1) k (omega arith) r m (omega arith)) h (ℕ_discrete r a)

-- in two parts
pub tally_split : (p q s : ℕ → Bool) (a k : ℕ) → ((r : ℕ) → a ≤ r → r < a + k → tick (p r) ≡ tick (q r) + tick (s r)) → tally p a k ≡ tally q a k + tally s a k
unfolding tally
tally_split p q s a zero h = refl
tally_split p q s a (suc k) h = omega (arith, h a (omega arith) (omega arith), tally_split p q s (a + 1) k (λ r l m. h r (omega arith) (omega arith)))

one_go : (r a k : ℕ) → a ≤ r → r < a + suc k → (a + 1 ≤ r → tally (λ q. eqb q r) (a + 1) k ≡ 1) → Dec (a ≡ r) → tick (eqb a r) + tally (λ q. eqb q r) (a + 1) k ≡ 1
one_go r a k h l rest (yes e) = rw (eq-eqb a r e) (omega (arith, tally-none (λ q. eqb q r) (a + 1) k (λ q m n. ne_eqb q r (λ x. omega arith))))
one_go r a k h l rest (no n) = rw (ne_eqb a r n) (omega (arith, rest (omega arith)))

-- one number is once among them
tally-one : (r a k : ℕ) → a ≤ r → r < a + k → tally (λ q. eqb q r) a k ≡ 1
unfolding tally
tally-one r a zero h l = absurd (omega arith)
tally-one r a (suc k) h l = one_go r a k h l (λ m. tally-one r (a + 1) k m (omega arith)) (ℕ_discrete a r)

pub low_half : (x k : ℕ) → x % 2 ^ suc k / 2 ≡ x / 2 % 2 ^ k
low_half x k = rw (← add-one k) (field x k 1)

pub low_odd : (x k : ℕ) → x % 2 ^ suc k % 2 ≡ x % 2
low_odd x k = rw (← add-one k) (mod-mod-pow x k 1)

next : (p : ℕ → Bool) (a x j : ℕ) → p (a + suc j) ≡ eqb (digit x (suc j)) 1 → p (a + 1 + j) ≡ eqb (digit (x / 2) j) 1
next p a x j h =
    let e : a + 1 + j ≡ a + suc j = omega arith in
    rw (e, ← digit-suc x j) h

-- where p goes by the k lowest digits of x, they are its ones
pub tally-ones : (p : ℕ → Bool) (a x k : ℕ) → ((j : ℕ) → j < k → p (a + j) ≡ eqb (digit x j) 1) → tally p a k ≡ ones (x % 2 ^ k)
unfolding tally
tally-ones p a x zero h = omega (arith, ones-le 0 (x % 2 ^ 0) (omega arith))
tally-ones p a x (suc k) h =
    let f : a + 0 ≡ a = omega arith in
    let g : x / 2 ^ 0 ≡ x = omega arith in
    let d : p a ≡ eqb (x % 2) 1 = rw (f, g) at (h 0 (omega arith)) in
    let t : tick (p a) ≡ x % 2 = rw d (tick-digit (x % 2) (omega arith)) in
    let o = tally-ones p (a + 1) (x / 2) k (λ j l. next p a x j (h (suc j) (omega arith))) in
    omega (arith, ones_step (x % 2 ^ suc k), ap ones (low_half x k), low_odd x k)

-- ---- counts

pub length-cond : (b : Bool) (a : ℕ) (rs : List ℕ) → length (cond b (a ∷ rs) rs) ≡ tick b + length rs
length-cond true a rs = omega arith
length-cond false a rs = omega arith

pub rows-tally : (f : List ℕ) (a k : ℕ) → length (rows_from f a k) ≡ tally (bit f) a k
unfolding tally rows_from
rows-tally f a zero = refl
rows-tally f a (suc k) = rw (length-cond (bit f a) a (rows_from f (a + 1) k)) (omega (arith, rows-tally f (a + 1) k))

pub count-le : (f : List ℕ) (n : ℕ) → count f n ≤ n
count-le f n = rw rows-tally (tally-le (bit f) 0 n)

pub count_none : (f : List ℕ) → count f 0 ≡ 0
count_none f = rw rows-tally (tally-none (bit f) 0 0 (λ r l m. absurd (omega arith)))

-- k rows more, of one byte: the ones of its k lowest bits
pub count-part : (f : List ℕ) (i k : ℕ) → k ≤ 8 → count f (i * 8 + k) ≡ count f (i * 8) + ones (get_or f i 0 % 2 ^ k)
count-part f i k h =
    let e : 0 + i * 8 ≡ i * 8 = omega arith in
    let t = rw e at (tally-add (bit f) 0 (i * 8) k) in
    let o = tally-ones (bit f) (i * 8) (get_or f i 0) k (λ j l. bit_at f i j (omega arith)) in
    omega (arith, rows-tally f 0 (i * 8 + k), rows-tally f 0 (i * 8))

pub count-byte : (f : List ℕ) (i : ℕ) → get_or f i 0 < 256 → count f ((i + 1) * 8) ≡ count f (i * 8) + ones (get_or f i 0)
count-byte f i h =
    let e : (i + 1) * 8 ≡ i * 8 + 8 = omega arith in
    rw e (count-part f i 8 (omega arith) ∙ rw (mod-eq_of_lt h))

bytes_bits : (w : ℕ) → 256 ^ w ≡ 2 ^ (8 * w)
bytes_bits zero = refl
bytes_bits (suc w) =
    let e : 8 * suc w ≡ 8 * w + 8 = omega arith in
    rw (e, pow-add 2 (8 * w) 8, pow-suc 256 w, bytes_bits w)

-- the rows of w bytes are the ones of the number that they spell: its digits are theirs, byte behind byte
pub count-number : (w : ℕ) (f : List ℕ) (at : ℕ) → Bytes f → count f ((at + w) * 8) ≡ count f (at * 8) + ones (le_at w f at)
count-number zero f at b =
    let e : (at + 0) * 8 ≡ at * 8 = omega arith in
    rw e (omega (arith, ones-le 0 0 (omega arith)))
count-number (suc w) f at b =
    let e : (at + suc w) * 8 ≡ (at + w + 1) * 8 = omega arith in
    let y = get_or f (at + w) 0 in
    let l : le_at w f at < 2 ^ (8 * w) = rw bytes_bits at (le_at-lt w f at b) in
    let c : le_at w f at + 256 ^ w * y ≡ y * 2 ^ (8 * w) + le_at w f at = rw (bytes_bits w) (omega arith) in
    let o = ones_cat (8 * w) y (le_at w f at) l in
    rw (e, c) (omega (arith, count-byte f (at + w) (b (at + w)), count-number w f at b))

pub count_word : (f : List ℕ) (i : ℕ) → Bytes f → count f ((i + 1) * 64) ≡ count f (i * 64) + ones (le_at 8 f (i * 8))
count_word f i b =
    let e : (i + 1) * 64 ≡ (i * 8 + 8) * 8 = omega arith in
    let z : i * 64 ≡ i * 8 * 8 = omega arith in
    rw (e, z) (count-number 8 f (i * 8) b)

-- the rows of whole bytes, and those of the last byte's bits that stand for rows
pub count_last : (f : List ℕ) (i n : ℕ) → i ≡ n / 8 → count f n ≡ count f (i * 8) + ones (get_or f i 0 % 2 ^ (n % 8))
count_last f i n h =
    let e : n ≡ i * 8 + n % 8 = omega arith in
    ap (λ (m : ℕ). count f m) e ∙ count-part f i (n % 8) (omega arith)

-- rows that are not set add nothing
pub count-more : (f : List ℕ) (n m : ℕ) → n ≤ m → ((r : ℕ) → n ≤ r → r < m → bit f r ≡ false) → count f m ≡ count f n
count-more f n m h none =
    let e : n + (m - n) ≡ m = omega arith in
    let z : 0 + n ≡ n = omega arith in
    let t = rw (e, z) at (tally-add (bit f) 0 n (m - n)) in
    let o = tally-none (bit f) n (m - n) (λ r a b. none r a (omega arith)) in
    omega (arith, rows-tally f 0 m, rows-tally f 0 n)

-- rows past the end are not set
pub count_past : (f : List ℕ) (i n : ℕ) → length f ≤ i → i * 8 ≤ n → count f n ≡ count f (i * 8)
count_past f i n l h = count-more f (i * 8) n h (λ r a b. bit_out f r (omega arith))

-- a field with as many rows as there are has every row
pub count-full : (f : List ℕ) (n r : ℕ) → count f n ≡ n → r < n → bit f r ≡ true
count-full f n r e h = tally-full (bit f) 0 n (sym (rows-tally f 0 n) ∙ e) r (omega arith) (omega arith)

mark-tick_go : (f : List ℕ) (r q : ℕ) → r / 8 < length f → bit f r ≡ false → Dec (q ≡ r) → tick (bit (mark f r) q) ≡ tick (bit f q) + tick (eqb q r)
mark-tick_go f r q l e (yes h) = rw (h, bit-mark-same f r l, e, eq-eqb r r refl)
mark-tick_go f r q l e (no h) = rw (bit-mark-other f r q h, ne_eqb q r h) (omega arith)

-- a row that was not set adds one
pub count-mark : (f : List ℕ) (r n : ℕ) → r < n → r / 8 < length f → bit f r ≡ false → count (mark f r) n ≡ count f n + 1
count-mark f r n h l e =
    let t = tally_split (bit (mark f r)) (bit f) (λ q. eqb q r) 0 n (λ q a b. mark-tick_go f r q l e (ℕ_discrete q r)) in
    omega (arith, rows-tally (mark f r) 0 n, rows-tally f 0 n, tally-one r 0 n (omega arith) (omega arith))

-- rows that were not set add as many as they are
pub count_marks : (f : List ℕ) (lo hi n : ℕ) (rs : List ℕ) → Rising lo hi rs → hi ≤ n → hi ≤ 8 * length f → ((q : ℕ) → lo ≤ q → bit f q ≡ false)
    → count (mark_all f rs) n ≡ count f n + length rs
unfolding mark_all
count_marks f lo hi n [] h k l free = omega arith
count_marks f lo hi n (r ∷ rs) h k l free =
    let m = count-mark f r n (omega arith) (omega arith) (free r h.0) in
    omega (arith, count_marks (mark f r) (r + 1) hi n rs h.2 k (rw length-mark l) (λ q a. bit-mark-other f r q (λ e. omega arith) ∙ free q (omega arith)))

-- a field in which no row is set counts none
pub none_counted : (f : List ℕ) (n : ℕ) → ((r : ℕ) → r < n → bit f r ≡ false) → count f n ≡ 0
none_counted f n h = rows-tally f 0 n ∙ tally-none (bit f) 0 n (λ r a b. h r (omega arith))

pub count_zeros : (m n : ℕ) → count (replicate m 0) n ≡ 0
count_zeros m n = none_counted (replicate m 0) n (λ r h. bit-zeros m r)

-- 01: counts are counts of ones in the field, and they are the number of chosen rows
pub count_marked : (m hi n : ℕ) (rs : List ℕ) → Rising 0 hi rs → hi ≤ n → hi ≤ 8 * m → count (mark_all (replicate m 0) rs) n ≡ length rs
count_marked m hi n rs h k l =
    let z = count_marks (replicate m 0) 0 hi n rs h k (rw length-replicate l) (λ q a. bit-zeros m q) in
    omega (arith, count_zeros m n)

pub count-field : (n : ℕ) (rs : List ℕ) → Rising 0 n rs → count (field_of n rs) n ≡ length rs
count-field n rs h = count_marked (size n) n n rs h (omega arith) (omega arith)

-- ---- a zeroed field

pub length-zeroed : (k : ℕ) (f : List ℕ) → length (zeroed k f) ≡ length f
unfolding zeroed
length-zeroed zero f = refl
length-zeroed (suc k) [] = refl
length-zeroed (suc k) (x ∷ f) = ap suc (length-zeroed k f)

pub zeroed-again : (k : ℕ) (f : List ℕ) → zeroed k (zeroed k f) ≡ zeroed k f
unfolding zeroed
zeroed-again zero f = refl
zeroed-again (suc k) [] = refl
zeroed-again (suc k) (x ∷ f) = ap (λ (t : List ℕ). 0 ∷ t) (zeroed-again k f)

pub bytes-zeroed : (k : ℕ) (f : List ℕ) → Bytes f → Bytes (zeroed k f)
unfolding zeroed
bytes-zeroed zero f b i = b i
bytes-zeroed (suc k) [] b i = b i
bytes-zeroed (suc k) (x ∷ f) b zero = omega arith
bytes-zeroed (suc k) (x ∷ f) b (suc i) = bytes-zeroed k f (λ j. b (suc j)) i

pub zeroed-front : (k : ℕ) (f : List ℕ) → k ≤ length f → zeroed k f ≡ replicate k 0 ++ drop k f
unfolding zeroed
zeroed-front zero f h = refl
zeroed-front (suc k) [] h = absurd (omega arith)
zeroed-front (suc k) (x ∷ f) h = ap (λ (t : List ℕ). 0 ∷ t) (zeroed-front k f (omega arith))

pub zeroed-past : (k : ℕ) (f : List ℕ) → length f ≤ k → zeroed k f ≡ zeroed (length f) f
unfolding zeroed
zeroed-past zero [] h = refl
zeroed-past zero (x ∷ f) h = absurd (omega arith)
zeroed-past (suc k) [] h = refl
zeroed-past (suc k) (x ∷ f) h = ap (λ (t : List ℕ). 0 ∷ t) (zeroed-past k f (omega arith))

zeroed_as_far_go : (k : ℕ) (f : List ℕ) → Dec (k < length f) → zeroed k f ≡ replicate (min k (length f)) 0 ++ drop (min k (length f)) f
zeroed_as_far_go k f (yes h) =
    let e : min k (length f) ≡ k = omega arith in
    rw e (zeroed-front k f (omega arith))
zeroed_as_far_go k f (no h) =
    let e : min k (length f) ≡ length f = omega arith in
    rw e (zeroed-past k f (omega arith) ∙ zeroed-front (length f) f (omega arith))

-- as far as the field goes
pub zeroed_as_far : (k : ℕ) (f : List ℕ) → zeroed k f ≡ replicate (min k (length f)) 0 ++ drop (min k (length f)) f
zeroed_as_far k f = zeroed_as_far_go k f (dec_lt k (length f))

-- the bytes of a zeroed field
pub zeroed_at : (k : ℕ) (f : List ℕ) (i : ℕ) → i < k → get_or (zeroed k f) i 0 ≡ 0
unfolding zeroed
zeroed_at zero f i h = absurd (omega arith)
zeroed_at (suc k) [] i h = refl
zeroed_at (suc k) (x ∷ f) zero h = refl
zeroed_at (suc k) (x ∷ f) (suc i) h = zeroed_at k f i (omega arith)

-- no row of the zeroed bytes is set
pub bit-zeroed : (k : ℕ) (f : List ℕ) (r : ℕ) → r < 8 * k → bit (zeroed k f) r ≡ false
unfolding bit
bit-zeroed k f r h =
    let i : r / 8 < k = omega arith in
    rw (zeroed_at k f (r / 8) i, zero-div (2 ^ (r % 8)))
