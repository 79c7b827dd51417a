-- Laws of `bit` and `mark`: binary digits of a byte, a field with one more row, a field of zeros, a field known by its rows.
use Prim.Native.Nat.{ℕ, zero, suc, ◌+◌, ◌-◌, ◌*◌, ◌/◌, ◌%◌, ◌^◌, ◌<◌, ◌≤◌, max}
use mathlib.Core.Path.{◌≡◌, refl, sym, ap, ◌∙◌, subst}
use mathlib.Core.Logic.{◌≢◌}
use mathlib.Core.Bool.{Bool, true, false, not, ◌||◌}
use mathlib.Core.List.{List}
use native.Mathlib.Nat.{pow-suc, div-eq_of_lt, mul-mod_left, div_self, zero-mul, one-mul, mod-eq_of_lt, zero-div}
use native.Mathlib.Decide.{dec_lt, ℕ_discrete}
use native.Mathlib.Numerals.{one-add}
use native.Mathlib.Omega.{arith}
use lib.Dec.{eqb}
use lib.ListN.{length, get_or, set, replicate, length-set, get_or-eq_default}
use lib.Seq.{ext_get_or, get_or-set_same, get_or-set_other, set_out}
use lib.Pow.{pow_pos, pow-lt, pow-add, shl-shr, shr-shr}
use lib.Bits.{bit_or, bit_and, or_shr, or_step, or_lt, or_add_and, and_high, and_le_r}
use borrow.Author.Tests.{ne_eqb, eqb-true}
use Rattle.numbers.specs.Meaning.{Bytes}
use Rattle.numbers.proofs.ByteLists.{bytes-set}
use Rattle.numbers.proofs.Tables.{at_place}
use Rattle.row_field.specs.Meaning.{weights, bit, mark}

-- the binary digit of b of weight 2 ^ k
abbrev pub digit : ℕ → ℕ → ℕ
digit b k = b / 2 ^ k % 2

-- ---- binary digits

pub digit-suc : (b k : ℕ) → digit b (suc k) ≡ digit (b / 2) k
digit-suc b k = rw (shr-shr b 1 k, one-add)

-- a test as a digit
abbrev pub tick : Bool → ℕ
tick true = 1
tick false = 0

pub tick-digit : (x : ℕ) → x < 2 → tick (eqb x 1) ≡ x
tick-digit zero h = refl
tick-digit (suc zero) h = refl
tick-digit (suc (suc x)) h = absurd (let z : ⊥ = omega arith in z)

digit-same : (x y : ℕ) → x < 2 → y < 2 → eqb x 1 ≡ eqb y 1 → x ≡ y
digit-same x y h l e = sym (tick-digit x h) ∙ ap tick e ∙ tick-digit y l

-- two numbers of w bits with the same digits are the same
pub digits_same : (w x y : ℕ) → x < 2 ^ w → y < 2 ^ w → ((k : ℕ) → k < w → eqb (digit x k) 1 ≡ eqb (digit y k) 1) → x ≡ y
digits_same zero x y h l e = omega arith
digits_same (suc w) x y h l e =
    let g = rw pow-suc at h in
    let m = rw pow-suc at l in
    let low : digit x 0 ≡ digit y 0 = digit-same (digit x 0) (digit y 0) (omega arith) (omega arith) (e 0 (omega arith)) in
    let high : x / 2 ≡ y / 2 = digits_same w (x / 2) (y / 2) (omega arith) (omega arith) (λ k i. rw (← digit-suc x k, ← digit-suc y k) (e (suc k) (omega arith))) in
    omega arith

or-digit : (a b k : ℕ) → digit (bit_or a b) k ≡ max (digit a k) (digit b k)
or-digit a b k =
    rw (or_shr, or_step (a / 2 ^ k) (b / 2 ^ k)) (omega arith)

pub pow-digit-same : (k : ℕ) → digit (2 ^ k) k ≡ 1
pow-digit-same k = rw (div_self (pow_pos k))

pow-digit-more : (k j : ℕ) → digit (2 ^ (suc j + k)) k ≡ 0
pow-digit-more k j = rw (pow-add, shl-shr, pow-suc, mul-mod_left)

pow-digit-other_go : (k j : ℕ) → k ≢ j → Dec (k < j) → digit (2 ^ k) j ≡ 0
pow-digit-other_go k j n (yes h) = rw (div-eq_of_lt (pow-lt h))
pow-digit-other_go k j n (no h) =
    let e : suc (k - suc j) + j ≡ k = omega arith in
    subst (λ (x : ℕ). digit (2 ^ x) j ≡ 0) e (pow-digit-more j (k - suc j))

pub pow-digit-other : (k j : ℕ) → k ≢ j → digit (2 ^ k) j ≡ 0
pow-digit-other k j n = pow-digit-other_go k j n (dec_lt k j)

with_digit-same : (b k : ℕ) → digit (bit_or b (2 ^ k)) k ≡ 1
with_digit-same b k = rw (or-digit, pow-digit-same) (omega arith)

with_digit-other : (b k j : ℕ) → k ≢ j → digit (bit_or b (2 ^ k)) j ≡ digit b j
with_digit-other b k j n = rw (or-digit, pow-digit-other k j n) (omega arith)

and-digit : (b k : ℕ) → bit_and b (2 ^ k) ≡ digit b k * 2 ^ k
and-digit b k =
    let e : 2 ^ (1 + k) - 2 ^ k ≡ 2 ^ k = rw pow-add (omega arith) in
    subst (λ (x : ℕ). bit_and b x ≡ digit b k * 2 ^ k) e (and_high b 1 k)

-- the code's test of a bit
and_test_go : (b k : ℕ) → Dec (digit b k ≡ 1) → not (eqb (bit_and b (2 ^ k)) 0) ≡ eqb (digit b k) 1
and_test_go b k (yes e) = rw (and-digit, e, ne_eqb (1 * 2 ^ k) 0 (omega (arith, pow_pos k)))
and_test_go b k (no n) =
    let z : digit b k ≡ 0 = omega arith in
    rw (and-digit, z, zero-mul)

pub and_test : (b k : ℕ) → not (eqb (bit_and b (2 ^ k)) 0) ≡ eqb (digit b k) 1
and_test b k = and_test_go b k (ℕ_discrete (digit b k) 1)

-- the code's weight of a bit, `1u8 << (r % 8)`
pub weight : (r : ℕ) → 1 * 2 ^ (r % 8) % 256 ≡ 2 ^ (r % 8)
weight r =
    let m : r % 8 < 8 = omega arith in
    rw one-mul (mod-eq_of_lt (pow-lt m))

-- and its weight in the table
weight_at : (r : ℕ) → get_or weights (r % 8) 0 ≡ 2 ^ (r % 8)
weight_at r = eqb-true _ _ (at_place (λ (i x : ℕ). eqb x (2 ^ i)) weights refl (r % 8) (omega arith))

-- what the code computes of a row, said by the definitions
pub mark_answer : (s : List ℕ) (r : ℕ) → not (eqb (bit_and (get_or s (r / 8) 0) (1 * 2 ^ (r % 8) % 256)) 0) ≡ bit s r
unfolding bit
mark_answer s r = rw (weight r) (and_test (get_or s (r / 8) 0) (r % 8))

pub within_answer : (s : List ℕ) (r : ℕ) → not (eqb (bit_and (get_or s (r / 8) 0) (get_or weights (r % 8) 0)) 0) ≡ bit s r
unfolding bit
within_answer s r = rw (weight_at r) (and_test (get_or s (r / 8) 0) (r % 8))

pub within_store : (s : List ℕ) (r : ℕ) → set s (r / 8) (bit_or (get_or s (r / 8) 0) (get_or weights (r % 8) 0)) ≡ mark s r
unfolding mark
within_store s r = rw (weight_at r)

-- of answers that are gathered by `or` one is not 0 exactly if what they come to is not
pub or_some : (a b : ℕ) → not (eqb (bit_or a b) 0) ≡ not (eqb a 0) || not (eqb b 0)
or_some zero b = refl
or_some (suc a) b = rw (ne_eqb (bit_or (suc a) b) 0 (omega (arith, or_add_and (suc a) b, and_le_r (suc a) b)), ne_eqb (suc a) 0 (omega arith))

-- ---- a row by its byte and its bit

pub bit_at : (f : List ℕ) (at j : ℕ) → j < 8 → bit f (at * 8 + j) ≡ eqb (digit (get_or f at 0) j) 1
unfolding bit
bit_at f at j h =
    let d : (at * 8 + j) / 8 ≡ at = omega arith in
    let m : (at * 8 + j) % 8 ≡ j = omega arith in
    rw (d, m)

pub mark_at_lem : (f : List ℕ) (at j : ℕ) → j < 8 → mark f (at * 8 + j) ≡ set f at (bit_or (get_or f at 0) (2 ^ j))
unfolding mark
mark_at_lem f at j h =
    let d : (at * 8 + j) / 8 ≡ at = omega arith in
    let m : (at * 8 + j) % 8 ≡ j = omega arith in
    rw (d, m)

-- ---- a field with one more row

pub length-mark : (s : List ℕ) (r : ℕ) → length (mark s r) ≡ length s
unfolding mark
length-mark s r = simp length-set

pub bytes-mark : (s : List ℕ) (r : ℕ) → Bytes s → Bytes (mark s r)
unfolding mark
bytes-mark s r b =
    let m : r % 8 < 8 = omega arith in
    bytes-set s (r / 8) _ b (or_lt 8 _ _ (b (r / 8)) (pow-lt m))

-- a row of a byte that was replaced, and one of another
pub bit-set-same : (s : List ℕ) (i v r : ℕ) → i < length s → r / 8 ≡ i → bit (set s i v) r ≡ eqb (digit v (r % 8)) 1
unfolding bit
bit-set-same s i v r h e = rw (e, get_or-set_same s i v 0 h)

pub bit-set-other : (s : List ℕ) (i v r : ℕ) → r / 8 ≢ i → bit (set s i v) r ≡ bit s r
unfolding bit
bit-set-other s i v r n = rw (get_or-set_other s i (r / 8) v 0 n)

kept_go : (s : List ℕ) (i v r : ℕ) → (r / 8 ≡ i → digit v (r % 8) ≡ digit (get_or s i 0) (r % 8)) → Dec (r / 8 ≡ i) → Dec (i < length s) → bit (set s i v) r ≡ bit s r
unfolding bit
kept_go s i v r k (no d) h = bit-set-other s i v r d
kept_go s i v r k (yes e) (no h) = rw (set_out s i v (omega arith))
kept_go s i v r k (yes e) (yes h) = bit-set-same s i v r h e ∙ rw (k e, e)

-- where its digit is as before
pub bit-set_kept : (s : List ℕ) (i v r : ℕ) → (r / 8 ≡ i → digit v (r % 8) ≡ digit (get_or s i 0) (r % 8)) → bit (set s i v) r ≡ bit s r
bit-set_kept s i v r k = kept_go s i v r k (ℕ_discrete (r / 8) i) (dec_lt i (length s))

pub bit-mark-same : (s : List ℕ) (r : ℕ) → r / 8 < length s → bit (mark s r) r ≡ true
unfolding mark
bit-mark-same s r h = bit-set-same s (r / 8) _ r h refl ∙ rw (with_digit-same (get_or s (r / 8) 0) (r % 8))

pub bit-mark-other : (s : List ℕ) (r q : ℕ) → q ≢ r → bit (mark s r) q ≡ bit s q
unfolding mark
bit-mark-other s r q n = bit-set_kept s (r / 8) _ q (λ e. with_digit-other (get_or s (r / 8) 0) (r % 8) (q % 8) (omega arith))

-- a row past the end is not set, and stays so
pub bit_out : (s : List ℕ) (r : ℕ) → length s ≤ r / 8 → bit s r ≡ false
unfolding bit
bit_out s r h = rw (get_or-eq_default s 0 h, zero-div (2 ^ (r % 8)))

pub mark_out : (s : List ℕ) (r : ℕ) → length s ≤ r / 8 → mark s r ≡ s
unfolding mark
mark_out s r h = set_out s (r / 8) _ h

-- ---- a field of zeros

get_d_zeros : (n i : ℕ) → ◌≡◌ {A = ℕ} (get_or (replicate n 0) i 0) 0
get_d_zeros zero i = refl
get_d_zeros (suc n) zero = refl
get_d_zeros (suc n) (suc i) = get_d_zeros n i

pub bit-zeros : (n r : ℕ) → bit (replicate n 0) r ≡ false
unfolding bit
bit-zeros n r = rw (get_d_zeros n (r / 8), zero-div (2 ^ (r % 8)))

pub bytes-zeros : (n : ℕ) → Bytes (replicate n 0)
bytes-zeros n i = rw (get_d_zeros n i) (omega arith)

-- ---- a list of bytes is known by its rows

pub field_ext : (f g : List ℕ) → Bytes f → Bytes g → length f ≡ length g → ((r : ℕ) → r < length f * 8 → bit f r ≡ bit g r) → f ≡ g
field_ext f g b c e d =
    ext_get_or 0 f g e (λ i h. digits_same 8 (get_or f i 0) (get_or g i 0) (b i) (c i) (λ j l. rw (bit_at f i j l, bit_at g i j l) at (d (i * 8 + j) (omega arith))))
