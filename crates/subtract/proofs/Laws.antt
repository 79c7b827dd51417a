-- Laws of `subtracted` and `removed`: row by row they go by the bits of both fields, so a field less another's rows is what the code computes a byte at a
-- time, and rows removed are those that were, less those that are left.
use Prim.Native.Nat.{ℕ, zero, suc, ◌+◌, ◌-◌, ◌*◌, ◌/◌, ◌%◌, ◌^◌, ◌<◌, ◌≤◌, min}
use mathlib.Core.Path.{◌≡◌, refl, sym, ap, ◌∙◌}
use mathlib.Core.Logic.{◌≢◌, ◌↔◌}
use mathlib.Core.Bool.{Bool, true, false, not, cond, ◌&&◌, ◌||◌, and-true, and-false}
use mathlib.Core.List.{List, [], ◌∷◌, ◌++◌}
use native.Mathlib.Nat.{pow-suc, mod-eq_of_lt, div-eq_of_lt, mod-lt}
use native.Mathlib.Decide.{dec_lt, ℕ_discrete}
use native.Mathlib.Omega.{arith}
use lib.Bits.{bit_and, and_step, and_shr, and_le_l}
use lib.Dec.{eqb, ltb}
use lib.ListN.{length, get_or, set, length-set, get_or-append}
use lib.Seq.{set-append_left}
use lib.Pow.{pow_pos, pow-lt, pow_mono}
use borrow.Author.Tests.{eq-eqb, ne_eqb, eqb-true, lt-ltb, le-ltb, not-false}
use Rattle.numbers.specs.Meaning.{Bytes}
use Rattle.numbers.proofs.ByteLists.{bytes-set}
use Rattle.row_field.specs.Meaning.{bit, Below, rows_from, count}
use Rattle.row_field.proofs.Laws.{digit, digit-suc, tick, bit_out, bit-set-same, bit-set-other, bit-set_kept, pow-digit-same, pow-digit-other, field_ext}
use Rattle.row_field.proofs.RowLists.{rising_below, rows_from-append, rows_from_rising}
use Rattle.row_field.proofs.Marks.{member, member-rows_from_lem, member_rows_from_out, none-set}
use Rattle.row_field.proofs.Counts.{length-cond, tally, tally-le, tally_split, rows-tally, none_counted, low_half, low_odd}
use Rattle.subtract.specs.Meaning.{unmark, without, set_in, subtracted, removed, keeps}

-- ---- binary digits

-- of the complement of a number of w bits
not_digit : (w b k : ℕ) → b < 2 ^ w → k < w → digit (2 ^ w - 1 - b) k ≡ 1 - digit b k
not_digit zero b k h l = absurd (omega arith)
not_digit (suc w) b zero h l =
    let g = rw pow-suc at h in
    rw pow-suc (omega (arith, pow_pos w))
not_digit (suc w) b (suc k) h l =
    let g = rw pow-suc at h in
    let e : (2 ^ suc w - 1 - b) / 2 ≡ 2 ^ w - 1 - b / 2 = rw pow-suc (omega (arith, pow_pos w)) in
    rw (digit-suc (2 ^ suc w - 1 - b) k, digit-suc b k, e) (not_digit w (b / 2) k (omega arith) (omega arith))

both_digit : (a b k : ℕ) → digit (bit_and a b) k ≡ min (digit a k) (digit b k)
both_digit a b k = rw (and_shr, and_step (a / 2 ^ k) (b / 2 ^ k)) (omega arith)

less-digit : (a b k : ℕ) → b < 256 → k < 8 → digit (bit_and a (255 - b)) k ≡ min (digit a k) (1 - digit b k)
less-digit a b k h l = rw (both_digit a (255 - b) k, not_digit 8 b k h l)

-- of the k lowest bits
low_digit : (y k j : ℕ) → j < k → digit (y % 2 ^ k) j ≡ digit y j
low_digit y zero j h = absurd (omega arith)
low_digit y (suc k) zero h = omega (arith, low_odd y k)
low_digit y (suc k) (suc j) h =
    rw (digit-suc (y % 2 ^ suc k) j, low_half y k, digit-suc y j) (low_digit (y / 2) k j (omega arith))

high_digit : (y k j : ℕ) → k ≤ j → digit (y % 2 ^ k) j ≡ 0
high_digit y k j h =
    let l : y % 2 ^ k < 2 ^ j = omega (arith, mod-lt y (pow_pos k), pow_mono h) in
    rw (div-eq_of_lt l)

-- ---- a field with one row less

length-unmark : (f : List ℕ) (r : ℕ) → length (unmark f r) ≡ length f
unfolding unmark
length-unmark f r = simp length-set

less-lt : (f : List ℕ) (i v : ℕ) → Bytes f → bit_and (get_or f i 0) v < 256
less-lt f i v b = omega (arith, b i, and_le_l (get_or f i 0) v)

bytes-unmark : (f : List ℕ) (r : ℕ) → Bytes f → Bytes (unmark f r)
unfolding unmark
bytes-unmark f r b = bytes-set f (r / 8) _ b (less-lt f (r / 8) _ b)

-- the digits of a byte without one bit
module _ (x r j : ℕ) (h : j < 8) where
  weight_lt : 2 ^ (r % 8) < 256
  weight_lt =
      let m : r % 8 < 8 = omega arith in
      pow-lt m

  digit_unset : digit (bit_and x (255 - 2 ^ (r % 8))) j ≡ min (digit x j) (1 - digit (2 ^ (r % 8)) j)
  digit_unset = less-digit x (2 ^ (r % 8)) j weight_lt h

unmark-same_go : (f : List ℕ) (r : ℕ) → Dec (r / 8 < length f) → bit (unmark f r) r ≡ false
unfolding unmark
unmark-same_go f r (no h) = bit_out (unmark f r) r (simp length-set (omega arith))
unmark-same_go f r (yes h) =
    let z : min (digit (get_or f (r / 8) 0) (r % 8)) (1 - 1) ≡ 0 = omega arith in
    bit-set-same f (r / 8) _ r h refl ∙ rw (digit_unset (get_or f (r / 8) 0) r (r % 8) (omega arith), pow-digit-same (r % 8), z)

bit-unmark-same : (f : List ℕ) (r : ℕ) → bit (unmark f r) r ≡ false
bit-unmark-same f r = unmark-same_go f r (dec_lt (r / 8) (length f))

bit-unmark-other : (f : List ℕ) (r q : ℕ) → q ≢ r → bit (unmark f r) q ≡ bit f q
unfolding unmark
bit-unmark-other f r q n =
    bit-set_kept f (r / 8) _ q (λ e.
    let m : r % 8 ≢ q % 8 = omega arith in
    rw (digit_unset (get_or f (r / 8) 0) r (q % 8) (omega arith), pow-digit-other (r % 8) (q % 8) m) (omega arith))

-- ---- a field without rows of another

pub length_without : (f rs : List ℕ) → length (without f rs) ≡ length f
unfolding without
length_without f [] = refl
length_without f (r ∷ rs) = length_without (unmark f r) rs ∙ length-unmark f r

pub bytes-without : (f rs : List ℕ) → Bytes f → Bytes (without f rs)
unfolding without
bytes-without f [] b i = b i
bytes-without f (r ∷ rs) b i = bytes-without (unmark f r) rs (bytes-unmark f r b) i

without-append : (f xs ys : List ℕ) → without f (xs ++ ys) ≡ without (without f xs) ys
unfolding without
without-append f [] ys = refl
without-append f (x ∷ xs) ys = without-append (unmark f x) xs ys

-- a row is set afterwards if it was, and is none of those removed
bit-without_go : (f rs : List ℕ) (q r : ℕ) → Dec (r ≡ q) → bit (unmark f q) r && not (member r rs) ≡ bit f r && not (eqb r q || member r rs)
bit-without_go f rs q r (yes e) = rw (e, bit-unmark-same f q, eq-eqb q q refl) (sym (and-false (bit f q)))
bit-without_go f rs q r (no n) = rw (bit-unmark-other f q r n, ne_eqb r q n)

bit-without : (f rs : List ℕ) (r : ℕ) → bit (without f rs) r ≡ bit f r && not (member r rs)
unfolding without member
bit-without f [] r = sym (and-true (bit f r))
bit-without f (q ∷ rs) r = bit-without (unmark f q) rs r ∙ bit-without_go f rs q r (ℕ_discrete r q)

module _ (k : ℕ) (f g : List ℕ) (a r : ℕ) where
  -- a row that is not among the k from a on stays
  without_out : (a ≤ r → r < a + k → ⊥) → bit (without f (rows_from g a k)) r ≡ bit f r
  without_out h = bit-without f (rows_from g a k) r ∙ rw (member_rows_from_out g a k r h) (and-true (bit f r))

  -- one that is among them stays if g does not have it
  without_in : a ≤ r → r < a + k → bit (without f (rows_from g a k)) r ≡ bit f r && not (bit g r)
  without_in h l = bit-without f (rows_from g a k) r ∙ rw (member-rows_from_lem g a k r h l)

-- ---- a byte at a time

bit_byte : (f : List ℕ) (i r : ℕ) → r / 8 ≡ i → bit f r ≡ eqb (digit (get_or f i 0) (r % 8)) 1
unfolding bit
bit_byte f i r e = rw e

less-bit : (u v : ℕ) → u < 2 → v < 2 → eqb (min u (1 - v)) 1 ≡ eqb u 1 && not (eqb v 1)
less-bit zero v h l =
    let z : min 0 (1 - v) ≡ 0 = omega arith in
    rw z
less-bit (suc zero) zero h l = refl
less-bit (suc zero) (suc zero) h l = refl
less-bit (suc zero) (suc (suc v)) h l = absurd (omega arith)
less-bit (suc (suc u)) v h l = absurd (omega arith)

-- the k rows of a byte's lowest bits, where g has them
abbrev less : ℕ → ℕ → ℕ → ℕ
less x y k = bit_and x (255 - y % 2 ^ k)

low_byte : (y k : ℕ) → k ≤ 8 → y % 2 ^ k < 256
low_byte y k h = omega (arith, mod-lt y (pow_pos k), pow_mono h)

less_in : (x y k j : ℕ) → k ≤ 8 → j < k → eqb (digit (less x y k) j) 1 ≡ eqb (digit x j) 1 && not (eqb (digit y j) 1)
less_in x y k j h l =
    rw (less-digit x (y % 2 ^ k) j (low_byte y k h) (omega arith), low_digit y k j l) (less-bit (digit x j) (digit y j) (omega arith) (omega arith))

less_out : (x y k j : ℕ) → k ≤ 8 → k ≤ j → j < 8 → digit (less x y k) j ≡ digit x j
less_out x y k j h l m = rw (less-digit x (y % 2 ^ k) j (low_byte y k h) m, high_digit y k j l) (omega arith)

module _ (d g : List ℕ) (i k : ℕ) (small : k ≤ 8) (inside : i < length d) (bytes : Bytes d) where
  byte-bits : (r : ℕ) → Dec (r / 8 ≡ i) → Dec (r % 8 < k) → bit (without d (rows_from g (i * 8) k)) r ≡ bit (set d i (less (get_or d i 0) (get_or g i 0) k)) r
  byte-bits r (no n) h = without_out k d g (i * 8) r (λ a b. n (omega arith)) ∙ sym (bit-set-other d i _ r n)
  byte-bits r (yes e) (yes h) =
      without_in k d g (i * 8) r (omega arith) (omega arith)
      ∙ rw (bit-set-same d i (less (get_or d i 0) (get_or g i 0) k) r inside e, bit_byte d i r e, bit_byte g i r e) (sym (less_in (get_or d i 0) (get_or g i 0) k (r % 8) small h))
  byte-bits r (yes e) (no h) =
      without_out k d g (i * 8) r (λ a b. h (omega arith))
      ∙ rw (bit-set-same d i (less (get_or d i 0) (get_or g i 0) k) r inside e, bit_byte d i r e, less_out (get_or d i 0) (get_or g i 0) k (r % 8) small (omega arith) (omega arith))

  pub without-byte : without d (rows_from g (i * 8) k) ≡ set d i (less (get_or d i 0) (get_or g i 0) k)
  without-byte =
      field_ext (without d (rows_from g (i * 8) k)) (set d i (less (get_or d i 0) (get_or g i 0) k))
      (bytes-without d (rows_from g (i * 8) k) bytes)
      (bytes-set d i _ bytes (less-lt d i _ bytes))
      (length_without d (rows_from g (i * 8) k) ∙ sym (length-set d i _))
      (λ r _. byte-bits r (ℕ_discrete (r / 8) i) (dec_lt (r % 8) k))

-- ---- the walk: a byte's rows more

pub subtracted-none : (f g : List ℕ) → f ≡ subtracted 0 f g
unfolding rows_from without
subtracted-none f g = refl

module _ (f g : List ℕ) (i : ℕ) (inside : i < length f) (bytes : Bytes f) where
  subtracted-part : (k : ℕ) → k ≤ 8
      → subtracted (i * 8 + k) f g ≡ set (subtracted (i * 8) f g) i (bit_and (get_or (subtracted (i * 8) f g) i 0) (255 - get_or g i 0 % 2 ^ k))
  subtracted-part k h =
      let z : 0 + i * 8 ≡ i * 8 = omega arith in
      rw (rows_from-append g 0 (i * 8) k, without-append f (rows_from g 0 (i * 8)) (rows_from g (0 + i * 8) k), z)
      (without-byte (subtracted (i * 8) f g) g i k h (omega (arith, length_without f (rows_from g 0 (i * 8)))) (bytes-without f (rows_from g 0 (i * 8)) bytes))

  pub subtracted-byte : get_or g i 0 < 256
      → subtracted ((i + 1) * 8) f g ≡ set (subtracted (i * 8) f g) i (bit_and (get_or (subtracted (i * 8) f g) i 0) (255 - get_or g i 0))
  subtracted-byte h =
      let e : (i + 1) * 8 ≡ i * 8 + 8 = omega arith in
      let m : get_or g i 0 % 2 ^ 8 ≡ get_or g i 0 = mod-eq_of_lt h in
      rw e (rw m at (subtracted-part 8 (omega arith)))

-- the rows of the last byte
pub subtracted_last : (f g : List ℕ) (n : ℕ) → n / 8 < length f → Bytes f
    → subtracted n f g ≡ set (subtracted (n / 8 * 8) f g) (n / 8) (bit_and (get_or (subtracted (n / 8 * 8) f g) (n / 8) 0) (255 - get_or g (n / 8) 0 % 2 ^ (n % 8)))
subtracted_last f g n h b =
    let e : n / 8 * 8 + n % 8 ≡ n = omega arith in
    rw e at (subtracted-part f g (n / 8) h b (n % 8) (omega arith))

-- ---- rows removed

both : List ℕ → List ℕ → ℕ → Bool
both f g r = bit f r && bit g r

set_in_pick : (b : Bool) (f : List ℕ) (a : ℕ) (rs : List ℕ) → length (set_in f (cond b (a ∷ rs) rs)) ≡ tick (bit f a && b) + length (set_in f rs)
unfolding set_in
set_in_pick true f a rs = rw (and-true (bit f a)) (length-cond (bit f a) a (set_in f rs))
set_in_pick false f a rs = rw (and-false (bit f a)) (omega arith)

both_tally : (f g : List ℕ) (a k : ℕ) → length (set_in f (rows_from g a k)) ≡ tally (both f g) a k
unfolding set_in rows_from tally both
both_tally f g a zero = refl
both_tally f g a (suc k) = set_in_pick (bit g a) f a (rows_from g (a + 1) k) ∙ ap (λ (n : ℕ). tick (bit f a && bit g a) + n) (both_tally f g (a + 1) k)

-- ---- what is left

subtracted_go : (n : ℕ) (f g : List ℕ) (r : ℕ) → Dec (r < n) → bit (subtracted n f g) r ≡ bit f r && not (ltb r n && bit g r)
subtracted_go n f g r (yes h) = rw (lt-ltb r n h) (without_in n f g 0 r (omega arith) (omega arith))
subtracted_go n f g r (no h) = rw (le-ltb r n (omega arith)) (without_out n f g 0 r (λ a b. h (omega arith)) ∙ sym (and-true (bit f r)))

-- a row is set if it was, and is not one below n that g has
pub bit-subtracted : (n : ℕ) (f g : List ℕ) (r : ℕ) → bit (subtracted n f g) r ≡ bit f r && not (ltb r n && bit g r)
bit-subtracted n f g r = subtracted_go n f g r (dec_lt r n)

pub length-subtracted : (n : ℕ) (f g : List ℕ) → length (subtracted n f g) ≡ length f
length-subtracted n f g = length_without f (rows_from g 0 n)

part-tick : (a b : Bool) → tick a ≡ tick (a && not b) + tick (a && b)
part-tick true true = refl
part-tick true false = refl
part-tick false b = refl

left-tick : (n : ℕ) (f g : List ℕ) (r : ℕ) → r < n → tick (bit f r) ≡ tick (bit (subtracted n f g) r) + tick (both f g r)
unfolding both
left-tick n f g r h = rw (without_in n f g 0 r (omega arith) (omega arith)) (part-tick (bit f r) (bit g r))

-- rows left and rows removed are the rows that were
pub left-removed : (n : ℕ) (f g : List ℕ) → count (subtracted n f g) n + removed n f g ≡ count f n
left-removed n f g =
    let t = tally_split (bit f) (bit (subtracted n f g)) (both f g) 0 n (λ r a b. left-tick n f g r (omega arith)) in
    omega (arith, rows-tally f 0 n, rows-tally (subtracted n f g) 0 n, both_tally f g 0 n)

-- nothing is left exactly if each row that was set is one of the second field's
both_off : (x y : Bool) → (x ≡ true → y ≡ true) → x && not y ≡ false
both_off true y h = rw (h refl)
both_off false y h = refl

module _ (n : ℕ) (f g : List ℕ) where
  row-left : (r : ℕ) → r < n → bit (subtracted n f g) r ≡ bit f r && not (bit g r)
  row-left r h = without_in n f g 0 r (omega arith) (omega arith)

  pub none_left : (keeps (count (subtracted n f g) n) ≡ false) ↔ ((r : ℕ) → r < n → bit f r ≡ true → bit g r ≡ true)
  unfolding keeps
  none_left =
      let left : List ℕ = subtracted n f g in (
        λ h r l y.
            let z : count left n ≡ 0 = eqb-true (count left n) 0 (not-false _ h) in
            not-false _ (rw y at (sym (row-left r l) ∙ none-set left n z r l)),
        λ h.
            let z : count left n ≡ 0 = none_counted left n (λ r l. row-left r l ∙ both_off (bit f r) (bit g r) (h r l)) in
            rw (eq-eqb (count left n) 0 z),
      )

-- rows that are removed are rows of the second field
pub set_in-le : (f rs : List ℕ) → length (set_in f rs) ≤ length rs
unfolding set_in
set_in-le f [] = omega arith
set_in-le f (r ∷ rs) = go (bit f r) (set_in-le f rs)
  where
    go : (b : Bool) → length (set_in f rs) ≤ length rs → length (cond b (r ∷ set_in f rs) (set_in f rs)) ≤ length (r ∷ rs)
    go true h = omega arith
    go false h = omega arith

-- a row that is left is none of the second field's
module _ (n : ℕ) (f g : List ℕ) where
  abbrev either : ℕ → Bool
  either r = bit (subtracted n f g) r || bit g r

  apart : (x y : Bool) → tick (x && not y || y) ≡ tick (x && not y) + tick y
  apart true true = refl
  apart true false = refl
  apart false true = refl
  apart false false = refl

  pub left-or_deleted : count (subtracted n f g) n + count g n ≤ n
  left-or_deleted =
      let split = tally_split either (bit (subtracted n f g)) (bit g) 0 n (λ r low high. rw (row-left n f g r (omega arith)) (apart (bit f r) (bit g r))) in
      omega (arith, rows-tally (subtracted n f g) 0 n, rows-tally g 0 n, split, tally-le either 0 n)

-- ---- a field at the front of a longer buffer

unmark-front : (f t : List ℕ) (r : ℕ) → r < length f * 8 → unmark (f ++ t) r ≡ unmark f r ++ t
unfolding unmark
unmark-front f t r h =
    let l : r / 8 < length f = omega arith in
    rw (get_or-append f t 0 (r / 8) l, set-append_left f t (r / 8) (bit_and (get_or f (r / 8) 0) (255 - 2 ^ (r % 8))) l)

without-front : (f t rs : List ℕ) → Below (length f * 8) rs → without (f ++ t) rs ≡ without f rs ++ t
unfolding without
without-front f t [] b = refl
without-front f t (r ∷ rs) b =
    ap (λ (x : List ℕ). without x rs) (unmark-front f t r b.0)
    ∙ without-front (unmark f r) t rs (rw (length-unmark f r) b.1)

pub subtracted-front : (n : ℕ) (f t g : List ℕ) → n ≤ length f * 8 → subtracted n (f ++ t) g ≡ subtracted n f g ++ t
subtracted-front n f t g h = without-front f t (rows_from g 0 n) (rising_below 0 (length f * 8) (rows_from g 0 n) (rows_from_rising g 0 (length f * 8) 0 n (omega arith) (omega arith)))
