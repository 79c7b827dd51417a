-- Bytes that take their bits from two: the digits of what the code computes are the field's bits, and so the rows of its bits are bits moved.
use Prim.Native.Nat.{ℕ, zero, suc, ◌+◌, ◌-◌, ◌*◌, ◌/◌, ◌%◌, ◌^◌, ◌<◌, ◌≤◌}
use mathlib.Core.Path.{◌≡◌, refl, sym, ap, ◌∙◌}
use mathlib.Core.List.{List, ◌++◌}
use native.Mathlib.Nat.{add-zero, mod-lt}
use native.Mathlib.Decide.{dec_lt}
use native.Mathlib.Omega.{arith}
use lib.Dec.{eqb}
use lib.ListN.{get_or}
use lib.Pow.{pow_pos, field, mod-mod-pow, shr-shr, shl_exact, high, low}
use Rattle.numbers.specs.Meaning.{Bytes}
use Rattle.row_field.specs.Meaning.{bit}
use Rattle.row_field.specs.Promises.{byte_rows}
use Rattle.row_field.proofs.Laws.{digit, digit-suc, bit_at}
use Rattle.row_field.proofs.RunRows.{later_rows, few_rows}
use Rattle.window.specs.Promises.{shifted, eight_from, moved}
use Rattle.window.proofs.Moved.{moved-append}

-- ---- binary digits

-- of the lowest w
digit_low : (x w j : ℕ) → j < w → digit (x % 2 ^ w) j ≡ digit x j
digit_low x w j h =
    let e : w ≡ w - j - 1 + 1 + j = omega arith in
    ap (λ (n : ℕ). digit (x % 2 ^ n) j) e ∙ rw (field x (w - j - 1 + 1) j) (mod-mod-pow (x / 2 ^ j) (w - j - 1) 1)

-- of two bytes
module _ (lo hi : ℕ) (b : lo < 256) where
  pair_low : (i : ℕ) → i < 8 → digit (lo + 256 * hi) i ≡ digit lo i
  pair_low i h =
      let e : lo + 256 * hi ≡ hi * 2 ^ 8 + lo = omega arith in
      rw e (sym (digit_low (hi * 2 ^ 8 + lo) 8 i h) ∙ rw (low hi 8 b))

  pair_high : (i : ℕ) → digit (lo + 256 * hi) (8 + i) ≡ digit hi i
  pair_high i =
      let e : lo + 256 * hi ≡ hi * 2 ^ 8 + lo = omega arith in
      rw (e, ← shr-shr (hi * 2 ^ 8 + lo) 8 i, high hi 8 b)

-- ---- a byte of two: its digits are the field's bits

module _ (g : List ℕ) (bytes : Bytes g) (i s : ℕ) (h : s < 8) where
  abbrev of_two : ℕ
  of_two = shifted (get_or g i 0) (get_or g (i + 1) 0) s

  of_pair : (j : ℕ) → Dec (s + j < 8) → j < 8 → eqb (digit (get_or g i 0 + 256 * get_or g (i + 1) 0) (s + j)) 1 ≡ bit g (i * 8 + s + j)
  of_pair j (yes l) k =
      let e : i * 8 + s + j ≡ i * 8 + (s + j) = omega arith in
      rw (pair_low (get_or g i 0) (get_or g (i + 1) 0) (bytes i) (s + j) l, e) (sym (bit_at g i (s + j) l))
  of_pair j (no l) k =
      let n : s + j ≡ 8 + (s + j - 8) = omega arith in
      let e : i * 8 + s + j ≡ (i + 1) * 8 + (s + j - 8) = omega arith in
      ap (λ (x : ℕ). eqb (digit (get_or g i 0 + 256 * get_or g (i + 1) 0) x) 1) n
      ∙ rw (pair_high (get_or g i 0) (get_or g (i + 1) 0) (bytes i) (s + j - 8), e) (sym (bit_at g (i + 1) (s + j - 8) (omega arith)))

  digits_of_two : (j : ℕ) → j < 8 → eqb (digit of_two j) 1 ≡ bit g (i * 8 + s + j)
  digits_of_two j k =
      let x : ℕ = get_or g i 0 + 256 * get_or g (i + 1) 0 in
      let e : digit of_two j ≡ digit x (s + j) = digit_low (x / 2 ^ s) 8 j k ∙ rw (shr-shr x s j) in
      rw e (of_pair j (dec_lt (s + j) 8) k)

-- ---- the rows of its bits

-- where the digits of x are the bits of g from v on
digits_moved : (x : ℕ) (g : List ℕ) (v to k : ℕ) → ((j : ℕ) → j < k → eqb (digit x j) 1 ≡ bit g (v + j)) → byte_rows x to k ≡ moved g v to k
unfolding byte_rows moved
digits_moved x g v to zero e = refl
digits_moved x g v to (suc k) e =
    let q : x / 1 ≡ x = omega arith in
    let first : eqb (x % 2) 1 ≡ bit g v = rw (add-zero v, q) at (e 0 (omega arith)) in
    let next : (j : ℕ) → v + suc j ≡ v + 1 + j = λ j. omega arith in
    rw (first, digits_moved (x / 2) g (v + 1) (to + 1) k (λ j h. rw (← digit-suc x j, ← next j) (e (suc j) (omega arith))))

-- of bits that stand in one byte: the lowest c of eight, shifted up by s
pub within_byte : (g : List ℕ) → Bytes g → (v a c s : ℕ) → s + c ≤ 8 → byte_rows (eight_from g v % 2 ^ c * 2 ^ s % 256) a 8 ≡ moved g v (a + s) c
within_byte g bytes v a c s h =
    let x : ℕ = eight_from g v in
    let small : x % 2 ^ c < 2 ^ c = mod-lt x (pow_pos c) in
    let n : 8 ≡ s + (8 - s) = omega arith in
    let m : 8 - s ≡ c + (8 - s - c) = omega arith in
    let p : v / 8 * 8 + v % 8 ≡ v = omega arith in
    let bits : (j : ℕ) → j < c → eqb (digit (x % 2 ^ c) j) 1 ≡ bit g (v + j) =
    λ j l. rw (digit_low x c j l) (rw p at (digits_of_two g bytes (v / 8) (v % 8) (omega arith) j (omega arith))) in
    rw (shl_exact c s 8 small (omega arith))
    (ap (byte_rows (x % 2 ^ c * 2 ^ s) a) n ∙ later_rows (x % 2 ^ c) a s (8 - s)
    ∙ ap (byte_rows (x % 2 ^ c) (a + s)) m ∙ few_rows (x % 2 ^ c) (a + s) c (8 - s - c) small
    ∙ digits_moved (x % 2 ^ c) g v (a + s) c bits)

-- ---- whole bytes, one after the other

pub bytes_next : (g : List ℕ) → Bytes g → (n s i : ℕ) → s < 8 → i < n
    → moved g (i * 8 + s) (i * 8) ((n - i) * 8) ≡ byte_rows (shifted (get_or g i 0) (get_or g (i + 1) 0) s) (i * 8) 8 ++ moved g ((i + 1) * 8 + s) ((i + 1) * 8) ((n - (i + 1)) * 8)
bytes_next g bytes n s i h l =
    let k : (n - i) * 8 ≡ 8 + (n - (i + 1)) * 8 = omega arith in
    let a : i * 8 + s + 8 ≡ (i + 1) * 8 + s = omega arith in
    let b : i * 8 + 8 ≡ (i + 1) * 8 = omega arith in
    rw (
      k,
      moved-append g (i * 8 + s) (i * 8) 8 ((n - (i + 1)) * 8),
      a,
      b,
      digits_moved (shifted (get_or g i 0) (get_or g (i + 1) 0) s) g (i * 8 + s) (i * 8) 8 (digits_of_two g bytes i s h),
    )
