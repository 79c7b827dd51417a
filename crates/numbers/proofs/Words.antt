-- Numbers of up to eight bytes, read byte by byte, stay below 2^64.
use Rattle.std.proofs.Common.{◌≡◌, ℕ, zero, suc, ◌+◌, ◌*◌, ◌%◌, ◌^◌, ◌<◌, ◌≤◌, arith, refl}
use Rattle.std.proofs.Math.Nat.{pow-le-pow_right}
use native.Mathlib.Nat.{pow-suc, mul_comm, mul-le-mul_left}
use lib.Pow.{pow-add}
use Rattle.std.proofs.lemmas.Grind.{pow_more}

-- what i + 1 bytes of at most eight say is below 2^64
next_fits : (i n : ℕ) → i < n → n ≤ 8 → 256 ^ i * 256 ≤ 18446744073709551616
next_fits i n before fits =
    let le : i + 1 ≤ 8 = omega arith in
    let pos : 0 < 256 = omega arith in
    let most : 256 ^ (i + 1) ≤ 256 ^ 8 = pow-le-pow_right {n = 256} pos {i = i + 1} {j = 8} le in
    let more : 256 ^ (i + 1) ≡ 256 ^ i * 256 = pow_more 256 i in
    let eight : 256 ^ 8 ≡ 18446744073709551616 = refl in
    omega (arith, most, more, eight)

pub within_word : (x i n : ℕ) → x < 256 ^ i → i < n → n ≤ 8 → x * 256 + 255 < 18446744073709551616
within_word x i n below before fits = omega (arith, next_fits i n before fits, below)

-- ---- a byte in its place: shifted by eight bits for each byte before it

eight_bits : (i : ℕ) → 2 ^ (8 * i) ≡ 256 ^ i
eight_bits zero = refl
eight_bits (suc i) =
    let e : 8 * suc i ≡ 8 * i + 8 = omega arith in
    let more : 256 ^ suc i ≡ 256 ^ i * 256 = pow-suc 256 i in
    rw (e, pow-add 2 (8 * i) 8, eight_bits i, more) refl

-- all bytes behind x and one more
pub placed_below : (x b i : ℕ) → x < 256 ^ i → b < 256 → x + 256 ^ i * b < 256 ^ (i + 1)
placed_below x b i h k =
    let last : b ≤ 255 = omega arith in
    omega (arith, h, mul-le-mul_left (256 ^ i) last, pow_more 256 i)

-- no bit is lost
pub placed : (b i n : ℕ) → b < 256 → i < n → n ≤ 8 → b * 2 ^ (8 * i) % 18446744073709551616 ≡ 256 ^ i * b
placed b i n k before fits =
    let last : b ≤ 255 = omega arith in
    let room : 256 ^ i * b < 18446744073709551616 = omega (arith, mul-le-mul_left (256 ^ i) last, next_fits i n before fits) in
    rw (eight_bits i, mul_comm b (256 ^ i)) (omega (arith, room))

pub placed_fits : (x b i n : ℕ) → x < 256 ^ i → b < 256 → i < n → n ≤ 8 → x + 256 ^ i * b < 18446744073709551616
placed_fits x b i n h k before fits = omega (arith, placed_below x b i h k, pow_more 256 i, next_fits i n before fits)
