-- Eight steps of a register are a table's entry for its low byte, xor-ed to its upper bytes: a step respects xor, and eight steps of
-- a number whose low byte is 0 only shift it.
use mathlib.Core.Path.{◌≡◌, refl, sym, ap, ap₂, ◌∙◌}
use mathlib.Core.List.{List}
use Prim.Native.Nat.{ℕ, zero, suc, ◌+◌, ◌*◌, ◌/◌, ◌%◌, ◌^◌, ◌<◌, ◌≤◌}
use native.Mathlib.Numerals.{add-one}
use native.Mathlib.Omega.{arith}
use lib.Arith.{bin_ind}
use lib.Bits.{bit_xor, differ, xor_step, xor_shr, xor_comm, xor_zero_r, xor_self, xor_shifted, shifted_half, shifted_even}
use lib.ListN.{length, get_or, drop, drop_of_length-le}
use lib.Seq.{drop-cons}
use Rattle.crc32.specs.Meaning.{polynomial, after_bit, shifted, steps, with_byte, with_bytes}

-- ---- xor

differ-lt : (x y : ℕ) → x < 2 → y < 2 → differ x y < 2
differ-lt zero y hx hy = hy
differ-lt (suc zero) zero hx hy = hx
differ-lt (suc zero) (suc y) hx hy = omega arith
differ-lt (suc (suc x)) y hx hy = absurd (let n : ⊥ = omega arith in n)

differ_assoc : (x y z : ℕ) → x < 2 → y < 2 → z < 2 → differ (differ x y) z ≡ differ x (differ y z)
differ_assoc zero y z hx hy hz = refl
differ_assoc (suc zero) zero z hx hy hz = refl
differ_assoc (suc zero) (suc zero) zero hx hy hz = refl
differ_assoc (suc zero) (suc zero) (suc zero) hx hy hz = refl
differ_assoc (suc zero) (suc zero) (suc (suc z)) hx hy hz = absurd (let n : ⊥ = omega arith in n)
differ_assoc (suc zero) (suc (suc y)) z hx hy hz = absurd (let n : ⊥ = omega arith in n)
differ_assoc (suc (suc x)) y z hx hy hz = absurd (let n : ⊥ = omega arith in n)

xor_half : (a b : ℕ) → bit_xor a b / 2 ≡ bit_xor (a / 2) (b / 2)
xor_half a b = xor_shr a b 1

xor_odd : (a b : ℕ) → bit_xor a b % 2 ≡ differ (a % 2) (b % 2)
xor_odd a b = omega (arith, xor_step a b, differ-lt (a % 2) (b % 2) (omega arith) (omega arith))

xor_assoc : (a b c : ℕ) → bit_xor (bit_xor a b) c ≡ bit_xor a (bit_xor b c)
xor_assoc =
    bin_ind (λ (a : ℕ). (b c : ℕ) → bit_xor (bit_xor a b) c ≡ bit_xor a (bit_xor b c)) (λ b c. refl)
    (λ a ih b c.
    xor_step (bit_xor a b) c
    ∙ ap₂ (λ (h l : ℕ). bit_xor h (c / 2) * 2 + differ l (c % 2)) (xor_half a b) (xor_odd a b)
    ∙ ap₂ (λ (h l : ℕ). h * 2 + l) (ih (b / 2) (c / 2)) (differ_assoc (a % 2) (b % 2) (c % 2) (omega arith) (omega arith) (omega arith))
    ∙ sym (ap₂ (λ (h l : ℕ). bit_xor (a / 2) h * 2 + differ (a % 2) l) (xor_half b c) (xor_odd b c))
    ∙ sym (xor_step a (bit_xor b c)))

xor_twice : (p b : ℕ) → bit_xor p (bit_xor b p) ≡ b
xor_twice p b =
    ap (bit_xor p) (xor_comm b p) ∙ sym (xor_assoc p p b) ∙ ap (λ (z : ℕ). bit_xor z b) (xor_self p)

-- ---- a step respects xor

-- x and y fell out of two registers, and a and b are left of them: the xor of both goes on as each of them does
after_xor : (x y a b : ℕ) → x < 2 → y < 2 → after_bit (differ x y) (bit_xor a b) ≡ bit_xor (after_bit x a) (after_bit y b)
unfolding after_bit
after_xor zero zero a b hx hy = refl
after_xor zero (suc y) a b hx hy = xor_assoc a b polynomial
after_xor (suc zero) zero a b hx hy =
    xor_assoc a b polynomial ∙ ap (bit_xor a) (xor_comm b polynomial) ∙ sym (xor_assoc a polynomial b)
after_xor (suc zero) (suc zero) a b hx hy =
    sym (xor_assoc a polynomial (bit_xor b polynomial) ∙ ap (bit_xor a) (xor_twice polynomial b))
after_xor (suc zero) (suc (suc y)) a b hx hy = absurd (let n : ⊥ = omega arith in n)
after_xor (suc (suc x)) y a b hx hy = absurd (let n : ⊥ = omega arith in n)

shifted_xor : (a b : ℕ) → shifted (bit_xor a b) ≡ bit_xor (shifted a) (shifted b)
unfolding shifted
shifted_xor a b = rw (xor_half, xor_odd) (after_xor (a % 2) (b % 2) (a / 2) (b / 2) (omega arith) (omega arith))

steps_xor : (n a b : ℕ) → steps n (bit_xor a b) ≡ bit_xor (steps n a) (steps n b)
unfolding steps
steps_xor zero a b = refl
steps_xor (suc n) a b = ap (steps n) (shifted_xor a b) ∙ steps_xor n (shifted a) (shifted b)

-- ---- where n zeros fall out, n steps only shift

shifted-zero : (a n : ℕ) → shifted (a * 2 ^ suc n) ≡ a * 2 ^ n
unfolding shifted after_bit
shifted-zero a n = ap₂ after_bit (shifted_even a n) (shifted_half a n)

steps-zeros : (n a : ℕ) → steps n (a * 2 ^ n) ≡ a
unfolding steps
steps-zeros zero a = omega arith
steps-zeros (suc n) a = ap (steps n) (shifted-zero a n) ∙ steps-zeros n a

-- ---- eight steps by the low byte

low-high : (x : ℕ) → x ≡ bit_xor (x / 256 * 256) (x % 256)
low-high x = omega (arith, xor_shifted (x / 256) 8 (x % 256) (omega arith))

eight : (x : ℕ) → steps 8 x ≡ bit_xor (x / 256) (steps 8 (x % 256))
eight x =
    ap (steps 8) (low-high x) ∙ steps_xor 8 (x / 256 * 256) (x % 256)
    ∙ ap (λ (h : ℕ). bit_xor h (steps 8 (x % 256))) (steps-zeros 8 (x / 256))

-- a byte xor-ed in leaves the upper bytes
above : (r b : ℕ) → b < 256 → bit_xor r b / 256 ≡ r / 256
above r b h =
    let z : b / 256 ≡ 0 = omega arith in
    xor_shr r b 8 ∙ ap (bit_xor (r / 256)) z ∙ xor_zero_r (r / 256)

-- what the loop does with a byte: the table's entry for the low byte of the register with the byte, xor-ed to the upper bytes
pub by_entry : (r b : ℕ) → b < 256 → with_byte r b ≡ bit_xor (steps 8 (bit_xor r b % 256)) (r / 256)
unfolding with_byte
by_entry r b h =
    eight (bit_xor r b) ∙ ap (λ (u : ℕ). bit_xor u (steps 8 (bit_xor r b % 256))) (above r b h)
    ∙ xor_comm (r / 256) (steps 8 (bit_xor r b % 256))

-- ---- the loop over the bytes, the first i passed

pub bytes_next : (r i : ℕ) (bs : List ℕ) → i < length bs → with_bytes r (drop i bs) ≡ with_bytes (with_byte r (get_or bs i 0)) (drop (i + 1) bs)
unfolding with_bytes
bytes_next r i bs h = rw (add-one, drop-cons bs i 0)

pub bytes_done : (r i : ℕ) (bs : List ℕ) → length bs ≤ i → with_bytes r (drop i bs) ≡ r
unfolding with_bytes
bytes_done r i bs h = rw (drop_of_length-le bs h)
