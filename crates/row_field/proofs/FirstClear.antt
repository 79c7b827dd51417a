-- Laws of `first_clear_row`: a row that is set is passed over, and so are all rows of a byte that is 255.
use Prim.Native.Nat.{ℕ, zero, suc, ◌+◌, ◌-◌, ◌*◌, ◌/◌, ◌%◌, ◌^◌, ◌<◌, ◌≤◌}
use mathlib.Core.Path.{◌≡◌, refl, sym, ap, ◌∙◌}
use mathlib.Core.Bool.{true, false, not}
use mathlib.Core.List.{List}
use native.Mathlib.Nat.{pow-suc}
use native.Mathlib.Decide.{dec_lt}
use native.Mathlib.Omega.{arith}
use lib.Dec.{eqb}
use lib.ListN.{length, take, get_or, length-take}
use lib.Pow.{pow_pos}
use Rattle.std.specs.List.{position, position_or_len}
use Rattle.std.proofs.lemmas.List.{get_or-take}
use Rattle.std.proofs.lemmas.List.Sums.{fails_before_first}
use Rattle.std.proofs.lemmas.Bool.Decides.{nat_tests}
use borrow.Author.Tests.{lt-ltb, le-ltb}
use Rattle.std.specs.Option.{unwrap_or}
use Rattle.row_field.specs.Meaning.{bit, first_clear_row}
use Rattle.row_field.proofs.Laws.{digit, digit-suc}

-- ---- a byte that is 255

-- every digit of the highest number of w bits is 1
ones-digit : (w k : ℕ) → k < w → digit (2 ^ w - 1) k ≡ 1
ones-digit zero k h = absurd (omega arith)
ones-digit (suc w) zero h = rw pow-suc (omega (arith, pow_pos w))
ones-digit (suc w) (suc k) h =
    let e : (2 ^ suc w - 1) / 2 ≡ 2 ^ w - 1 = rw pow-suc (omega (arith, pow_pos w)) in
    digit-suc (2 ^ suc w - 1) k ∙ rw e (ones-digit w k (omega arith))

full-bit : (f : List ℕ) (i r : ℕ) → get_or f i 0 ≡ 255 → r / 8 ≡ i → bit f r ≡ true
unfolding bit
full-bit f i r e h = rw (h, e, ones-digit 8 (r % 8) (omega arith))

-- ---- the first row below n that is clear, looked for from a on

pub clear_next : (f : List ℕ) (a n : ℕ) → a < n → bit f a ≡ true → first_clear_row f a (n - a) ≡ first_clear_row f (a + 1) (n - (a + 1))
unfolding first_clear_row
clear_next f a n h e =
    let k : n - a ≡ suc (n - (a + 1)) = omega arith in
    rw (k, e)

pub clear_here : (f : List ℕ) (a n : ℕ) → a < n → bit f a ≡ false → first_clear_row f a (n - a) ≡ a
unfolding first_clear_row
clear_here f a n h e =
    let k : n - a ≡ suc (n - (a + 1)) = omega arith in
    rw (k, e)

pub clear_none : (f : List ℕ) (n : ℕ) → first_clear_row f n (n - n) ≡ n
unfolding first_clear_row
clear_none f n =
    let k : n - n ≡ 0 = omega arith in
    rw k

-- rows that are set may be passed over at once
pub clear-past : (f : List ℕ) (a n : ℕ) → a ≤ n → ((r : ℕ) → r < a → bit f r ≡ true) → first_clear_row f a (n - a) ≡ first_clear_row f 0 n
clear-past f zero n h set =
    let k : n - zero ≡ n = omega arith in
    ap (first_clear_row f 0) k
clear-past f (suc a) n h set =
    let e : suc a ≡ a + 1 = omega arith in
    rw e (sym (clear_next f a n (omega arith) (set a (omega arith))) ∙ clear-past f a n (omega arith) (λ r l. set r (omega arith)))

-- ---- the bytes before the first that is not full

is_full : (b : ℕ) → not (eqb b 255) ≡ false → b ≡ 255
is_full b e = grind (arith, nat_tests)

-- the first n bytes have k of them
pub record Front (f : List ℕ) (n k : ℕ) : Type 0 where
  pub within : k ≤ n
  pub full : (i : ℕ) → i < k → get_or f i 0 ≡ 255

module _ (f : List ℕ) (n : ℕ) (h : n ≤ length f) where
  abbrev first : ℕ
  first = position_or_len (λ b. not (eqb b 255)) (take n f)

  before : (i : ℕ) → i < n → i < first → get_or f i 0 ≡ 255
  before i l p = is_full (get_or f i 0) (rw get_or-take at (fails_before_first (λ b. not (eqb b 255)) (take n f) i 0 p))

  long : length (take n f) ≡ n
  long = simp length-take (omega arith)

  by : Dec (first < length (take n f)) → Front f n (unwrap_or (position (λ b. not (eqb b 255)) (take n f)) n)
  by (yes g) = rw (lt-ltb first (length (take n f)) g) (record { within = omega (arith, long); full = λ i l. before i (omega (arith, long)) l })
  by (no g) = rw (le-ltb first (length (take n f)) (omega arith)) (record { within = omega arith; full = λ i l. before i l (omega (arith, long)) })

  pub front : Front f n (unwrap_or (position (λ b. not (eqb b 255)) (take n f)) n)
  front = by (dec_lt first (length (take n f)))

-- so the rows of the bytes before it are set
pub rows_before : (f : List ℕ) (n k : ℕ) → Front f n k → (r : ℕ) → r < k * 8 → bit f r ≡ true
rows_before f n k p r h = full-bit f (r / 8) r (p.full (r / 8) (omega arith)) refl
