-- The rows of one byte's bits: marking them is one `or`, and asking about them one `and`.
use Prim.Native.Nat.{ℕ, zero, suc, ◌+◌, ◌-◌, ◌*◌, ◌/◌, ◌%◌, ◌^◌, ◌<◌, ◌≤◌, min, max}
use mathlib.Core.Path.{◌≡◌, refl, sym, ap, ◌∙◌, subst}
use mathlib.Core.Bool.{not, ◌||◌}
use mathlib.Core.List.{List, ◌∷◌, ◌++◌}
use native.Mathlib.Nat.{pow-suc, zero-mul}
use native.Mathlib.Decide.{ℕ_discrete, dec_le}
use native.Mathlib.Omega.{arith}
use lib.Arith.{bin_ind}
use lib.Dec.{eqb}
use lib.ListN.{length, get_or, set, length-set}
use lib.Seq.{get_or-set_same, set-set, set-get_or}
use lib.Pow.{shr-shr, pow-add, pow-lt}
use lib.Bits.{bit_or, bit_and, or_step, or_zero_l, or_zero_r, or_comm, or_shifted, and_step, and_zero_r}
use borrow.Author.Tests.{eq-eqb, ne_eqb}
use Rattle.row_field.specs.Meaning.{mark_all, any_set, Rising, rows_from}
use Rattle.row_field.specs.Promises.{byte_rows, MarkedInTurn}
use Rattle.row_field.proofs.Laws.{bit_at, mark_at_lem}
use Rattle.row_field.proofs.RowLists.{rising_cond, rows_from_rising, rows_from-append}
use Rattle.row_field.proofs.Marks.{Past, any_seen_rising, rising_past}

or_assoc-bits : (a b c : ℕ) → bit_or (bit_or a b) c ≡ bit_or a (bit_or b c)
or_assoc-bits a = bin_ind (λ (a : ℕ). (b c : ℕ) → bit_or (bit_or a b) c ≡ bit_or a (bit_or b c)) base step a
  where
    base : (b c : ℕ) → bit_or (bit_or zero b) c ≡ bit_or zero (bit_or b c)
    base b c = rw (or_zero_l (bit_or b c), or_zero_l b)

    step : (a : ℕ) → ((b c : ℕ) → bit_or (bit_or (a / 2) b) c ≡ bit_or (a / 2) (bit_or b c)) → (b c : ℕ) → bit_or (bit_or a b) c ≡ bit_or a (bit_or b c)
    step a r b c =
        let x : bit_or a b / 2 ≡ bit_or (a / 2) (b / 2) = omega (arith, or_step a b) in
        let y : bit_or b c / 2 ≡ bit_or (b / 2) (c / 2) = omega (arith, or_step b c) in
        let u : bit_or a b % 2 ≡ max (a % 2) (b % 2) = omega (arith, or_step a b) in
        let v : bit_or b c % 2 ≡ max (b % 2) (c % 2) = omega (arith, or_step b c) in
        let p : bit_or (bit_or a b / 2) (c / 2) ≡ bit_or (a / 2) (bit_or b c / 2) = rw (x, y) (r (b / 2) (c / 2)) in
        omega (arith, or_step (bit_or a b) c, or_step a (bit_or b c))

-- ---- asking

-- a number is not 0 if a bit of it is not
not-zero : (b m : ℕ) → m < 2 → not (eqb (b * 2 + m) 0) ≡ eqb m 1 || not (eqb b 0)
not-zero zero zero h = refl
not-zero zero (suc zero) h = refl
not-zero (suc b) zero h = rw (ne_eqb (suc b * 2 + zero) 0 (omega arith), ne_eqb (suc b) 0 (omega arith))
not-zero (suc b) (suc zero) h = rw (ne_eqb (suc b * 2 + suc zero) 0 (omega arith))
not-zero b (suc (suc m)) h = absurd (omega arith)

pub byte_rows_odd : (x a k : ℕ) → x % 2 ≡ 1 → byte_rows x a (suc k) ≡ a ∷ byte_rows (x / 2) (a + 1) k
unfolding byte_rows
byte_rows_odd x a k h = rw (eq-eqb (x % 2) 1 h)

pub byte_rows_even : (x a k : ℕ) → x % 2 ≡ 0 → byte_rows x a (suc k) ≡ byte_rows (x / 2) (a + 1) k
unfolding byte_rows
byte_rows_even x a k h = rw h

pub byte_rows_rising : (x lo hi a k : ℕ) → lo ≤ a → a + k ≤ hi → Rising lo hi (byte_rows x a k)
unfolding byte_rows
byte_rows_rising x lo hi a zero h l = tt
byte_rows_rising x lo hi a (suc k) h l =
    rising_cond (eqb (x % 2) 1) lo hi a (byte_rows (x / 2) (a + 1) k) h (omega arith) (byte_rows_rising (x / 2) (a + 1) hi (a + 1) k (omega arith) (omega arith))

any_byte_go : (f : List ℕ) (at x j k : ℕ) → j + suc k ≤ 8
    → any_set f (byte_rows (x / 2) (at * 8 + (j + 1)) k) ≡ not (eqb (bit_and (get_or f at 0 / 2 ^ (j + 1)) (x / 2)) 0)
    → Dec (x % 2 ≡ 1)
    → any_set f (byte_rows x (at * 8 + j) (suc k)) ≡ not (eqb (bit_and (get_or f at 0 / 2 ^ j) x) 0)
unfolding any_set
any_byte_go f at x j k h r (yes e) =
    let y = get_or f at 0 / 2 ^ j in
    let g : at * 8 + j + 1 ≡ at * 8 + (j + 1) = omega arith in
    let s : y / 2 ≡ get_or f at 0 / 2 ^ (j + 1) = shr-shr (get_or f at 0) j 1 in
    let m : min (y % 2) 1 ≡ y % 2 = omega arith in
    rw (byte_rows_odd x (at * 8 + j) k e, g, r, bit_at f at j (omega arith), and_step y x, e, m, not-zero (bit_and (y / 2) (x / 2)) (y % 2) (omega arith), s)
any_byte_go f at x j k h r (no n) =
    let y = get_or f at 0 / 2 ^ j in
    let g : at * 8 + j + 1 ≡ at * 8 + (j + 1) = omega arith in
    let s : y / 2 ≡ get_or f at 0 / 2 ^ (j + 1) = shr-shr (get_or f at 0) j 1 in
    let e : x % 2 ≡ 0 = omega arith in
    let m : min (y % 2) 0 ≡ 0 = omega arith in
    rw (byte_rows_even x (at * 8 + j) k e, g, r, and_step y x, e, m, not-zero (bit_and (y / 2) (x / 2)) 0 (omega arith), s)

any_byte : (f : List ℕ) (at x j k : ℕ) → j + k ≤ 8 → x < 2 ^ k → any_set f (byte_rows x (at * 8 + j) k) ≡ not (eqb (bit_and (get_or f at 0 / 2 ^ j) x) 0)
unfolding any_set byte_rows
any_byte f at x j zero h l =
    let e : x ≡ 0 = omega arith in
    rw (e, and_zero_r (get_or f at 0 / 2 ^ j))
any_byte f at x j (suc k) h l =
    let g = rw pow-suc at l in
    any_byte_go f at x j k h (any_byte f at (x / 2) (j + 1) k (omega arith) (omega arith)) (ℕ_discrete (x % 2) 1)

-- ---- marking

-- the lowest bit first
or_split : (b x j : ℕ) → x % 2 ≡ 1 → bit_or (bit_or b (2 ^ j)) (x / 2 * 2 ^ (j + 1)) ≡ bit_or b (x * 2 ^ j)
or_split b x j e =
    let p : 2 ^ j < 2 ^ (j + 1) = pow-lt (omega arith) in
    let q : x / 2 * 2 ^ (j + 1) ≡ x / 2 * 2 * 2 ^ j = rw (pow-add 2 j 1) (omega arith) in
    let u : x / 2 * 2 + 1 ≡ x = omega arith in
    let t : x / 2 * 2 ^ (j + 1) + 2 ^ j ≡ x * 2 ^ j = subst (λ (z : ℕ). x / 2 * 2 ^ (j + 1) + 2 ^ j ≡ z * 2 ^ j) u (omega arith) in
    rw (or_assoc-bits b (2 ^ j) (x / 2 * 2 ^ (j + 1)), or_comm (2 ^ j) (x / 2 * 2 ^ (j + 1)), or_shifted (x / 2) (j + 1) (2 ^ j) p, t)

mark-byte_go : (f : List ℕ) (at x j k : ℕ) → at < length f → j + suc k ≤ 8
    → ((g : List ℕ) → at < length g → mark_all g (byte_rows (x / 2) (at * 8 + (j + 1)) k) ≡ set g at (bit_or (get_or g at 0) (x / 2 * 2 ^ (j + 1))))
    → Dec (x % 2 ≡ 1)
    → mark_all f (byte_rows x (at * 8 + j) (suc k)) ≡ set f at (bit_or (get_or f at 0) (x * 2 ^ j))
unfolding mark_all
mark-byte_go f at x j k l h r (yes e) =
    let g : at * 8 + j + 1 ≡ at * 8 + (j + 1) = omega arith in
    let b = get_or f at 0 in
    let t = set f at (bit_or b (2 ^ j)) in
    let v : length t ≡ length f = simp length-set in
    rw (byte_rows_odd x (at * 8 + j) k e, g)
    (ap (λ (u : List ℕ). mark_all u (byte_rows (x / 2) (at * 8 + (j + 1)) k)) (mark_at_lem f at j (omega arith))
    ∙ r t (omega arith)
    ∙ rw (get_or-set_same f at (bit_or b (2 ^ j)) 0 l, set-set, or_split b x j e))
mark-byte_go f at x j k l h r (no n) =
    let g : at * 8 + j + 1 ≡ at * 8 + (j + 1) = omega arith in
    let e : x % 2 ≡ 0 = omega arith in
    let u : x / 2 * 2 ≡ x = omega arith in
    let q : x / 2 * 2 ^ (j + 1) ≡ x * 2 ^ j = subst (λ (z : ℕ). x / 2 * 2 ^ (j + 1) ≡ z * 2 ^ j) u (rw (pow-add 2 j 1) (omega arith)) in
    rw (byte_rows_even x (at * 8 + j) k e, g, r f l, q)

mark-byte : (f : List ℕ) (at x j k : ℕ) → at < length f → j + k ≤ 8 → x < 2 ^ k → mark_all f (byte_rows x (at * 8 + j) k) ≡ set f at (bit_or (get_or f at 0) (x * 2 ^ j))
unfolding mark_all byte_rows
mark-byte f at x j zero l h b =
    let e : x ≡ 0 = omega arith in
    rw (e, zero-mul, or_zero_r, set-get_or)
mark-byte f at x j (suc k) l h b =
    let g = rw pow-suc at b in
    mark-byte_go f at x j k l h (λ g m. mark-byte g at (x / 2) (j + 1) k m (omega arith) (omega arith)) (ℕ_discrete (x % 2) 1)

-- ---- what the code computes of a byte, said by the definitions

pub byte_marked : (f : List ℕ) (at x : ℕ) → at < length f → x < 256
    → MarkedInTurn f (set f at (bit_or (get_or f at 0) x)) (byte_rows x (at * 8) 8) (not (eqb (bit_and (get_or f at 0) x) 0))
byte_marked f at x l h =
    let g : at * 8 + 0 ≡ at * 8 = omega arith in
    let d : get_or f at 0 / 1 ≡ get_or f at 0 = omega arith in
    let y : x * 1 ≡ x = omega arith in
    let s = any_seen_rising f 0 (at * 8 + 8) (byte_rows x (at * 8) 8) (byte_rows_rising x 0 (at * 8 + 8) (at * 8) 8 (omega arith) (omega arith)) in
    record { seen = sym (s ∙ (rw (g, d) at (any_byte f at x 0 8 (omega arith) h))); marked = sym (rw (g, y) at (mark-byte f at x 0 8 l (omega arith) h)) }

-- ---- the rows of a field, byte by byte

rows-part : (g : List ℕ) (i j k : ℕ) → j + k ≤ 8 → rows_from g (i * 8 + j) k ≡ byte_rows (get_or g i 0 / 2 ^ j) (i * 8 + j) k
unfolding rows_from byte_rows
rows-part g i j zero h = refl
rows-part g i j (suc k) h =
    let e : i * 8 + j + 1 ≡ i * 8 + (j + 1) = omega arith in
    let s : get_or g i 0 / 2 ^ j / 2 ≡ get_or g i 0 / 2 ^ (j + 1) = shr-shr (get_or g i 0) j 1 in
    rw (bit_at g i j (omega arith), e, s, rows-part g i (j + 1) k (omega arith))

pub rows_next : (g : List ℕ) (n i : ℕ) → i < n
    → rows_from g (i * 8) ((n - i) * 8) ≡ byte_rows (get_or g i 0) (i * 8) 8 ++ rows_from g ((i + 1) * 8) ((n - (i + 1)) * 8)
rows_next g n i h =
    let e : (n - i) * 8 ≡ 8 + (n - (i + 1)) * 8 = omega arith in
    let d : i * 8 + 8 ≡ (i + 1) * 8 = omega arith in
    let z : i * 8 + 0 ≡ i * 8 = omega arith in
    let q : get_or g i 0 / 1 ≡ get_or g i 0 = omega arith in
    let b : rows_from g (i * 8) 8 ≡ byte_rows (get_or g i 0) (i * 8) 8 = rw (z, q) at (rows-part g i 0 8 (omega arith)) in
    rw (e, rows_from-append g (i * 8) 8 ((n - (i + 1)) * 8), d, b)

-- nothing is left that the field has
rows_left : (f g : List ℕ) (i : ℕ) → min (length f) (length g) ≤ i → Dec (length f ≤ i) → Past f (rows_from g (i * 8) ((length g - i) * 8))
unfolding rows_from
rows_left f g i h (yes l) =
    let n = i * 8 + (length g - i) * 8 in
    rising_past f (i * 8) n (rows_from g (i * 8) ((length g - i) * 8)) (omega arith) (rows_from_rising g (i * 8) n (i * 8) ((length g - i) * 8) (omega arith) (omega arith))
rows_left f g i h (no l) =
    let e : (length g - i) * 8 ≡ 0 = omega arith in
    rw e tt

pub rows_done : (f g : List ℕ) (i : ℕ) → min (length f) (length g) ≤ i → Past f (rows_from g (i * 8) ((length g - i) * 8))
rows_done f g i h = rows_left f g i h (dec_le (length f) i)
