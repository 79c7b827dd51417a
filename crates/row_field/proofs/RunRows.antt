-- The rows of a run, byte by byte.
use Prim.Native.Nat.{ℕ, zero, suc, ◌+◌, ◌-◌, ◌*◌, ◌/◌, ◌%◌, ◌^◌, ◌<◌, ◌≤◌, min}
use mathlib.Core.Path.{◌≡◌, refl, sym, ◌∙◌, subst}
use mathlib.Core.Bool.{Bool, false, not, ◌||◌}
use mathlib.Core.List.{List, [], ◌++◌, append-nil}
use native.Mathlib.Nat.{pow-suc, zero-add, add-zero, suc-add, mul-one, sub-zero, mod-eq_of_lt}
use native.Mathlib.Decide.{dec_le}
use native.Mathlib.Omega.{arith}
use lib.Dec.{eqb}
use lib.ListN.{length, get_or, set}
use lib.Pow.{pow_pos, high_ones}
use lib.Bits.{bit_or, bit_and, shifted_half, shifted_even, or_add_and, and_mask}
use Rattle.row_field.specs.Meaning.{mark_all, any_set, up_to}
use Rattle.row_field.specs.Promises.{any_seen, byte_rows, MarkedRows, MarkedInTurn}
use Rattle.row_field.proofs.RowLists.{up_to_rising, up_to-append}
use Rattle.row_field.proofs.Marks.{Past, mark_all-append, rising_past, any_set-past, mark_all-past}
use Rattle.row_field.proofs.Loops.{Marks, at_once, marks_first, marks_part, marks_past, marks_done}
use Rattle.row_field.proofs.ByteRows.{byte_rows_odd, byte_rows_even, byte_rows_rising, byte_marked}

-- ---- the rows of bits in a row

no_rows : (a k : ℕ) → byte_rows 0 a k ≡ []
unfolding byte_rows
no_rows a zero = refl
no_rows a (suc k) = no_rows (a + 1) k

all-rows : (a c k : ℕ) → byte_rows (2 ^ c - 1) a (c + k) ≡ up_to a c
unfolding up_to
all-rows a zero k = rw zero-add (no_rows a k)
all-rows a (suc c) k =
    let p = pow_pos c in
    let q = pow-suc 2 c in
    let o : (2 ^ suc c - 1) % 2 ≡ 1 = omega arith in
    let h : (2 ^ suc c - 1) / 2 ≡ 2 ^ c - 1 = omega arith in
    rw (suc-add c k, byte_rows_odd (2 ^ suc c - 1) a (c + k) o, h, all-rows (a + 1) c k)

pub later_rows : (y a l k : ℕ) → byte_rows (y * 2 ^ l) a (l + k) ≡ byte_rows y (a + l) k
later_rows y a zero k = rw (zero-add, add-zero, mul-one)
later_rows y a (suc l) k =
    let e : a + 1 + l ≡ a + suc l = omega arith in
    rw (suc-add l k, byte_rows_even (y * 2 ^ suc l) a (l + k) (shifted_even y l), shifted_half y l, later_rows y (a + 1) l k, e)

-- none of them stands past the lowest c
pub few_rows : (y a c k : ℕ) → y < 2 ^ c → byte_rows y a (c + k) ≡ byte_rows y a c
unfolding byte_rows
few_rows y a zero k h =
    let e : y ≡ 0 = omega arith in
    rw (zero-add, e) (no_rows a k)
few_rows y a (suc c) k h =
    let g = rw pow-suc at h in
    rw (suc-add c k, few_rows (y / 2) (a + 1) c k (omega arith))

between_rows : (a low high : ℕ) → low ≤ high → high < 8 → byte_rows (2 ^ (high + 1) - 2 ^ low) a 8 ≡ up_to (a + low) (high + 1 - low)
between_rows a low high h g =
    let c = high + 1 - low in
    let k = 7 - high in
    let e : c + low ≡ high + 1 = omega arith in
    let n : 8 ≡ low + (c + k) = omega arith in
    let b : 2 ^ (high + 1) - 2 ^ low ≡ (2 ^ c - 1) * 2 ^ low = subst (λ (x : ℕ). 2 ^ x - 2 ^ low ≡ (2 ^ c - 1) * 2 ^ low) e (high_ones c low) in
    rw (b, n, later_rows (2 ^ c - 1) a low (c + k), all-rows (a + low) c k)

-- ---- the rows of whole bytes

pub bytes_next : (to i : ℕ) → i < to → up_to (i * 8) ((to - i) * 8) ≡ byte_rows 255 (i * 8) 8 ++ up_to ((i + 1) * 8) ((to - (i + 1)) * 8)
bytes_next to i h =
    let e : (to - i) * 8 ≡ 8 + (to - (i + 1)) * 8 = omega arith in
    let d : i * 8 + 8 ≡ (i + 1) * 8 = omega arith in
    rw (e, up_to-append (i * 8) 8 ((to - (i + 1)) * 8), d, all-rows (i * 8) 8 0)

-- rows from one past the end on
pub up_to-past : (f : List ℕ) (a k : ℕ) → length f * 8 ≤ a → Past f (up_to a k)
up_to-past f a k h = rising_past f a (a + k) (up_to a k) h (up_to_rising a (a + k) a k (omega arith) (omega arith))

-- nothing is left that the field has
bytes_left : (f : List ℕ) (to i : ℕ) → min (length f) to ≤ i → Dec (length f ≤ i) → Past f (up_to (i * 8) ((to - i) * 8))
unfolding up_to
bytes_left f to i h (yes l) = up_to-past f (i * 8) ((to - i) * 8) (omega arith)
bytes_left f to i h (no l) =
    let e : (to - i) * 8 ≡ 0 = omega arith in
    rw e tt

pub bytes_done : (f : List ℕ) (to i : ℕ) → min (length f) to ≤ i → Past f (up_to (i * 8) ((to - i) * 8))
bytes_done f to i h = bytes_left f to i h (dec_le (length f) i)

-- a byte that is filled has all its rows marked, whatever it was, and one of them was set exactly if it was not 0
or-full : (x : ℕ) → x < 256 → bit_or x 255 ≡ 255
or-full x h = omega (arith, or_add_and x 255, and_mask x 8, mod-eq_of_lt h)

and-full : (x : ℕ) → x < 256 → bit_and x 255 ≡ x
and-full x h = and_mask x 8 ∙ mod-eq_of_lt h

pub full_marked : (f : List ℕ) (i : ℕ) → i < length f → get_or f i 0 < 256 → {v : ℕ} → v ≡ 255
    → MarkedInTurn f (set f i v) (byte_rows 255 (i * 8) 8) (not (eqb (get_or f i 0) 0))
full_marked f i l b e = rw e (rw (or-full (get_or f i 0) b, and-full (get_or f i 0) b) at (byte_marked f i 255 l (omega arith)))

pub fill_next : (f : List ℕ) (to i : ℕ) → i < to → i < length f → get_or f i 0 < 256 → {v : ℕ} → v ≡ 255
    → mark_all (set f i v) (up_to ((i + 1) * 8) ((to - (i + 1)) * 8)) ≡ mark_all f (up_to (i * 8) ((to - i) * 8))
fill_next f to i h l b {v} e =
    let m : set f i v ≡ mark_all f (byte_rows 255 (i * 8) 8) = (full_marked f i l b e).marked in
    rw (bytes_next to i h, mark_all-append f (byte_rows 255 (i * 8) 8) (up_to ((i + 1) * 8) ((to - (i + 1)) * 8)), m)

-- ---- a run: within one byte, or in a first byte, whole bytes and a last byte

abbrev pub run : ℕ → ℕ → List ℕ
run a z = up_to a (z + 1 - a)

abbrev pub head : ℕ → List ℕ
head a = byte_rows (2 ^ 8 - 2 ^ (a % 8)) (a / 8 * 8) 8

abbrev pub middle : ℕ → ℕ → List ℕ
middle a z = up_to ((a / 8 + 1) * 8) ((z / 8 - (a / 8 + 1)) * 8)

abbrev pub tail : ℕ → List ℕ
tail z = byte_rows (2 ^ (z % 8 + 1) - 2 ^ 0) (z / 8 * 8) 8

module _ (a z : ℕ) (h : a ≤ z) where
  pub run-one : a / 8 ≡ z / 8 → run a z ≡ byte_rows (2 ^ (z % 8 + 1) - 2 ^ (a % 8)) (a / 8 * 8) 8
  run-one e =
      let s : a / 8 * 8 + a % 8 ≡ a = omega arith in
      let n : z % 8 + 1 - a % 8 ≡ z + 1 - a = omega arith in
      sym (between_rows (a / 8 * 8) (a % 8) (z % 8) (omega arith) (omega arith) ∙ rw (s, n))

  pub run_parts : a / 8 < z / 8 → run a z ≡ head a ++ (middle a z ++ tail z)
  run_parts l =
      let m = (z / 8 - (a / 8 + 1)) * 8 in
      let s : a / 8 * 8 + a % 8 ≡ a = omega arith in
      let b : byte_rows (2 ^ 8 - 2 ^ (a % 8)) (a / 8 * 8) 8 ≡ up_to a (8 - a % 8) = rw s at (between_rows (a / 8 * 8) (a % 8) 7 (omega arith) (omega arith)) in
      let e : byte_rows (2 ^ (z % 8 + 1) - 2 ^ 0) (z / 8 * 8) 8 ≡ up_to (z / 8 * 8) (z % 8 + 1) = between_rows (z / 8 * 8) 0 (z % 8) (omega arith) (omega arith) ∙ rw (add-zero, sub-zero) in
      let k : z + 1 - a ≡ (8 - a % 8) + (m + (z % 8 + 1)) = omega arith in
      let p : a + (8 - a % 8) ≡ (a / 8 + 1) * 8 = omega arith in
      let q : (a / 8 + 1) * 8 + m ≡ z / 8 * 8 = omega arith in
      rw (b, e, k, up_to-append a (8 - a % 8) (m + (z % 8 + 1)), p, up_to-append ((a / 8 + 1) * 8) m (z % 8 + 1), q)

-- ---- what the code computes of a run, said by the definitions

module _ (f : List ℕ) (a k : ℕ) where
  pub rows_none : k ≡ 0 → MarkedRows f f (up_to a k) false
  unfolding up_to any_set mark_all
  rows_none e = record { seen = rw e; marked = rw e }

  pub rows_out : length f ≤ a / 8 → MarkedRows f f (up_to a k) false
  rows_out l =
      let r = up_to-past f a k (omega arith) in
      record { seen = sym (any_set-past f (up_to a k) r); marked = sym (mark_all-past f (up_to a k) r) }

module _ {f g : List ℕ} {r : Bool} (a k : ℕ) where
  pub rows_at_once : MarkedInTurn f g (up_to a k) r → MarkedRows f g (up_to a k) r
  rows_at_once m = at_once a (a + k) (up_to_rising a (a + k) a k (omega arith) (omega arith)) m

-- a byte's bits by another name
pub bits_as : {f g : List ℕ} {r : Bool} {x y : ℕ} (a : ℕ) → x ≡ y → MarkedInTurn f g (byte_rows x a 8) r → MarkedInTurn f g (byte_rows y a 8) r
bits_as a e m = rw (← e) m

-- a last byte past the end
pub tail-past : (g : List ℕ) (z : ℕ) → length g ≤ z / 8 → Past g (tail z)
tail-past g z l =
    let n = z / 8 * 8 + 8 in
    rising_past g (z / 8 * 8) n (tail z) (omega arith) (byte_rows_rising (2 ^ (z % 8 + 1) - 2 ^ 0) (z / 8 * 8) n (z / 8 * 8) 8 (omega arith) (omega arith))

-- what is marked, and nothing told of it
pub untold : {f g : List ℕ} (rows : List ℕ) → g ≡ mark_all f rows → MarkedInTurn f g rows (any_seen f rows)
untold rows m = record { seen = refl; marked = m }

-- a first byte, whole bytes and a last byte, one after the other
module _ (a z : ℕ) (l : a / 8 < z / 8) {f g m : List ℕ} {x : ℕ} {was whole : Bool} (bits : x ≡ 2 ^ 8 - 2 ^ (a % 8))
    (first : MarkedInTurn f g (byte_rows x (a / 8 * 8) 8) was) (then : MarkedInTurn g m (middle a z) whole) where
  tail_left : Marks (run a z) f (tail z) m (was || whole)
  tail_left =
      marks_part (marks_part (marks_first (run a z) f) (run_parts a z (omega arith) l) (bits_as (a / 8 * 8) bits first)) refl then

  -- the field ends before the last byte
  pub run_cut : length m ≤ z / 8 → MarkedRows f m (run a z) (was || whole)
  run_cut h = rows_at_once a (z + 1 - a) (marks_past tail_left (tail-past m z h))

  pub run_whole : {n : List ℕ} {y : ℕ} {last : Bool} → y ≡ 2 ^ (z % 8 + 1) - 2 ^ 0 → MarkedInTurn m n (byte_rows y (z / 8 * 8) 8) last
      → MarkedRows f n (run a z) ((was || whole) || last)
  run_whole e t = rows_at_once a (z + 1 - a) (marks_done (marks_part tail_left (sym (append-nil (tail z))) (bits_as (z / 8 * 8) e t)) refl)
