-- Laws of bits that are moved: in turn, rising, past a part's end, of a part of a field, and seen through a window.
use Prim.Native.Nat.{ℕ, zero, suc, ◌+◌, ◌-◌, ◌*◌, ◌/◌, ◌%◌, ◌<◌, ◌≤◌, min}
use mathlib.Core.Path.{◌≡◌, refl, ◌∙◌}
use mathlib.Core.Bool.{Bool, true, false, cond}
use mathlib.Core.List.{List, ◌∷◌, ◌++◌, append-nil}
use native.Mathlib.Nat.{zero-add, add-zero, suc-add, sub_self, min-eq_left}
use native.Mathlib.Decide.{dec_le}
use native.Mathlib.Omega.{arith}
use lib.ListN.{length, take, drop}
use lib.Seq.{get_or-take, get_or-drop}
use Rattle.row_field.specs.Meaning.{bit, above, Rising, rows_from, rows_of}
use Rattle.row_field.proofs.RowLists.{rising_cond, cond-append, rows_from-append, rows_from_rising}
use Rattle.row_field.proofs.Marks.{Past, rising_past}
use Rattle.window.specs.declared.Window.{Window}
use Rattle.window.specs.Meaning.{windowed}
use Rattle.window.specs.Promises.{moved}
use Rattle.window.proofs.Windows.{windowed_in, windowed-append, all-low, all-high}

-- ---- in turn

pub moved-append : (f : List ℕ) (from to j k : ℕ) → moved f from to (j + k) ≡ moved f from to j ++ moved f (from + j) (to + j) k
unfolding moved
moved-append f from to zero k = rw (zero-add k, add-zero from, add-zero to)
moved-append f from to (suc j) k =
    let a : from + 1 + j ≡ from + suc j = omega arith in
    let b : to + 1 + j ≡ to + suc j = omega arith in
    rw (suc-add j k, moved-append f (from + 1) (to + 1) j k, a, b)
    (cond-append (bit f from) to (moved f (from + 1) (to + 1) j) (moved f (from + suc j) (to + suc j) k))

pub moved_rising : (f : List ℕ) (from lo hi to k : ℕ) → lo ≤ to → to + k ≤ hi → Rising lo hi (moved f from to k)
unfolding moved
moved_rising f from lo hi to zero h l = tt
moved_rising f from lo hi to (suc k) h l =
    rising_cond (bit f from) lo hi to (moved f (from + 1) (to + 1) k) h (omega arith) (moved_rising f (from + 1) (to + 1) hi (to + 1) k (omega arith) (omega arith))

-- to bits that the field p does not have
pub moved-past : (p f : List ℕ) (from to k : ℕ) → length p * 8 ≤ to → Past p (moved f from to k)
moved-past p f from to k h = rising_past p to (to + k) (moved f from to k) h (moved_rising f from to (to + k) to k (omega arith) (omega arith))

-- ---- the same bits of another field, and of all of it

pub moved_same : (f g : List ℕ) (a b to k : ℕ) → ((j : ℕ) → j < k → bit f (a + j) ≡ bit g (b + j)) → moved f a to k ≡ moved g b to k
unfolding moved
moved_same f g a b to zero e = refl
moved_same f g a b to (suc k) e =
    let first : bit f a ≡ bit g b = rw (add-zero a, add-zero b) at (e 0 (omega arith)) in
    let next : (x j : ℕ) → x + suc j ≡ x + 1 + j = λ x j. omega arith in
    rw (first, moved_same f g (a + 1) (b + 1) (to + 1) k (λ j h. rw (next a j, next b j) at (e (suc j) (omega arith))))

-- of n bytes from byte a on
pub moved-part : (f : List ℕ) (a n s to k : ℕ) → s + k ≤ n * 8 → moved (take n (drop a f)) s to k ≡ moved f (a * 8 + s) to k
unfolding bit
moved-part f a n s to k h =
    moved_same (take n (drop a f)) f s (a * 8 + s) to k
    (λ j l.
    let d : (a * 8 + s + j) / 8 ≡ a + (s + j) / 8 = omega arith in
    let m : (a * 8 + s + j) % 8 ≡ (s + j) % 8 = omega arith in
    rw (d, m, get_or-take n (drop a f) ((s + j) / 8) 0 (omega arith), get_or-drop a f ((s + j) / 8) 0))

-- counted from a base on
above-cond : (b : Bool) (d v : ℕ) (vs : List ℕ) → above d (cond b (v ∷ vs) vs) ≡ cond b ((d + v) ∷ above d vs) (above d vs)
above-cond true d v vs = refl
above-cond false d v vs = refl

pub moved-above : (f : List ℕ) (d from to k : ℕ) → above d (moved f from to k) ≡ moved f from (d + to) k
unfolding moved
moved-above f d from to zero = refl
moved-above f d from to (suc k) =
    let e : d + (to + 1) ≡ d + to + 1 = omega arith in
    above-cond (bit f from) d to (moved f (from + 1) (to + 1) k) ∙ rw (moved-above f d (from + 1) (to + 1) k, e)

-- the rows of a field are its bits where they stand
pub rows-moved : (f : List ℕ) (a k : ℕ) → rows_from f a k ≡ moved f a a k
unfolding rows_from moved
rows-moved f a zero = refl
rows-moved f a (suc k) = rw (rows-moved f (a + 1) k)

-- ---- in three parts: those that stand in the first byte behind others, whole bytes, and what is left

filled_up : (shift head at : ℕ) → shift < 8 → head ≡ (8 - shift) % 8 → at ≡ (shift + 8 - 1) / 8 → shift + head ≡ at * 8
filled_up shift head at s h a = omega arith

ends_inside : (low end head free : ℕ) → low ≤ end → head ≡ min free (end - low) → (free ≤ end - low → ⊥) → low + head ≡ end
ends_inside low end head free o h l = omega arith

module _ (g : List ℕ) (low shift end head at count : ℕ) (o : low ≤ end) (s : shift < 8)
    (h : head ≡ min ((8 - shift) % 8) (end - low)) (a : at ≡ (shift + 8 - 1) / 8) (c : count ≡ (end - (low + head)) / 8) where
  abbrev rest : ℕ
  rest = low + head + 8 * count

  -- the first byte is filled up; or the window ends inside it, and nothing is left
  parts_go : Dec ((8 - shift) % 8 ≤ end - low)
      → moved g (low + head) (shift + head) (count * 8 + (end - rest)) ≡ moved g (low + head) (at * 8) (count * 8) ++ moved g rest ((at + count) * 8 + 0) (end - rest)
  unfolding moved
  parts_go (yes l) =
      let f : head ≡ (8 - shift) % 8 = h ∙ min-eq_left l in
      let e : shift + head ≡ at * 8 = filled_up shift head at s f a in
      let x : low + head + count * 8 ≡ rest = omega arith in
      let y : at * 8 + count * 8 ≡ (at + count) * 8 + 0 = omega arith in
      rw e (moved-append g (low + head) (at * 8) (count * 8) (end - rest) ∙ rw (x, y))
  parts_go (no l) =
      let e : low + head ≡ end = ends_inside low end head ((8 - shift) % 8) o h l in
      let x : count ≡ 0 = c ∙ rw (e, sub_self) in
      let y : end - rest ≡ 0 = omega arith in
      rw (y, x)

  pub moved_parts : moved g low shift (end - low)
      ≡ moved g low (0 * 8 + shift) head ++ (moved g (low + head) (at * 8) (count * 8) ++ moved g rest ((at + count) * 8 + 0) (end - rest))
  moved_parts =
      let n : end - low ≡ head + (count * 8 + (end - rest)) = omega arith in
      let z : 0 * 8 + shift ≡ shift = omega arith in
      rw (n, z, moved-append g low shift head (count * 8 + (end - rest)), parts_go (dec_le ((8 - shift) % 8) (end - low)))

-- ---- through a window

-- a row that counts, if it is set
windowed-cond : (w : Window) (b : Bool) (v : ℕ) (vs : List ℕ) → w.low ≤ v → v < w.end
    → windowed w (cond b (v ∷ vs) vs) ≡ cond b ((v - w.low + w.shift) ∷ windowed w vs) (windowed w vs)
windowed-cond w true v vs h l = windowed_in w v vs h l
windowed-cond w false v vs h l = refl

counted : (w : Window) (g : List ℕ) (v k : ℕ) → w.low ≤ v → v + k ≤ w.end → windowed w (rows_from g v k) ≡ moved g v (v - w.low + w.shift) k
unfolding windowed rows_from moved
counted w g v zero h l = refl
counted w g v (suc k) h l =
    let e : v + 1 - w.low + w.shift ≡ v - w.low + w.shift + 1 = omega arith in
    windowed-cond w (bit g v) v (rows_from g (v + 1) k) h (omega arith) ∙ rw (counted w g (v + 1) k (omega arith) (omega arith), e)

pub windowed-bits : (w : Window) (g : List ℕ) → w.low ≤ w.end → w.end ≤ length g * 8 → windowed w (rows_of g) ≡ moved g w.low w.shift (w.end - w.low)
windowed-bits w g h l =
    let low : ℕ = w.low in
    let n : ℕ = w.end - low in
    let m : ℕ = length g * 8 - w.end in
    let size : length g * 8 ≡ low + (n + m) = omega arith in
    let z : 0 + low ≡ low = omega arith in
    let e : low + n ≡ w.end = omega arith in
    let at : low - low + w.shift ≡ w.shift = omega arith in
    let below = all-low w 0 low (rows_from g 0 low) (rows_from_rising g 0 low 0 low (omega arith) (omega arith)) (omega arith) in
    let past = all-high w w.end (w.end + m) (rows_from g w.end m) (rows_from_rising g w.end (w.end + m) w.end m (omega arith) (omega arith)) (omega arith) in
    let within = counted w g low n (omega arith) (omega arith) in
    rw (
      size,
      rows_from-append g 0 low (n + m),
      z,
      rows_from-append g low n m,
      e,
      windowed-append w (rows_from g 0 low) (rows_from g low n ++ rows_from g w.end m),
      windowed-append w (rows_from g low n) (rows_from g w.end m),
      below,
      past,
      within,
      at,
    ) (append-nil (moved g low w.shift n))
