-- What merging bits marks: within a byte, and in a part that is lent.
use Prim.Native.Nat.{ℕ, ◌+◌, ◌-◌, ◌*◌, ◌/◌, ◌%◌, ◌^◌, ◌<◌, ◌≤◌, min}
use mathlib.Core.Path.{◌≡◌, refl, sym, ◌∙◌}
use mathlib.Core.Bool.{Bool, false, ◌||◌}
use mathlib.Core.List.{List, append-nil}
use native.Mathlib.Nat.{add-zero}
use native.Mathlib.Decide.{dec_le}
use native.Mathlib.Omega.{arith}
use lib.ListN.{length, take, drop, length-take, length-drop}
use borrow.Rule.Slice.PartMut.{mid_of, put_mid}
use Rattle.numbers.specs.Meaning.{Bytes}
use Rattle.row_field.specs.Meaning.{above, Rising, rows_of}
use Rattle.row_field.specs.Promises.{byte_rows, MarkedRows, MarkedInTurn}
use Rattle.row_field.proofs.RowLists.{rising_below, above_rising, rows_of_rising}
use Rattle.row_field.proofs.Marks.{Past, any_seen_rising, part_marked, part-set}
use Rattle.row_field.proofs.Loops.{in_turn_lem, marks_first, marks_part, marks_past, marks_done}
use Rattle.window.specs.declared.Window.{Window}
use Rattle.window.specs.Meaning.{windowed}
use Rattle.window.specs.Promises.{eight_from, moved}
use Rattle.window.proofs.Moved.{moved_rising, moved-past, moved-part, moved-above, rows-moved, moved_parts, windowed-bits}
use Rattle.window.proofs.ByteShifts.{within_byte}

-- ---- within a byte

module _ (f g : List ℕ) (at v c s : ℕ) where
  pub within_none : c ≡ 0 → MarkedInTurn f f (moved g v (at * 8 + s) c) false
  unfolding moved
  within_none z = marks_done (marks_first (moved g v (at * 8 + s) c) f) (rw z)

  pub within_past : length f ≤ at → MarkedInTurn f f (moved g v (at * 8 + s) c) false
  within_past h = marks_past (marks_first (moved g v (at * 8 + s) c) f) (moved-past f g v (at * 8 + s) c (omega arith))

  pub within_marked : Bytes g → s + c ≤ 8 → {eight low : ℕ} {f' : List ℕ} {was : Bool} → eight ≡ eight_from g v → low ≡ eight % 2 ^ c
      → MarkedInTurn f f' (byte_rows (low * 2 ^ s % 256) (at * 8) 8) was → MarkedInTurn f f' (moved g v (at * 8 + s) c) was
  within_marked b h e l m = rw (← within_byte g b v (at * 8) c s h, ← e, ← l) m

-- ---- in n bytes, each from two: nothing is left that the part has

shifted-left : (f g : List ℕ) (n s i : ℕ) → min (length f) n ≤ i → Dec (length f ≤ i) → Past f (moved g (i * 8 + s) (i * 8) ((n - i) * 8))
unfolding moved
shifted-left f g n s i h (yes l) = moved-past f g (i * 8 + s) (i * 8) ((n - i) * 8) (omega arith)
shifted-left f g n s i h (no l) =
    let e : (n - i) * 8 ≡ 0 = omega arith in
    rw e tt

pub shifted_done : (f g : List ℕ) (n s i : ℕ) → min (length f) n ≤ i → Past f (moved g (i * 8 + s) (i * 8) ((n - i) * 8))
shifted_done f g n s i h = shifted-left f g n s i h (dec_le (length f) i)

-- n bytes, from the one on that bit v is in
abbrev bytes : List ℕ → ℕ → ℕ → List ℕ
bytes g v n = take n (drop (v / 8) g)

bytes_long : (g : List ℕ) (v n : ℕ) → v / 8 + n ≤ length g → length (bytes g v n) ≡ n
bytes_long g v n h = simp (length-take, length-drop) (omega arith)

-- ---- in k bytes from byte a on, which are lent as far as they go

module _ (f : List ℕ) (a k from to : ℕ) (p : from ≡ min a (length f)) (q : to ≡ min (a + k) (length f)) where
  pub lent_marked : (vs : List ℕ) → Rising 0 (k * 8) vs → {part : List ℕ} {was : Bool} → MarkedInTurn (mid_of from (to - from) f) part vs was
      → MarkedInTurn f (put_mid from (to - from) f part) (above (a * 8) vs) was
  lent_marked vs s m =
      let b = rising_below 0 (k * 8) vs s in
      record {
        seen = m.seen ∙ any_seen_rising (mid_of from (to - from) f) 0 (k * 8) vs s ∙ sym (part-set f vs a k from to b p q)
            ∙ sym (any_seen_rising f (a * 8 + 0) (a * 8 + k * 8) (above (a * 8) vs) (above_rising (a * 8) 0 (k * 8) vs s));
        marked = rw m.marked (sym (part_marked f vs a k from to b p q));
      }

  -- bits of a part of a field
  module _ (g : List ℕ) (v : ℕ) {part : List ℕ} {was : Bool} where
    pub bits_marked : (n : ℕ) → v % 8 + k * 8 ≤ n * 8 → MarkedInTurn (mid_of from (to - from) f) part (moved (bytes g v n) (v % 8) 0 (k * 8)) was
        → MarkedInTurn f (put_mid from (to - from) f part) (moved g v (a * 8) (k * 8)) was
    bits_marked n h m =
        let vs = moved (bytes g v n) (v % 8) 0 (k * 8) in
        let e : v / 8 * 8 + v % 8 ≡ v = omega arith in
        rw (moved-above (bytes g v n) (a * 8) (v % 8) 0 (k * 8), add-zero, moved-part g (v / 8) n (v % 8) (a * 8) (k * 8) h, e)
        at (lent_marked vs (moved_rising (bytes g v n) (v % 8) 0 (k * 8) 0 (k * 8) (omega arith) (omega arith)) m)

    -- none is shifted
    pub aligned_marked : (n : ℕ) → n ≡ k → v / 8 + n ≤ length g → v % 8 ≡ 0 → MarkedRows (mid_of from (to - from) f) part (rows_of (bytes g v n)) was
        → MarkedInTurn f (put_mid from (to - from) f part) (moved g v (a * 8) (k * 8)) was
    aligned_marked n e h z m =
        let long : length (bytes g v n) ≡ k = bytes_long g v n h ∙ e in
        let t = in_turn_lem 0 (length (bytes g v n) * 8) (rows_of_rising (bytes g v n)) m in
        bits_marked n (omega arith) (rw z (rw (rows-moved (bytes g v n) 0 (length (bytes g v n) * 8), long) at t))

    -- each byte is of two, so there is one more
    pub shifted_marked : (n : ℕ) → n ≡ k + 1 → v / 8 + n ≤ length g
        → MarkedInTurn (mid_of from (to - from) f) part (moved (bytes g v n) (v % 8) 0 ((length (bytes g v n) - 1) * 8)) was
        → MarkedInTurn f (put_mid from (to - from) f part) (moved g v (a * 8) (k * 8)) was
    shifted_marked n e h m =
        let long : length (bytes g v n) - 1 ≡ k = omega (arith, bytes_long g v n h) in
        bits_marked n (omega arith) (rw long at m)

-- ---- in three parts, one after the other

module _ (w : Window) (g : List ℕ) (head : ℕ) where
  abbrev byte : ℕ
  byte = (w.shift + 8 - 1) / 8

  abbrev next : ℕ
  next = w.low + head

  abbrev count : ℕ
  count = (w.end - next) / 8

  abbrev left : ℕ
  left = next + 8 * count

  pub window_marked : w.low ≤ w.end → w.end ≤ length g * 8 → w.shift < 8 → head ≡ min ((8 - w.shift) % 8) (w.end - w.low)
      → {f f₁ f₂ f₃ : List ℕ} {was₁ was₂ was₃ : Bool} → MarkedInTurn f f₁ (moved g w.low (0 * 8 + w.shift) head) was₁
      → MarkedInTurn f₁ f₂ (moved g next (byte * 8) (count * 8)) was₂ → MarkedInTurn f₂ f₃ (moved g left ((byte + count) * 8 + 0) (w.end - left)) was₃
      → MarkedInTurn f f₃ (windowed w (rows_of g)) ((was₁ || was₂) || was₃)
  window_marked o l s h {f} x y z =
      let parts = windowed-bits w g o l ∙ moved_parts g w.low w.shift w.end head byte count o s h refl refl in
      let whole = marks_first (windowed w (rows_of g)) f in
      marks_done (marks_part (marks_part (marks_part whole parts x) refl y) (sym (append-nil (moved g left ((byte + count) * 8 + 0) (w.end - left)))) z) refl
