-- Placing rows: what measuring and marking answer, put into the reading, and that no byte behind a field of n rows changes.
use Prim.Native.Nat.{ℕ, ◌+◌, ◌-◌, ◌<◌, ◌≤◌}
use mathlib.Core.Path.{◌≡◌, refl, sym, ap, ◌∙◌}
use mathlib.Core.Bool.{Bool, true, false}
use mathlib.Core.List.{List, []}
use native.Mathlib.Omega.{arith}
use lib.Dec.{leb}
use lib.IntN.{ℤ, pos, negsuc}
use lib.ListN.{length, take, drop, length-drop, drop_of_length-le}
use lib.Seq.{take_all, take-nil}
use mir.Syntax.{w32}
use mir.Val.{SFits, to_z, of_z}
use borrow.Author.Tests.{lt-ltb, le-ltb, le-leb, lt-leb, eq-eqb, ne_eqb}
use Rattle.numbers.specs.Meaning.{Bytes, number, minus_one_32}
use Rattle.numbers.proofs.ByteLists.{bytes_drop}
use Rattle.refusal.specs.declared.Refusal.{Refusal}
use Rattle.refusal.specs.declared.Refusal.TheVariants.{Bitmap, Range, Twice}
use Rattle.std.specs.Prelude.{Result, Err, Ok}
use Rattle.refusal.specs.Reading.{check, and_then, refused_as}
use Rattle.row_field.specs.Meaning.{bit, mark, any_set, cleared, size, count}
use Rattle.row_field.specs.Promises.{MarkedRows}
use Rattle.row_field.proofs.RowLists.{rising_below}
use Rattle.row_field.proofs.Counts.{count-mark}
use Rattle.row_field.proofs.Fronts.{cleared-mark, cleared_marks}
use Rattle.roaring.specs.declared.Extent.{Extent}
use Rattle.roaring.specs.declared.Extent.TheVariants.{AsLong, Exactly}
use Rattle.roaring.specs.declared.Broken.{Broken}
use Rattle.roaring.specs.declared.Shape.{Shape}
use Rattle.roaring.specs.Reading.{Fault, unsound, Parsed, read, measured, end_of, rows_read}
use Rattle.roaring.specs.Promises.{MeasurePromise, SoundBelow}
use Rattle.roaring.proofs.Measuring.{not_sound, is_sound, rows-measured, measured-sound}
use Rattle.bitmap_index.specs.Reading.{extent_said, bitmap_placed, entry_placed}
use Rattle.bitmap_index.specs.Promises.{Places, place_of}
use Rattle.numbers.specs.declared.Position.{Position}
use Rattle.numbers.specs.declared.Row.{Row}
use Rattle.bitmap_index.specs.declared.Place.{Place}
use Rattle.bitmap_index.specs.declared.Place.TheVariants.{Single}
use Rattle.bitmap_index.proofs.Offsets.{is_single, is_bitmap}
use Rattle.bitmap_index.proofs.PlacedRows.{count_besides, measured_rise}

-- ---- a single row

module _ (entry r n : ℕ) (f : List ℕ) where
  pub row_range : n ≤ r → Places n (entry_placed entry (negsuc r) 0 n []) f f (Err (Range entry))
  unfolding entry_placed check
  row_range h = record { outcome = rw (le-ltb r n h); behind = refl }

  module _ (h : r < n) {was : Bool} {after : List ℕ} (b : was ≡ bit f r) (m : after ≡ mark f r) where
    pub row_twice : was ≡ true → Places n (entry_placed entry (negsuc r) 0 n []) f after (Err (Twice entry))
    unfolding entry_placed check
    row_twice t = record { outcome = rw (lt-ltb r n h, ← b, t); behind = rw m (cleared-mark n f r h) }

    pub row_done : size n ≤ length f → was ≡ false → Places n (entry_placed entry (negsuc r) 0 n []) f after (Ok 1)
    unfolding entry_placed check
    row_done room t =
        let e : bit f r ≡ false = sym b ∙ t in
        record { outcome = (rw (lt-ltb r n h, e) (ap Ok (sym m)), rw m (count-mark f r n h (omega arith) e)); behind = rw m (cleared-mark n f r h) }

-- ---- a bitmap

-- a part that goes to the end
pub to_end : (o : ℕ) (s : List ℕ) → take (length s - o) (drop o s) ≡ drop o s
to_end o s = take_all (length s - o) (drop o s) (rw length-drop (omega arith))

pub as_long : (extent : ℕ) → extent ≡ minus_one_32 → AsLong ≡ extent_said extent
unfolding extent_said
as_long extent h = rw (eq-eqb extent minus_one_32 h)

pub exactly : (extent : ℕ) → (extent ≡ minus_one_32 → ⊥) → Exactly extent ≡ extent_said extent
unfolding extent_said
exactly extent h = rw (ne_eqb extent minus_one_32 h)

-- no bitmap stands where there are no bytes
pub none-measured : (extent : Extent) → measured extent [] ≡ Err (unsound 0)
unfolding measured read number check and_then
none-measured AsLong = refl
none-measured (Exactly w) = rw take-nil (go (leb w 0))
  where
    go : (b : Bool) → ◌≡◌ {A = Result Parsed Fault} (check b (unsound 0) (Err (unsound 0))) (Err (unsound 0))
    go true = refl
    go false = refl

module _ (entry o e n : ℕ) (region f : List ℕ) where
  pub behind_region : length region < o → Places n (entry_placed entry (pos o) e n region) f f (Err (Bitmap entry 0))
  unfolding entry_placed bitmap_placed refused_as and_then
  behind_region h =
      let none = drop_of_length-le region (let l : length region ≤ o = omega arith in l) in
      record { outcome = rw (none, none-measured (extent_said e)); behind = refl }

  module _ {bytes : List ℕ} {extent : Extent} {m : Result Shape Broken} (p : bytes ≡ drop o region) (x : extent ≡ extent_said e) (a : MeasurePromise extent bytes m) where
    pub bitmap-unsound : (why : Broken) → m ≡ Err why → Places n (entry_placed entry (pos o) e n region) f f (Err (Bitmap entry why.container))
    unfolding entry_placed bitmap_placed refused_as and_then
    bitmap-unsound why t = let u = not_sound (measured extent bytes) (sym t ∙ a.answer) in record { outcome = rw (← p, ← x, u); behind = refl }

    module _ {found : Shape} (t : m ≡ Ok found) where
      pub bitmap_range : n < found.end → Places n (entry_placed entry (pos o) e n region) f f (Err (Range entry))
      unfolding entry_placed bitmap_placed refused_as and_then check
      bitmap_range l =
          let (b, g, many, last, whole) = is_sound (measured extent bytes) (sym t ∙ a.answer) in
          record { outcome = rw (← p, ← x, g, lt-leb (end_of b.rows) n (rw last at l)); behind = refl }

      module _ (bytes-region : Bytes region) (l : found.end ≤ n) where
        known : Bytes bytes
        known = rw p (bytes_drop o region bytes-region)

        below : end_of (is_sound (measured extent bytes) (sym t ∙ a.answer)).0.rows ≤ n
        below = rw (is_sound (measured extent bytes) (sym t ∙ a.answer)).3 at l

        pub bitmap-sound : SoundBelow n bytes
        bitmap-sound = let (b, g, many, last, whole) = is_sound (measured extent bytes) (sym t ∙ a.answer) in measured-sound extent bytes b known g n below

        module _ {seen : Bool} {after : List ℕ} (w : MarkedRows f after (rows_read (read bytes)) seen) where
          marked : MarkedRows f after (is_sound (measured extent bytes) (sym t ∙ a.answer)).0.rows seen
          marked = let (b, g, many, last, whole) = is_sound (measured extent bytes) (sym t ∙ a.answer) in rw (rows-measured extent bytes b known g) at w

          kept : cleared n after ≡ cleared n f
          kept =
              let (b, g, many, last, whole) = is_sound (measured extent bytes) (sym t ∙ a.answer) in
              rw marked.marked (cleared_marks n f b.rows (rising_below 0 n b.rows (measured_rise extent bytes b known g n below)))

          pub bitmap_twice : seen ≡ true → Places n (entry_placed entry (pos o) e n region) f after (Err (Twice entry))
          unfolding entry_placed bitmap_placed refused_as and_then check
          bitmap_twice s =
              let (b, g, many, last, whole) = is_sound (measured extent bytes) (sym t ∙ a.answer) in
              record { outcome = rw (← p, ← x, g, le-leb (end_of b.rows) n below, ← marked.seen, s); behind = kept }

          pub bitmap_done : size n ≤ length f → seen ≡ false → Places n (entry_placed entry (pos o) e n region) f after (Ok found.rows)
          unfolding entry_placed bitmap_placed refused_as and_then check
          bitmap_done room s =
              let (b, g, many, last, whole) = is_sound (measured extent bytes) (sym t ∙ a.answer) in
              let none : any_set f b.rows ≡ false = sym marked.seen ∙ s in
              let more : count after n ≡ count f n + found.rows =
              ap (λ (y : List ℕ). count y n) marked.marked
              ∙ count_besides f 0 n b.rows (measured_rise extent bytes b known g n below) room none
              ∙ ap (λ (k : ℕ). count f n + k) (sym many) in
              record { outcome = (rw (← p, ← x, g, le-leb (end_of b.rows) n below, none) (ap Ok (sym marked.marked)), more); behind = kept }

-- ---- an entry's rows

module _ (entry : ℕ) (z : ℤ) (e n : ℕ) (region f : List ℕ) (k : SFits w32 z) {r : Result ℕ Refusal} {after : List ℕ} where
  pub as_row : {row : Row} → place_of (to_z w32 (of_z w32 z)) ≡ Single row → Places n (entry_placed entry (negsuc row.0) 0 n []) f after r → Places n (entry_placed entry z e n region) f after r
  unfolding entry_placed
  as_row h p = record { outcome = rw (is_single z k h) p.outcome; behind = p.behind }

  pub as_place : {at : Position} → place_of (to_z w32 (of_z w32 z)) ≡ Place.Bitmap at → Places n (entry_placed entry (pos at.0) e n region) f after r
      → Places n (entry_placed entry z e n region) f after r
  as_place h p = rw (is_bitmap z k h) p
