-- What the contracts say, in the reading's terms.
use Rattle.std.specs.Prelude.{ℕ, ◌*◌, ◌<◌, ◌≤◌, ◌≡◌, Bool, true, false, List, length, drop, Option, Some, None, Err, Ok}
use Rattle.row_field.specs.Meaning.{mark_all, cleared, above, Below}
use Rattle.window.specs.Meaning.{rows_in_window}
use Rattle.roaring.specs.Reading.{Parsed, read}
use Rattle.deletion_window.specs.declared.Indexed.{Indexed}
use Rattle.deletion_window.specs.Layout.{index_size, index_end, index_rows}
use Rattle.deletion_window.specs.Reading.{wrong, indexed_bitmap, rows64}

-- ---- a bitmap of a 64-bit bin

-- what was found at the front of s, right behind an index of at least lo, what is read there, and what is left behind it
pub record FoundBitmap (lo : ℕ) (s : List ℕ) (x : Indexed) : Type 0 where
  pub bitmap : Parsed
  pub is_read : read x.bitmap.now ≡ Ok bitmap
  pub so : indexed_bitmap lo s ≡ Ok (record { index = x.index; rows = above (x.index * index_rows) bitmap.rows; behind = x.behind.now })
  pub below : x.index < index_end
  pub starts : x.bitmap.now ≡ drop index_size s
  pub ends : (long : ℕ) × (long ≤ length x.bitmap.now) × (x.behind.now ≡ drop long x.bitmap.now)

-- `next_bitmap`: none where that is refused, or what was found
abbrev pub FindsIndexed : ℕ → List ℕ → Option Indexed → Type 0
FindsIndexed lo s None = indexed_bitmap lo s ≡ Err wrong
FindsIndexed lo s (Some x) = FoundBitmap lo s x

-- `mark_each`: all rows of the window are marked; or, where the bin is refused, some rows below n, which are the program's choice
abbrev pub MarksEach : ℕ → ℕ → List ℕ → List ℕ → List ℕ → Bool → Type 0
MarksEach first n bytes before after true = (rows : List ℕ) × (rows64 bytes ≡ Ok rows) × (after ≡ mark_all before (rows_in_window first n rows))
MarksEach first n bytes before after false = (rows64 bytes ≡ Err wrong) × ((some : List ℕ) × Below n some × (after ≡ mark_all before some))

-- ---- the field

-- the field for n rows is zero
abbrev pub IsClear : ℕ → List ℕ → Type 0
IsClear n field = cleared n field ≡ field
