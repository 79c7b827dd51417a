-- What reading a bin through a window answers for any bytes, and what the buffer holds then ("a first row and a window length n"). The stages stand in the order of Read deletions, without RANGE: LIMIT,
-- ROOM, SHORT for an empty file, VERSION, the walk over all sizes, NOBIN, MAGIC, CHECKSUM, BITMAP.
use Rattle.std.specs.Prelude.{ℕ, zero, suc, ◌+◌, ◌*◌, Bool, cond, List, [], ◌++◌, eqb, leb, ltb, length, drop, Result, Err, Ok}
use Rattle.numbers.specs.Meaning.{le_at, little, number}
use Rattle.refusal.specs.Reading.{check, and_then, refused_as}
use Rattle.refusal.specs.declared.Refusal.{Refusal}
use Rattle.refusal.specs.declared.Refusal.TheVariants.{Magic, Bitmap, Limit, Checksum}
use Rattle.row_field.specs.Meaning.{mark_all, above}
use Rattle.window.specs.Meaning.{rows_in_window}
use Rattle.roaring.specs.declared.Extent.TheVariants.{Exactly}
use Rattle.roaring.specs.Reading.{container_of, read, measured}
use Rattle.deletion_file.specs.Layout.{number_size, Bin}
use Rattle.deletion_file.specs.Reading.{bin_asked_for, begins_with_magic, is_true_checksum, bin_entry, deletions_ready, left_by}
use Rattle.deletion_window.specs.declared.Kind.{Kind}
use Rattle.deletion_window.specs.declared.Kind.TheVariants.{Bits32, Bits64}
use Rattle.deletion_window.specs.Layout.{magic64, count_size, index_size, index_end, index_rows, end_of_all_rows}

-- ---- the rows behind a 64-bit magic

-- "any fault behind the magic is BITMAP, container 0"
abbrev pub wrong : Refusal
wrong = Bitmap bin_entry 0

-- what is read of one index: it, its rows, and what lies behind its bitmap
pub record IndexedRows : Type 0 where
  pub index : ℕ
  pub rows : List ℕ
  pub behind : List ℕ

-- "a 4-byte index .. and a 32-bit bitmap, as long as it is": the index is at least lo and "below 2147483648". "A row is index times 4294967296 plus the low part"
unfoldable pub indexed_bitmap : ℕ → List ℕ → Result IndexedRows Refusal
indexed_bitmap lo s =
    number little index_size (Err wrong) s (λ index s. check (leb lo index) wrong (check (ltb index index_end) wrong
    (and_then (refused_as (λ why. wrong) (read s)) (λ p. Ok (record { index = index; rows = above (index * index_rows) p.rows; behind = p.behind })))))

-- so many bitmaps, the indexes rising strictly from lo on; "the bin ends with the last bitmap"
unfoldable pub bitmaps_in : ℕ → ℕ → List ℕ → Result (List ℕ) Refusal
bitmaps_in zero lo s = check (eqb (length s) 0) wrong (Ok [])
bitmaps_in (suc count) lo s =
    and_then (indexed_bitmap lo s) (λ x. and_then (bitmaps_in count (x.index + 1) x.behind) (λ more. Ok (x.rows ++ more)))

-- "an 8-byte number of bitmaps", unsigned, then these
unfoldable pub rows64 : List ℕ → Result (List ℕ) Refusal
rows64 bytes = number little count_size (Err wrong) bytes (λ count s. bitmaps_in count 0 s)

-- ---- the rows of a bin of either kind

-- behind the 32-bit magic, "one bitmap filling the rest": BITMAP, with the container that is broken
unfoldable pub rows32 : List ℕ → Result (List ℕ) Refusal
rows32 bytes =
    and_then (refused_as (λ why. Bitmap bin_entry (container_of why)) (measured (Exactly (length bytes)) bytes)) (λ p. Ok p.rows)

-- whether the bytes begin with "magic 1681511377 .. (.. little-endian)"
unfoldable pub has_magic64 : List ℕ → Bool
has_magic64 bytes = eqb (le_at number_size bytes 0) magic64

-- the kind that a bin's magic says: MAGIC, where it is neither
unfoldable pub kind_of : List ℕ → Result Kind Refusal
kind_of bytes = cond (begins_with_magic bytes) (Ok Bits32) (cond (has_magic64 bytes) (Ok Bits64) (Err Magic))

-- the rows that the bytes behind a magic list
unfoldable pub rows_behind : Kind → List ℕ → Result (List ℕ) Refusal
rows_behind Bits32 bytes = rows32 bytes
rows_behind Bits64 bytes = rows64 bytes

-- the rows of a bin: MAGIC; CHECKSUM; BITMAP
unfoldable pub rows_of_bin : Bin → Result (List ℕ) Refusal
rows_of_bin x =
    and_then (kind_of x.bytes) (λ kind.
    check (is_true_checksum x.bytes x.sum) Checksum
    (rows_behind kind (drop number_size x.bytes)))

-- the rows of bin b of a file: SHORT, VERSION, the walk, NOBIN come first
unfoldable pub rows_in : ℕ → List ℕ → Result (List ℕ) Refusal
rows_in b file = and_then (bin_asked_for b file) rows_of_bin

-- ---- the call: bin b of a file, through the window of n rows from `first` on, into a buffer

-- a field with those of the rows marked that the window has: "marks r exactly if row first + r is listed"; "rows outside the window are no fault"
unfoldable pub marked_in : ℕ → ℕ → Result (List ℕ) Refusal → List ℕ → Result (List ℕ) Refusal
marked_in first n listed field = and_then listed (λ rows. Ok (mark_all field (rows_in_window first n rows)))

-- all that comes before a byte of the buffer is written: "A first row plus n above 2^63 is LIMIT", and LIMIT and ROOM as without a window. Then the field is
-- cleared
unfoldable pub window_ready : List ℕ → ℕ → ℕ → List ℕ → Result (List ℕ) Refusal
window_ready file first n buffer = check (leb (first + n) end_of_all_rows) Limit (deletions_ready file n buffer)

-- the buffer with the rows marked
unfoldable pub window_deletions : List ℕ → ℕ → ℕ → ℕ → List ℕ → Result (List ℕ) Refusal
window_deletions file b first n buffer = and_then (window_ready file first n buffer) (marked_in first n (rows_in b file))

-- the buffer then: untouched by refusals up to ROOM, and its field zero after later ones
unfoldable pub window_buffer : List ℕ → ℕ → ℕ → ℕ → List ℕ → List ℕ
window_buffer file b first n buffer = left_by (window_deletions file b first n buffer) (left_by (window_ready file first n buffer) buffer)
