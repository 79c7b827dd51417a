-- What a writer may lay out for a set of rows below 2 ^ 63 in a 64-bit bin, and for sets of rows in a file whose bins are of either kind. His choices
-- are which indexes have a bitmap, besides those that have rows, each bitmap's form, and each bin's kind. Rows are a list; that it rises strictly and is below
-- 2 ^ 63 follows from the rules (the claim `RowsRise`).
use Rattle.std.specs.Prelude.{ℕ, ◌+◌, ◌*◌, ◌^◌, ◌<◌, ◌≤◌, List, [], ◌∷◌, ◌++◌, length}
use Rattle.numbers.specs.Meaning.{le, All, four_bytes, sign_bit}
use Rattle.crc32.specs.Meaning.{checksum}
use Rattle.row_field.specs.Meaning.{above}
use Rattle.roaring.specs.Layout.{Bitmap}
use Rattle.deletion_file.specs.Layout.{number_size, Bin, frames, bin_bytes, Framed}

-- "magic 1681511377, an 8-byte number of bitmaps, then per bitmap a 4-byte index (all little-endian)"
abbrev pub magic64 : ℕ
magic64 = 1681511377

abbrev pub count_size : ℕ
count_size = 8

abbrev pub index_size : ℕ
index_size = 4

-- "Indexes rise strictly below 2147483648"
abbrev pub index_end : ℕ
index_end = sign_bit

-- the rows of one index: "A row is index times 4294967296 plus the low part"
abbrev pub index_rows : ℕ
index_rows = four_bytes

-- the end of all rows, 2 ^ 63
abbrev pub end_of_all_rows : ℕ
end_of_all_rows = 9223372036854775808

-- ---- a 64-bit bin

-- an index, the low parts of its rows, and the bytes of their bitmap
pub record Indexed : Type 0 where
  pub index : ℕ
  pub low : List ℕ
  pub bitmap : List ℕ

-- "per bitmap a 4-byte index .. and a 32-bit bitmap, as long as it is"
abbrev pub indexed_bytes : List Indexed → List ℕ
indexed_bytes [] = []
indexed_bytes (x ∷ xs) = le index_size x.index ++ (x.bitmap ++ indexed_bytes xs)

-- "A row is index times 4294967296 plus the low part"
abbrev pub listed : List Indexed → List ℕ
listed [] = []
listed (x ∷ xs) = above (x.index * index_rows) x.low ++ listed xs

-- "Indexes rise strictly below 2147483648"; the first is at least lo. Each has a bitmap of its low parts, in any form that Roaring permits; it may have no rows
abbrev pub IndexesRise : ℕ → List Indexed → Type 0
IndexesRise lo [] = Unit {0}
IndexesRise lo (x ∷ xs) = (lo ≤ x.index) × (x.index < index_end) × Bitmap x.low x.bitmap × IndexesRise (x.index + 1) xs

-- the bytes behind the magic: "an 8-byte number of bitmaps", then these, and "the bin ends with the last bitmap". Eight bytes hold the number, since indexes rise
-- below 2 ^ 31
pub data Bitmaps : List ℕ → List ℕ → Type 0 where
  bitmaps : (xs : List Indexed) → IndexesRise 0 xs → Bitmaps (listed xs) (le count_size (length xs) ++ indexed_bytes xs)

-- ---- a bin of either kind

abbrev pub bin_bytes64 : List ℕ → List ℕ
bin_bytes64 bytes = le number_size magic64 ++ bytes

-- a bin's bytes hold the rows: a 32-bit bin, or a 64-bit one
pub data EitherBin : List ℕ → List ℕ → Type 0 where
  bits_32 : {rows bitmap : List ℕ} → Bitmap rows bitmap → EitherBin rows (bin_bytes bitmap)
  bits_64 : {rows bytes : List ℕ} → Bitmaps rows bytes → EitherBin rows (bin_bytes64 bytes)

-- "size and checksum as before": Java's CRC-32 of the bin's bytes, magic included
abbrev pub summed : List ℕ → Bin
summed bytes = record { bytes = bytes; sum = checksum bytes }

-- the bins hold the sets. Four bytes hold each size
pub data EitherBins : List (List ℕ) → List Bin → Type 0 where
  none : EitherBins [] []
  more : {rows bytes : List ℕ} {sets : List (List ℕ)} {xs : List Bin} → EitherBin rows bytes → length bytes < 256 ^ number_size
      → EitherBins sets xs → EitherBins (rows ∷ sets) (summed bytes ∷ xs)

-- "Version 1 (one byte), then to the end" the bins
pub data EitherFile : List (List ℕ) → List ℕ → Type 0 where
  version_1 : {sets : List (List ℕ)} {xs : List Bin} → EitherBins sets xs → EitherFile sets (1 ∷ frames xs)

-- ---- a file of which one bin alone is read; what the other bins hold is left open

-- bin b is x, whatever bytes and checksum it has
pub data HasFrame : ℕ → Bin → List ℕ → Type 0 where
  has-frame : (earlier later : List Bin) (x : Bin) → All Framed (earlier ++ (x ∷ later)) → HasFrame (length earlier) x (1 ∷ frames (earlier ++ (x ∷ later)))

-- bin b has these bytes, whatever they are, and a true checksum
abbrev pub HasBytes : ℕ → List ℕ → List ℕ → Type 0
HasBytes b bytes file = HasFrame b (summed bytes) file

-- bin b holds the rows, in either kind
pub record HasRows (b : ℕ) (rows file : List ℕ) : Type 0 where
  pub bytes : List ℕ
  pub bin : EitherBin rows bytes
  pub stands : HasBytes b bytes file
