-- What a writer may lay out for a list of row sets ("Deletion file"). His choice is each bitmap's form. Last, what a file must be
-- for one bin alone to be read.
use Rattle.std.specs.Prelude.{ℕ, ◌^◌, ◌<◌, ◌≤◌, List, [], ◌∷◌, ◌++◌, length}
use Rattle.numbers.specs.Meaning.{be, All}
use Rattle.crc32.specs.Meaning.{checksum}
use Rattle.roaring.specs.Layout.{Bitmap}

-- the bytes of each of the file's numbers: a size, a magic, a checksum
abbrev pub number_size : ℕ
number_size = 4

abbrev pub magic : ℕ
magic = 1581511376

-- a bin's bytes, and the checksum that is stored for it
pub record Bin : Type 0 where
  pub bytes : List ℕ
  pub sum : ℕ

-- "size (4, big-endian), bin, checksum (4, big-endian). Size counts the bin alone": bins one behind the other
abbrev pub frames : List Bin → List ℕ
frames [] = []
frames (x ∷ xs) = be number_size (length x.bytes) ++ (x.bytes ++ (be number_size x.sum ++ frames xs))

-- "A bin is magic 1581511376 (big-endian) and one bitmap filling the rest"
abbrev pub bin_bytes : List ℕ → List ℕ
bin_bytes bitmap = be number_size magic ++ bitmap

-- "The checksum is Java's CRC-32 of the bin": of all its bytes, magic included
abbrev pub bin_of : List ℕ → Bin
bin_of bitmap = record { bytes = bin_bytes bitmap; sum = checksum (bin_bytes bitmap) }

-- the bins hold the sets: each a bitmap of its rows, in any form that Roaring permits. Four bytes hold each size
pub data Bins : List (List ℕ) → List Bin → Type 0 where
  none : Bins [] []
  more : {rows bitmap : List ℕ} {sets : List (List ℕ)} {xs : List Bin} → Bitmap rows bitmap → length (bin_bytes bitmap) < 256 ^ number_size
      → Bins sets xs → Bins (rows ∷ sets) (bin_of bitmap ∷ xs)

-- "Version 1 (one byte), then to the end" the bins
pub data DeletionFile : List (List ℕ) → List ℕ → Type 0 where
  version_1 : {sets : List (List ℕ)} {xs : List Bin} → Bins sets xs → DeletionFile sets (1 ∷ frames xs)

-- what the frame asks of a bin, whatever it holds: bytes enough for a magic, and four bytes hold size and checksum each
abbrev pub Framed : Bin → Type 0
Framed x = (number_size ≤ length x.bytes) × (length x.bytes < 256 ^ number_size) × (x.sum < 256 ^ number_size)

-- bin b of a file has the magic and a true checksum, and behind the magic these bytes, whatever they are; what the other bins hold is left open
pub data HoldsBytes : ℕ → List ℕ → List ℕ → Type 0 where
  holds_bytes : (earlier later : List Bin) (bytes : List ℕ) → All Framed (earlier ++ (bin_of bytes ∷ later))
      → HoldsBytes (length earlier) bytes (1 ∷ frames (earlier ++ (bin_of bytes ∷ later)))

-- bin b of a file holds a bitmap of the rows; what the other bins hold is left open
pub data HasBin : ℕ → List ℕ → List ℕ → Type 0 where
  has-bin : (earlier later : List Bin) {rows bitmap : List ℕ} → Bitmap rows bitmap → All Framed (earlier ++ (bin_of bitmap ∷ later))
      → HasBin (length earlier) rows (1 ∷ frames (earlier ++ (bin_of bitmap ∷ later)))
