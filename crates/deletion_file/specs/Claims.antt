-- What is claimed of deletion files: the layout and the reading agree. proofs/Theorems proves each.
use Rattle.std.specs.Prelude.{ℕ, ◌<◌, ◌≤◌, ◌≡◌, ◌↔◌, List, [], ◌++◌, leb, length, drop, get_or, Err, Ok}
use Rattle.numbers.specs.Meaning.{Bytes}
use Rattle.refusal.specs.Meaning.{limit}
use Rattle.refusal.specs.Reading.{check, and_then}
use Rattle.refusal.specs.Claims.{CarriesNothing}
use Rattle.refusal.specs.declared.Refusal.{Refusal}
use Rattle.refusal.specs.declared.Refusal.TheVariants.{Short, Magic, Version, Head, Dict, Bitmap, Range, Twice, Missing, Room, Literal, Limit, Checksum, NoBin}
use Rattle.row_field.specs.Meaning.{size, field_of, Below}
use Rattle.roaring.specs.declared.Extent.TheVariants.{Exactly}
use Rattle.roaring.specs.Layout as roaring
use Rattle.roaring.specs.Faults.{Broken}
use Rattle.deletion_file.specs.Layout.{DeletionFile, HoldsBytes, HasBin}
use Rattle.deletion_file.specs.Reading.{bitmap_in, deletions_ready, deletions, deletions_buffer, counted}

-- within the limits, with room, and with every row below the row count
pub record Allowed (file : List ℕ) (n : ℕ) (buffer rows : List ℕ) : Type 0 where
  pub file_in-limit : length file ≤ limit
  pub count_in-limit : n ≤ limit
  pub room : size n ≤ length buffer
  pub below : Below n rows

-- Read deletions answers exactly these rows: how many they are, and, as a row field is, exactly they are set in the field for n rows, spare
-- bits are 0, and the bytes behind it stay
pub record AnswersRows (file : List ℕ) (b n : ℕ) (buffer rows : List ℕ) : Type 0 where
  pub answer : counted n (deletions file b n buffer) ≡ Ok (length rows)
  pub field : deletions_buffer file b n buffer ≡ field_of n rows ++ drop (size n) buffer

-- 1. A bin that is laid out is read, whatever the other bins hold.
abbrev pub BinIsRead : Type 0
BinIsRead =
    (file : List ℕ) (b n : ℕ) (buffer rows : List ℕ) → HasBin b rows file → Allowed file n buffer rows → AnswersRows file b n buffer rows

-- So is each bin of a file that is laid out for a list of row sets.
abbrev pub LaidOutIsRead : Type 0
LaidOutIsRead =
    (file : List ℕ) (b n : ℕ) (buffer : List ℕ) (sets : List (List ℕ)) → DeletionFile sets file → b < length sets → Allowed file n buffer (get_or sets b [])
    → AnswersRows file b n buffer (get_or sets b [])

-- 2. What is accepted is what 1 asks for: the bin was laid out, and the answer is its rows. Nothing is said of what the other bins hold: they are not
-- looked at.
pub record Accepted (file : List ℕ) (b n : ℕ) (buffer : List ℕ) : Type 0 where
  pub rows : List ℕ
  pub laid_out : HasBin b rows file
  pub allowed : Allowed file n buffer rows
  pub answers : AnswersRows file b n buffer rows

abbrev pub AcceptedWasLaidOut : Type 0
AcceptedWasLaidOut =
    (file : List ℕ) (b n : ℕ) (buffer : List ℕ) (k : ℕ) → Bytes file → counted n (deletions file b n buffer) ≡ Ok k → Accepted file b n buffer

-- 3. A file whose first byte is not 1 is VERSION, unless LIMIT, ROOM or SHORT comes first: it yields no rows.
abbrev pub OtherVersion : Type 0
OtherVersion =
    (file : List ℕ) (b n : ℕ) (buffer : List ℕ) → (get_or file 0 0 ≡ 1 → ⊥)
    → deletions file b n buffer ≡ and_then (deletions_ready file n buffer) (λ _. check (leb 1 (length file)) Short (Err Version))

abbrev pub RowsHaveVersion1 : Type 0
RowsHaveVersion1 = (file : List ℕ) (b n : ℕ) (buffer : List ℕ) (k : ℕ) → counted n (deletions file b n buffer) ≡ Ok k → get_or file 0 0 ≡ 1

-- 4. Where a bin is broken: within the limits and with room, a bin with magic and checksum is refused exactly for what is wrong with the bytes behind
-- the magic. BITMAP names the container that is broken, and RANGE says that they are a bitmap with a row at or above the row count. "A deletion bin's entry number
-- is 0", and no other refusal comes there.
pub record BitmapOutside (n : ℕ) (bytes : List ℕ) : Type 0 where
  pub rows : List ℕ
  pub bitmap : roaring.Bitmap rows bytes
  pub outside : Below n rows → ⊥

abbrev pub BinFaultIs : ℕ → List ℕ → Refusal → Type 0
BinFaultIs n bytes (Bitmap entry container) = (entry ≡ 0) × Broken (Exactly (length bytes)) bytes container
BinFaultIs n bytes (Range entry) = (entry ≡ 0) × BitmapOutside n bytes
BinFaultIs n bytes Short = ⊥
BinFaultIs n bytes Magic = ⊥
BinFaultIs n bytes Version = ⊥
BinFaultIs n bytes Head = ⊥
BinFaultIs n bytes Dict = ⊥
BinFaultIs n bytes (Twice entry) = ⊥
BinFaultIs n bytes (Missing row) = ⊥
BinFaultIs n bytes Room = ⊥
BinFaultIs n bytes Literal = ⊥
BinFaultIs n bytes Limit = ⊥
BinFaultIs n bytes Checksum = ⊥
BinFaultIs n bytes NoBin = ⊥

abbrev pub NamesTheFault : Type 0
NamesTheFault =
    (file : List ℕ) (b n : ℕ) (buffer bytes : List ℕ) (r : Refusal) → Bytes file → HoldsBytes b bytes file
    → length file ≤ limit → n ≤ limit → size n ≤ length buffer → (deletions file b n buffer ≡ Err r) ↔ BinFaultIs n bytes r

-- The bytes that are looked at as a bitmap are exactly those that the bin holds; what comes before carries nothing.
abbrev pub LooksAtHeldBytes : Type 0
LooksAtHeldBytes = (file : List ℕ) (b : ℕ) (bytes : List ℕ) → Bytes file → (bitmap_in b file ≡ Ok bytes) ↔ HoldsBytes b bytes file

abbrev pub NothingBeforeBitmap : Type 0
NothingBeforeBitmap = (file : List ℕ) (b n : ℕ) (buffer : List ℕ) → CarriesNothing (deletions_ready file n buffer) × CarriesNothing (bitmap_in b file)
