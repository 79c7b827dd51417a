-- What is claimed of bins of either kind, read through a window. proofs/Theorems proves each.
use Rattle.std.specs.Prelude.{ℕ, ◌+◌, ◌<◌, ◌≤◌, ◌≡◌, ◌↔◌, ◌⊎◌, true, List, [], ◌∷◌, ◌++◌, leb, length, drop, get_or, Err, Ok}
use Rattle.numbers.specs.Meaning.{le, Bytes}
use Rattle.refusal.specs.Meaning.{limit}
use Rattle.refusal.specs.Reading.{check, and_then}
use Rattle.refusal.specs.Claims.{Bare}
use Rattle.refusal.specs.declared.Refusal.{Refusal}
use Rattle.refusal.specs.declared.Refusal.TheVariants.{Short, Magic, Version, Bitmap, Range, Checksum}
use Rattle.row_field.specs.Meaning.{size, bit, field_of, Rising}
use Rattle.window.specs.Meaning.{rows_in_window}
use Rattle.roaring.specs.declared.Extent.TheVariants.{Exactly}
use Rattle.roaring.specs.Faults.{Broken}
use Rattle.crc32.specs.Meaning.{checksum}
use Rattle.deletion_file.specs.Layout.{number_size, Bin, DeletionFile, HasBin, bin_bytes}
use Rattle.deletion_file.specs.Reading.{deletions, deletions_buffer, counted}
use Rattle.deletion_window.specs.Layout.{magic64, end_of_all_rows, Bitmaps, bin_bytes64, EitherFile, HasFrame, HasBytes, HasRows}
use Rattle.deletion_window.specs.Reading.{window_ready, window_deletions, window_buffer}

-- ---- rows

-- r is one of the rows
pub data Among (r : ℕ) : List ℕ → Type 0 where
  among : (before behind : List ℕ) → Among r (before ++ (r ∷ behind))

-- the rows of a 64-bit bin rise strictly, and are below 2 ^ 63
abbrev pub RowsRise : Type 0
RowsRise = (rows bytes : List ℕ) → Bitmaps rows bytes → Rising 0 end_of_all_rows rows

-- "marks r exactly if row first + r is listed": what a window's field has. Its spare bits are 0
abbrev pub WindowMeans : Type 0
WindowMeans = (first n r : ℕ) (rows : List ℕ) → (bit (field_of n (rows_in_window first n rows)) r ≡ true) ↔ ((r < n) × Among (first + r) rows)

-- the magic's bytes, and a bin that has row 4294967301, of index 1, in an array
abbrev pub MagicBytes : Type 0
MagicBytes = le number_size magic64 ≡ 209 ∷ 211 ∷ 57 ∷ 100 ∷ []

abbrev pub OneRowBin : Type 0
OneRowBin =
    Bitmaps (4294967301 ∷ [])
    (1 ∷ 0 ∷ 0 ∷ 0 ∷ 0 ∷ 0 ∷ 0 ∷ 0 ∷ 1 ∷ 0 ∷ 0 ∷ 0 ∷ 58 ∷ 48 ∷ 0 ∷ 0 ∷ 1 ∷ 0 ∷ 0 ∷ 0 ∷ 0 ∷ 0 ∷ 0 ∷ 0 ∷ 16 ∷ 0 ∷ 0 ∷ 0 ∷ 5 ∷ 0 ∷ [])

-- ---- 1. laid out, so read

-- within the limits and with room; rows may lie anywhere
pub record Allowed (file : List ℕ) (first n : ℕ) (buffer : List ℕ) : Type 0 where
  pub file_in-limit : length file ≤ limit
  pub count_in-limit : n ≤ limit
  pub end_in_limit : first + n ≤ end_of_all_rows
  pub room : size n ≤ length buffer

-- the call answers exactly those of the rows that the window has: how many they are, and exactly they are set in the field for n rows, each counted from the
-- first; spare bits are 0, and the bytes behind it stay
pub record AnswersRows (file : List ℕ) (b first n : ℕ) (buffer rows : List ℕ) : Type 0 where
  pub answer : counted n (window_deletions file b first n buffer) ≡ Ok (length (rows_in_window first n rows))
  pub field : window_buffer file b first n buffer ≡ field_of n (rows_in_window first n rows) ++ drop (size n) buffer

-- a bin that is laid out, in either kind, is read through every window, whatever the other bins hold
abbrev pub BinIsRead : Type 0
BinIsRead =
    (file : List ℕ) (b first n : ℕ) (buffer rows : List ℕ) → HasRows b rows file → Allowed file first n buffer → AnswersRows file b first n buffer rows

-- so is each bin of a file that is laid out for a list of row sets, bins of both kinds among them
abbrev pub LaidOutIsRead : Type 0
LaidOutIsRead =
    (file : List ℕ) (b first n : ℕ) (buffer : List ℕ) (sets : List (List ℕ)) → EitherFile sets file → b < length sets → Allowed file first n buffer
    → AnswersRows file b first n buffer (get_or sets b [])

-- every file whose bins are all 32-bit ones is such a file
abbrev pub OldFileIsEither : Type 0
OldFileIsEither = (file : List ℕ) (sets : List (List ℕ)) → DeletionFile sets file → EitherFile sets file

-- ---- 2. accepted, so laid out

pub record Accepted (file : List ℕ) (b first n : ℕ) (buffer : List ℕ) : Type 0 where
  pub rows : List ℕ
  pub laid_out : HasRows b rows file
  pub allowed : Allowed file first n buffer
  pub answers : AnswersRows file b first n buffer rows

abbrev pub AcceptedWasLaidOut : Type 0
AcceptedWasLaidOut =
    (file : List ℕ) (b first n : ℕ) (buffer : List ℕ) (k : ℕ) → Bytes file → counted n (window_deletions file b first n buffer) ≡ Ok k
    → Accepted file b first n buffer

-- a file whose first byte is not 1 is VERSION, unless LIMIT, ROOM or SHORT comes first: it yields no rows
abbrev pub OtherVersion : Type 0
OtherVersion =
    (file : List ℕ) (b first n : ℕ) (buffer : List ℕ) → (get_or file 0 0 ≡ 1 → ⊥)
    → window_deletions file b first n buffer ≡ and_then (window_ready file first n buffer) (λ _. check (leb 1 (length file)) Short (Err Version))

-- ---- 3. what is refused, within the limits and with room

-- the bytes begin with one of the two magics
abbrev pub WithMagic : List ℕ → Type 0
WithMagic bytes = (rest : List ℕ) × ((bytes ≡ bin_bytes rest) ⊎ (bytes ≡ bin_bytes64 rest))

-- a bin that begins with neither is MAGIC, whatever its checksum
abbrev pub OtherMagic : Type 0
OtherMagic =
    (file : List ℕ) (b first n : ℕ) (buffer : List ℕ) (x : Bin) → Bytes file → HasFrame b x file → Allowed file first n buffer → (WithMagic x.bytes → ⊥)
    → window_deletions file b first n buffer ≡ Err Magic

-- one that begins with either and whose checksum is not true is CHECKSUM
abbrev pub FalseChecksum : Type 0
FalseChecksum =
    (file : List ℕ) (b first n : ℕ) (buffer : List ℕ) (x : Bin) → HasFrame b x file → Allowed file first n buffer → WithMagic x.bytes
    → (checksum x.bytes ≡ x.sum → ⊥) → window_deletions file b first n buffer ≡ Err Checksum

-- "any fault behind the magic is BITMAP, container 0": a 64-bit bin with a true checksum is refused exactly if what lies behind its magic is no layout of any rows
abbrev pub Faulty64 : Type 0
Faulty64 =
    (file : List ℕ) (b first n : ℕ) (buffer bytes : List ℕ) (r : Refusal) → Bytes file → HasBytes b (bin_bytes64 bytes) file → Allowed file first n buffer
    → (window_deletions file b first n buffer ≡ Err r) ↔ ((r ≡ Bitmap 0 0) × ((rows : List ℕ) → Bitmaps rows bytes → ⊥))

-- "A 32-bit bin read through a window follows the same rule": BITMAP names the container that is broken, and nothing else is refused
abbrev pub Faulty32 : Type 0
Faulty32 =
    (file : List ℕ) (b first n : ℕ) (buffer bytes : List ℕ) (r : Refusal) → Bytes file → HasBytes b (bin_bytes bytes) file → Allowed file first n buffer
    → (window_deletions file b first n buffer ≡ Err r) ↔ ((i : ℕ) × (r ≡ Bitmap 0 i) × Broken (Exactly (length bytes)) bytes i)

-- for any bytes: a refusal carries nothing, or it is BITMAP of entry 0. So none is RANGE: "rows outside the window are no fault"
abbrev pub BitmapOrBare : Refusal → Type 0
BitmapOrBare r = Bare r ⊎ ((container : ℕ) × (r ≡ Bitmap 0 container))

abbrev pub OnlyBitmapCarries : Type 0
OnlyBitmapCarries =
    (file : List ℕ) (b first n : ℕ) (buffer : List ℕ) (r : Refusal) → window_deletions file b first n buffer ≡ Err r → BitmapOrBare r

-- ---- 4. beside the call without a window, which reads from row 0 on

pub record AsWithoutWindow (file : List ℕ) (b n : ℕ) (buffer : List ℕ) : Type 0 where
  -- where that accepts, the answer is the same
  pub accepted : (marked : List ℕ) → deletions file b n buffer ≡ Ok marked → window_deletions file b 0 n buffer ≡ Ok marked
  -- where that says RANGE, the bin is a bitmap of rows, and the answer is those below n
  pub outside : (entry : ℕ) → deletions file b n buffer ≡ Err (Range entry) → (rows : List ℕ) × HasBin b rows file × AnswersRows file b 0 n buffer rows
  -- any other refusal but MAGIC is the same
  pub refused : (r : Refusal) → deletions file b n buffer ≡ Err r → (r ≡ Magic → ⊥) → ((entry : ℕ) → r ≡ Range entry → ⊥)
      → window_deletions file b 0 n buffer ≡ Err r
  -- and so is the buffer, but with MAGIC and RANGE
  pub buffers : (deletions file b n buffer ≡ Err Magic → ⊥) → ((entry : ℕ) → deletions file b n buffer ≡ Err (Range entry) → ⊥)
      → window_buffer file b 0 n buffer ≡ deletions_buffer file b n buffer

abbrev pub FromRowZero : Type 0
FromRowZero = (file : List ℕ) (b n : ℕ) (buffer : List ℕ) → Bytes file → AsWithoutWindow file b n buffer

-- the call without a window "still refuses a 64-bit bin as MAGIC", also where its checksum or what lies behind the magic is wrong
abbrev pub WithoutWindowIsMagic : Type 0
WithoutWindowIsMagic =
    (file : List ℕ) (b n : ℕ) (buffer bytes : List ℕ) (sum : ℕ) → HasFrame b (record { bytes = bin_bytes64 bytes; sum = sum }) file → length file ≤ limit → n ≤ limit
    → size n ≤ length buffer → deletions file b n buffer ≡ Err Magic

-- ---- 5. two windows side by side give what one over both gives, so a data file can be read in parts

pub record SideBySide (file : List ℕ) (b first n m : ℕ) (whole left right : List ℕ) : Type 0 where
  -- the parts are refused exactly if the whole is, and alike
  pub refused_left : (r : Refusal) → (window_deletions file b first (n + m) whole ≡ Err r) ↔ (window_deletions file b first n left ≡ Err r)
  pub refused_right : (r : Refusal) → (window_deletions file b first (n + m) whole ≡ Err r) ↔ (window_deletions file b (first + n) m right ≡ Err r)
  -- the same rows are set, whatever was answered
  pub rows_left : (r : ℕ) → r < n → bit (window_buffer file b first (n + m) whole) r ≡ bit (window_buffer file b first n left) r
  pub rows_right : (r : ℕ) → r < m → bit (window_buffer file b first (n + m) whole) (n + r) ≡ bit (window_buffer file b (first + n) m right) r
  -- and the numbers of rows add up
  pub counts : (j k : ℕ) → counted n (window_deletions file b first n left) ≡ Ok j → counted m (window_deletions file b (first + n) m right) ≡ Ok k
      → counted (n + m) (window_deletions file b first (n + m) whole) ≡ Ok (j + k)

abbrev pub TwoWindows : Type 0
TwoWindows =
    (file : List ℕ) (b first n m : ℕ) (whole left right : List ℕ) → Allowed file first (n + m) whole → size n ≤ length left → size m ≤ length right
    → SideBySide file b first n m whole left right
