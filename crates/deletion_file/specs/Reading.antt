-- What Read deletions answers for any bytes, and what the buffer holds then ("Deletion file"). The stages stand in this order: "LIMIT, ROOM, SHORT for
-- an empty file, VERSION, the walk over all sizes (SHORT, also for a size below 4), NOBIN, MAGIC, CHECKSUM, BITMAP, RANGE".
use Rattle.std.specs.Prelude.{ℕ, zero, suc, ◌+◌, Bool, cond, List, [], ◌∷◌, eqb, leb, length, take, drop, get_or, Result, Err, Ok}
use Rattle.numbers.specs.Meaning.{be_at, big, number}
use Rattle.refusal.specs.Meaning.{limit}
use Rattle.refusal.specs.Reading.{check, and_then, refused_as, numbers_of, fault_in}
use Rattle.refusal.specs.declared.Refusal.{Refusal}
use Rattle.refusal.specs.declared.Refusal.TheVariants.{Short, Magic, Version, Bitmap, Range, Room, Limit, Checksum, NoBin}
use Rattle.crc32.specs.Meaning.{checksum}
use Rattle.row_field.specs.Meaning.{size, mark_all, count, cleared}
use Rattle.roaring.specs.declared.Extent.TheVariants.{Exactly}
use Rattle.roaring.specs.Reading.{container_of, measured, end_of}
use Rattle.deletion_file.specs.Layout.{Bin, number_size, magic}

-- ---- the file

-- the bin of `long` bytes at the front of s, and the checksum behind it
abbrev pub front : ℕ → List ℕ → Bin
front long s = record { bytes = take long s; sum = be_at number_size s long }

-- what the walk finds at the front of the bytes that are left: nothing, where they end; or a bin, and what lies behind its checksum
pub data Next : Type 0 where
  over : Next
  bin : Bin → List ℕ → Next

-- one step of the walk: SHORT, also for a size below 4, which leaves no room for the magic
unfoldable pub step_to_next_bin : List ℕ → Result Next Refusal
step_to_next_bin s =
    cond (eqb (length s) 0) (Ok over)
    (number big number_size (Err Short) s (λ long s. check (leb number_size long) Short (check (leb (long + number_size) (length s)) Short
    (Ok (bin (front long s) (drop (long + number_size) s))))))

-- the bins from a step on: those behind it are what `walk` finds there
unfoldable pub bins_by : (List ℕ → Result (List Bin) Refusal) → Next → Result (List Bin) Refusal
bins_by walk over = Ok []
bins_by walk (bin x rest) = and_then (walk rest) (λ more. Ok (x ∷ more))

-- the walk over all sizes: step by step to the end of the bytes. A bin takes 12 of them at least, with its size and checksum, so a number of steps that is
-- above the number of bytes is enough
unfoldable pub bins : ℕ → List ℕ → Result (List Bin) Refusal
bins zero s = Err Short
bins (suc steps) s = and_then (step_to_next_bin s) (bins_by (bins steps))

-- the bin of this number, from 0: NOBIN
unfoldable pub bin_numbered : ℕ → List Bin → Result Bin Refusal
bin_numbered b [] = Err NoBin
bin_numbered zero (x ∷ xs) = Ok x
bin_numbered (suc b) (x ∷ xs) = bin_numbered b xs

-- bin b of a file that is not empty and whose version is not looked at
unfoldable pub bin_in : ℕ → List ℕ → Result Bin Refusal
bin_in b file = and_then (bins (length file) (drop 1 file)) (bin_numbered b)

-- "A bin is magic 1581511376 (big-endian) and one bitmap filling the rest": whether its bytes begin with the magic
unfoldable pub begins_with_magic : List ℕ → Bool
begins_with_magic bytes = eqb (be_at number_size bytes 0) magic

-- "The checksum is Java's CRC-32 of the bin": whether the stored one is that of all its bytes, magic included
unfoldable pub is_true_checksum : List ℕ → ℕ → Bool
is_true_checksum bytes sum = eqb (checksum bytes) sum

-- the bytes behind a bin's magic: MAGIC, CHECKSUM
unfoldable pub after_magic : Bin → Result (List ℕ) Refusal
after_magic x =
    check (begins_with_magic x.bytes) Magic
    (check (is_true_checksum x.bytes x.sum) Checksum
    (Ok (drop number_size x.bytes)))

-- bin b of a file: SHORT for an empty one, VERSION, the walk, NOBIN
unfoldable pub bin_asked_for : ℕ → List ℕ → Result Bin Refusal
bin_asked_for b file =
    check (leb 1 (length file)) Short
    (check (eqb (get_or file 0 0) 1) Version
    (bin_in b file))

-- the bytes that are to be the bitmap of bin b
unfoldable pub bitmap_in : ℕ → List ℕ → Result (List ℕ) Refusal
bitmap_in b file = and_then (bin_asked_for b file) after_magic

-- ---- the rows

-- "A deletion bin's entry number is 0"
abbrev pub bin_entry : ℕ
bin_entry = 0

-- a field of n rows with a bitmap's rows marked, "one bitmap filling the rest" of its bin: BITMAP, with the container; RANGE, if n is below the end of the rows
unfoldable pub bitmap_marked : List ℕ → ℕ → List ℕ → Result (List ℕ) Refusal
bitmap_marked bytes n field =
    and_then (refused_as (λ why. Bitmap bin_entry (container_of why)) (measured (Exactly (length bytes)) bytes)) (λ p.
    check (leb (end_of p.rows) n) (Range bin_entry) (Ok (mark_all field p.rows)))

-- a clear field of n rows with the rows of bin b marked
unfoldable pub bin_marked : List ℕ → ℕ → ℕ → List ℕ → Result (List ℕ) Refusal
bin_marked file b n clear = and_then (bitmap_in b file) (λ bytes. bitmap_marked bytes n clear)

-- ---- the call: bin b of a file, for n rows, into a buffer

-- all that comes before a byte of the buffer is written: LIMIT of the file's length and of the row count, ROOM. Then the field is cleared
unfoldable pub deletions_ready : List ℕ → ℕ → List ℕ → Result (List ℕ) Refusal
deletions_ready file n buffer =
    check (leb (length file) limit) Limit
    (check (leb n limit) Limit
    (check (leb (size n) (length buffer)) Room
    (Ok (cleared n buffer))))

-- the buffer with the rows marked
unfoldable pub deletions : List ℕ → ℕ → ℕ → List ℕ → Result (List ℕ) Refusal
deletions file b n buffer = and_then (deletions_ready file n buffer) (bin_marked file b n)

-- what a stage leaves in a buffer: what it says, or the buffer as it was before, where it refuses
unfoldable pub left_by : Result (List ℕ) Refusal → List ℕ → List ℕ
left_by (Err r) before = before
left_by (Ok after) before = after

-- the buffer then: "Refusals before and at the ROOM stage leave the buffer untouched. Later ones leave the field's ceil(n/8) bytes zero"
unfoldable pub deletions_buffer : List ℕ → ℕ → ℕ → List ℕ → List ℕ
deletions_buffer file b n buffer = left_by (deletions file b n buffer) (left_by (deletions_ready file n buffer) buffer)

-- the answer: a refusal, or how many rows are deleted, a count of ones below n
unfoldable pub counted : ℕ → Result (List ℕ) Refusal → Result ℕ Refusal
counted n marked = and_then marked (λ field. Ok (count field n))

-- the answer's number, 0 for accepted and else the refusal's, and how many rows are deleted, 0 with a refusal
abbrev pub deletions_out : Result ℕ Refusal → ℕ × ℕ
deletions_out r = numbers_of 0 (λ n. (0, n)) r

-- where the answer's fault is, in three numbers
abbrev pub deletions_fault : Result ℕ Refusal → List ℕ
deletions_fault r = fault_in r

-- what an accepted reading stands for in numbers
unfoldable pub deletions_numbers : ℕ → List ℕ → ℕ × ℕ
deletions_numbers n marked = (0, count marked n)
