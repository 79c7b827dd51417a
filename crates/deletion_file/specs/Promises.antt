-- What the contracts say, in the reading's terms.
use Rattle.std.specs.Prelude.{ℕ, ◌+◌, ◌-◌, ◌≤◌, ◌≡◌, List, length, take, drop, Option, Some, None, Result, Err, Ok}
use Rattle.std.specs.Borrow.{Bor}
use Rattle.numbers.specs.Meaning.{be_at}
use Rattle.refusal.specs.declared.Refusal.{Refusal}
use Rattle.refusal.specs.declared.Refusal.TheVariants.{Bitmap}
use Rattle.refusal.specs.Reading.{refused_as}
use Rattle.row_field.specs.Meaning.{cleared}
use Rattle.roaring.specs.declared.Shape.{Shape}
use Rattle.roaring.specs.declared.Extent.TheVariants.{Exactly}
use Rattle.roaring.specs.Reading.{measured, measured_by}
use Rattle.deletion_file.specs.declared.bins.Bin as code
use Rattle.deletion_file.specs.Layout.{Bin, number_size}
use Rattle.deletion_file.specs.Reading.{over, bin, step_to_next_bin, bin_asked_for, bin_entry, deletions_ready}

-- ---- a part of the file

-- the bytes from start to end
abbrev pub part : ℕ → ℕ → List ℕ → List ℕ
part start end s = take (end - start) (drop start s)

-- the bin from start to end, its checksum right behind
abbrev pub bin_from : ℕ → ℕ → List ℕ → Bin
bin_from start end s = record { bytes = part start end s; sum = be_at number_size s end }

-- so many bytes have room for a bin from start to end: a magic at least, and a checksum behind it
pub record BinFits (start end bytes : ℕ) : Type 0 where
  pub magic_fits : start + number_size ≤ end
  pub sum_fits : end + number_size ≤ bytes

-- `next_bin`: a step. A bin's bytes stand right behind its size, and its checksum right behind them
abbrev pub FindsNext : List ℕ → Result (Option (Bor (List ℕ) × Bor (List ℕ))) Refusal → Type 0
FindsNext s (Err r) = step_to_next_bin s ≡ Err r
FindsNext s (Ok None) = step_to_next_bin s ≡ Ok over
FindsNext s (Ok (Some (bytes, behind))) =
    (step_to_next_bin s ≡ Ok (bin (record { bytes = bytes.now; sum = be_at number_size behind.now 0 }) (drop number_size behind.now)))
    × (bytes.now ≡ take (length bytes.now) (drop number_size s)) × (behind.now ≡ drop (number_size + length bytes.now) s)
    × BinFits number_size (number_size + length bytes.now) (length s)

-- ---- bins as the code has them

abbrev pub plain_of : code.Bin → Bin
plain_of x = record { bytes = x.bytes.now; sum = x.sum }

-- a bin stands in the file where it says
abbrev pub StandsIn : List ℕ → code.Bin → Type 0
StandsIn s x = (plain_of x ≡ bin_from x.at.0 (x.at.0 + length x.bytes.now) s) × BinFits x.at.0 (x.at.0 + length x.bytes.now) (length s)

-- the refusal of a reading, or the bin that it reads and where it stands. Of bins that are the same, bytes and checksum, the place of any will do
abbrev pub BinAt : Result Bin Refusal → List ℕ → Result code.Bin Refusal → Type 0
BinAt o s (Err r) = o ≡ Err r
BinAt o s (Ok x) = (o ≡ Ok (plain_of x)) × StandsIn s x

-- `asked_bin`
abbrev pub AsksBin : ℕ → List ℕ → Result code.Bin Refusal → Type 0
AsksBin b s r = BinAt (bin_asked_for b s) s r

-- bytes are those that a reading says, or the same refusal
abbrev pub BytesAre : Result (List ℕ) Refusal → Result (Bor (List ℕ)) Refusal → Type 0
BytesAre o (Err r) = o ≡ Err r
BytesAre o (Ok bytes) = o ≡ Ok bytes.now

-- what is measured of the bytes that are to be a bin's bitmap, or the bin's refusal
unfoldable pub bitmap_shape : List ℕ → Result Shape Refusal
bitmap_shape bytes = refused_as (λ why. Bitmap bin_entry why.container) (measured_by (measured (Exactly (length bytes)) bytes))

-- ---- the field

-- `prepare`: the refusal of what comes before a byte is written, which leaves the buffer as it was; or the field is cleared
abbrev pub Prepares : List ℕ → ℕ → List ℕ → List ℕ → Result Unit Refusal → Type 0
Prepares file n before after (Err r) = (deletions_ready file n before ≡ Err r) × (after ≡ before)
Prepares file n before after (Ok done) = (deletions_ready file n before ≡ Ok after) × (after ≡ cleared n before)
