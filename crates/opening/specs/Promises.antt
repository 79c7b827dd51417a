-- What contracts say, in the reading's terms: of Open, then of the functions that it is made of.
use Rattle.std.specs.Prelude.{ℕ, ◌≤◌, ◌<◌, ◌≡◌, List, length, drop, Result, Err, Ok, Option, None, Some}
use Rattle.numbers.specs.Meaning.{four_bytes}
use Rattle.refusal.specs.declared.Refusal.{Refusal}
use Rattle.refusal.specs.Reading.{and_then, numbers_of, fault_in}
use Rattle.dictionary.specs.Layout.{most_blocks}
use Rattle.dictionary.specs.declared.NullEntry.{NullEntry}
use Rattle.dictionary.specs.Promises.{pattern, nulls}
use Rattle.opening.specs.declared.Opened.{Opened}
use Rattle.opening.specs.declared.Fields.{Fields}
use Rattle.opening.specs.Reading.{Front, front, starts_in, written_to, opened, open_buffer, open_table, opened_of, open_out, open_numbers, open_fault}

-- ---- Open, for any bytes: the answer, what both lent buffers then hold, the answer's number with its counts, and where its fault is

pub record OpenPromise (t : ℕ) (body before after table words : List ℕ) (r : Result Opened Refusal) : Type 0 where
  pub answer : r ≡ and_then (opened t body before table) (λ a. Ok (opened_of a))
  pub buffer : after ≡ open_buffer t body before table
  pub filled : words ≡ open_table t body before table
  pub numbers : open_out r ≡ numbers_of (0, 0) open_numbers (opened t body before table)
  pub fault : open_fault r ≡ fault_in (opened t body before table)

-- ---- `front`: the reading's refusal, or the reading's fields

-- what the code found, as the reading has it
abbrev pub front_found : List ℕ → Fields → Front
front_found s f = record { rows = f.rows; values = f.values; nulls = nulls f.null; blocks = f.blocks; directory = drop f.directory.0 s }

-- null's offset, if there is one, has 32 bits
abbrev pub NullFits : Option NullEntry → Type 0
NullFits None = Unit {0}
NullFits (Some n) = pattern n.offset < four_bytes

-- and what a caller may then reckon with: the directory begins inside the body, the block number is within its limit, and null's offset has 32 bits
abbrev pub FieldsFit : List ℕ → Fields → Type 0
FieldsFit s f = (f.directory.0 ≤ length s) × (f.blocks ≤ most_blocks) × NullFits f.null

abbrev pub FrontIs : List ℕ → Result Fields Refusal → Type 0
FrontIs s (Err r) = front s ≡ Err r
FrontIs s (Ok f) = (front s ≡ Ok (front_found s f)) × FieldsFit s f

-- ---- `fill`: the table's front holds where the entries start of the directory at a position

abbrev pub Fills : ℕ → ℕ → List ℕ → ℕ → List ℕ → List ℕ → Type 0
Fills t n s at before after = after ≡ written_to before (starts_in t n at (drop at s))
