-- What the calls promise. `bytes` are those of the buffer that is looked at.
use Rattle.std.specs.Prelude.{ℕ, ◌+◌, ◌≤◌, ◌≡◌, List, length, Result, Err, Ok, Option, Some, None}
use Rattle.std.specs.Borrow.{Bor}
use Rattle.numbers.specs.Meaning.{joined}
use Rattle.refusal.specs.declared.Refusal.{Refusal}
use Rattle.subtract.specs.declared.Answer.{Answer as Said}
use Rattle.refusal.specs.Reading.{numbers_of, fault_in}
use Rattle.row_field.specs.Meaning.{size}
use Rattle.stored_value.specs.Meaning.{Cell}
use Rattle.subtract.specs.Meaning.{no_record}
use Rattle.index_file.specs.declared.Part.{Part}
use Rattle.index_file.specs.Reading.{bytes_of, find, locate_numbers}
use Rattle.bitmap_index.specs.declared.Question.{Question}
use Rattle.bitmap_index.specs.Meaning.{WellFormed}
use Rattle.bitmap_index.specs.Reading.{Answer}
use Rattle.bitmap_index.specs.Promises.{scan_answer}
use Rattle.file_to_answers.specs.Layout.{ColumnFile}
use Rattle.file_to_answers.specs.Reading.{part_of, HandedBack, file_asked, ask_file_buffer, file_answer_by, ask_file_out, ask_file_numbers, ask_file_fault}

-- `locate` with a buffer that stands at the place `buffer` of memory: the answer's number, and the part and where that stands
pub record LocatePromise (bytes column kind : List ℕ) (buffer : ℕ × ℕ) (answer : ℕ) (body : List ℕ) (place : ℕ × ℕ) : Type 0 where
  pub number : answer ≡ (locate_numbers (find bytes column kind)).0
  pub part : body ≡ part_of (find bytes column kind) bytes
  pub handed_back : HandedBack (find bytes column kind) buffer place

-- `body_in` with a buffer of these bytes that stands at the place `buffer` of memory, where the reading is this: the part's bytes, and where it stands
abbrev pub BodyIsIn : List ℕ → ℕ × ℕ → Result (Option Part) Refusal → Result (Option (Bor (List ℕ))) Refusal → Type 0
BodyIsIn bytes buffer found (Err why) = found ≡ Err why
BodyIsIn bytes buffer found (Ok None) = found ≡ Ok None
BodyIsIn bytes buffer found (Ok (Some body)) = (p : Part) × (found ≡ Ok (Some p)) × (body.now ≡ bytes_of p bytes) × (body.ref_ptr ≡ (buffer.0, p.start.0 + buffer.1))

-- `ask_file` with a field before and after the call
pub record AskFilePromise (bytes column kind : List ℕ) (t : ℕ) (q : Question) (literals before after : List ℕ) (r : Result (Option Said) Refusal) : Type 0 where
  pub answer : r ≡ file_answer_by (file_asked bytes column kind t q literals before)
  pub numbers : ask_file_out r ≡ numbers_of no_record ask_file_numbers (file_asked bytes column kind t q literals before)
  pub fault : ask_file_fault r ≡ fault_in (file_asked bytes column kind t q literals before)
  pub buffer : after ≡ ask_file_buffer bytes column kind t q literals before

-- of one call: for each column whose file it is and each well-formed question whose literals these are, if the field has room, what is said here of
-- an answer is true of the scan's
abbrev pub FileAsScan : List ℕ → List ℕ → List ℕ → ℕ → Question → List ℕ → List ℕ → (Answer → Type 0) → Type 0
FileAsScan bytes column kind t q literals before Answers =
    (cells : List Cell) (ls : List (List ℕ)) → ColumnFile t cells column kind bytes → WellFormed t q ls → literals ≡ joined ls
    → size (length cells) ≤ length before → Answers (scan_answer q ls cells before)
