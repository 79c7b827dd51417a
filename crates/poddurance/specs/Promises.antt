-- What each call of the C interface promises: its number, its counts and where its fault is, as the reading of the call says them, and what the lent buffer holds
-- after it. `before` and `after` are that buffer's bytes around the call.
use Rattle.std.specs.Prelude.{ℕ, ◌≡◌, List}
use Rattle.refusal.specs.Reading.{numbers_of, fault_in}
use Rattle.subtract.specs.Meaning.{record_from_numbers, no_record}
use Rattle.subtract.specs.Reading.{subtraction, subtract_buffer, subtract_numbers, record_subtraction, record_subtract_numbers}
use Rattle.deletion_file.specs.Reading.{deletions, deletions_buffer, deletions_numbers}
use Rattle.deletion_window.specs.Reading.{window_deletions, window_buffer}
use Rattle.index_file.specs.Reading.{find, locate_numbers}
use Rattle.bitmap_index.specs.declared.Question.{Question}
use Rattle.bitmap_index.specs.Reading.{audit, audit_buffer, audit_numbers, ask, ask_buffer, ask_numbers}
use Rattle.opening.specs.Reading.{opened, open_buffer, open_table, open_numbers}
use Rattle.lookup.specs.Reading.{answer_of, compared_of, looked_up, look_up_buffer}
use Rattle.file_to_answers.specs.Reading.{file_asked, ask_file_buffer, ask_file_numbers}

pub record ReadDeletions (file : List ℕ) (bin rows : ℕ) (before after : List ℕ) (number deleted : ℕ) (fault : List ℕ) : Type 0 where
  pub numbers : (number, deleted) ≡ numbers_of 0 (deletions_numbers rows) (deletions file bin rows before)
  pub fault_is : fault ≡ fault_in (deletions file bin rows before)
  pub buffer : after ≡ deletions_buffer file bin rows before

-- the same through the window of so many rows from `first` on
pub record ReadWindow (file : List ℕ) (bin first rows : ℕ) (before after : List ℕ) (number deleted : ℕ) (fault : List ℕ) : Type 0 where
  pub numbers : (number, deleted) ≡ numbers_of 0 (deletions_numbers rows) (window_deletions file bin first rows before)
  pub fault_is : fault ≡ fault_in (window_deletions file bin first rows before)
  pub buffer : after ≡ window_buffer file bin first rows before

-- `before` and `after` are the first buffer's
pub record Subtract (second : List ℕ) (rows : ℕ) (before after : List ℕ) (number left removed : ℕ) : Type 0 where
  pub numbers : (number, (left, removed)) ≡ numbers_of (0, 0) subtract_numbers (subtraction rows before second)
  pub buffer : after ≡ subtract_buffer rows before second

-- `given` and `said` are the record's four numbers before and after the call
pub record SubtractRecord (second given : List ℕ) (before after : List ℕ) (number : ℕ) (said : List ℕ) (removed : ℕ) : Type 0 where
  pub numbers : (number, (said, removed)) ≡ numbers_of (no_record, 0) record_subtract_numbers (record_subtraction (record_from_numbers given) before second)
  pub buffer : after ≡ subtract_buffer (record_from_numbers given).rows before second

-- `bytes` are those of the buffer that is looked at
pub record Locate (bytes column kind : List ℕ) (number start length : ℕ) : Type 0 where
  pub numbers : (number, (start, length)) ≡ locate_numbers (find bytes column kind)

pub record Audit (body : List ℕ) (t : ℕ) (before after : List ℕ) (number rows : ℕ) (fault : List ℕ) : Type 0 where
  pub numbers : (number, rows) ≡ numbers_of 0 audit_numbers (audit t body before)
  pub fault_is : fault ≡ fault_in (audit t body before)
  pub buffer : after ≡ audit_buffer t body before

-- `said` are the record's four numbers
pub record Ask (body : List ℕ) (t : ℕ) (q : Question) (literals before after : List ℕ) (number : ℕ) (said fault : List ℕ) : Type 0 where
  pub numbers : (number, said) ≡ numbers_of no_record ask_numbers (ask t q literals body before)
  pub fault_is : fault ≡ fault_in (ask t q literals body before)
  pub buffer : after ≡ ask_buffer t q literals body before

-- `words` and `filled` are the table's around the call
pub record Open (body : List ℕ) (t : ℕ) (before after words filled : List ℕ) (number rows blocks : ℕ) (fault : List ℕ) : Type 0 where
  pub numbers : (number, (rows, blocks)) ≡ numbers_of (0, 0) open_numbers (opened t body before words)
  pub fault_is : fault ≡ fault_in (opened t body before words)
  pub buffer : after ≡ open_buffer t body before words
  pub table : filled ≡ open_table t body before words

-- `said` as for Ask; `compared` are values compared
pub record LookUp (body : List ℕ) (t edition : ℕ) (literals table before after : List ℕ) (number : ℕ) (said : List ℕ) (compared : ℕ) (fault : List ℕ) : Type 0 where
  pub numbers : (number, said) ≡ numbers_of no_record ask_numbers (answer_of (looked_up t edition literals table body before))
  pub steps : compared ≡ compared_of (looked_up t edition literals table body before)
  pub fault_is : fault ≡ fault_in (answer_of (looked_up t edition literals table body before))
  pub buffer : after ≡ look_up_buffer t edition literals table body before

-- `bytes` as for Locate, `said` as for Ask
pub record AskFile (bytes column kind : List ℕ) (t : ℕ) (q : Question) (literals before after : List ℕ) (number : ℕ) (said fault : List ℕ) : Type 0 where
  pub numbers : (number, said) ≡ numbers_of no_record ask_file_numbers (file_asked bytes column kind t q literals before)
  pub fault_is : fault ≡ fault_in (file_asked bytes column kind t q literals before)
  pub buffer : after ≡ ask_file_buffer bytes column kind t q literals before
