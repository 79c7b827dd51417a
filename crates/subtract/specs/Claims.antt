-- What is proved of a field less the rows of another, in terms of the bits of both, and of the record that is handed back.
use Rattle.std.specs.Prelude.{ℕ, ◌+◌, ◌<◌, ◌≤◌, ◌≡◌, ◌↔◌, ◌⊎◌, true, false, not, ◌&&◌, List, ltb, length, Err, Ok}
use Rattle.row_field.specs.Meaning.{bit, count}
use Rattle.refusal.specs.declared.Refusal.{Refusal}
use Rattle.refusal.specs.declared.Refusal.TheVariants.{Limit, Room}
use Rattle.subtract.specs.declared.Record.{Record}
use Rattle.subtract.specs.declared.Subtracted.{Subtracted}
use Rattle.subtract.specs.Meaning.{subtracted, removed, numbers_of_record, record_from_numbers, keeps, answer_of, said_of}
use Rattle.subtract.specs.Reading.{subtraction, subtract_buffer, record_subtraction}

-- a row is set if it was and is not one below n that the second field has; so "bits of the first buffer that stand for no row below n stay"
abbrev pub ClearsJustTheRows : Type 0
ClearsJustTheRows = (n : ℕ) (f g : List ℕ) (r : ℕ) → bit (subtracted n f g) r ≡ bit f r && not (ltb r n && bit g r)

abbrev pub KeepsTheLength : Type 0
KeepsTheLength = (n : ℕ) (f g : List ℕ) → length (subtracted n f g) ≡ length f

-- rows left and rows removed are the rows that were
abbrev pub LeftAndRemoved : Type 0
LeftAndRemoved = (n : ℕ) (f g : List ℕ) → count (subtracted n f g) n + removed n f g ≡ count f n

-- ---- with a record

-- a record handed out in numbers and in again is the same
abbrev pub NumbersAreTheRecord : Type 0
NumbersAreTheRecord = (said : Record) → record_from_numbers (numbers_of_record said) ≡ said

-- what is handed back for the record `given`, of a first field f and a second g, where it is accepted
pub record CountedAfresh (given : Record) (f g : List ℕ) (a : Subtracted) : Type 0 where
  -- "Matched is counted afresh, as rows left in the first; plus removed, it equals the rows set there before"
  pub matched : (said_of a.answer).matched ≡ count (subtracted given.rows f g) given.rows
  pub with_removed : (said_of a.answer).matched + a.removed ≡ count f given.rows
  -- "Deleted then counts all rows set below that count in the second field"
  pub deleted : (said_of a.answer).deleted ≡ count g given.rows
  -- "the rest stays"
  pub rows : (said_of a.answer).rows ≡ given.rows
  pub nulls : (said_of a.answer).nulls ≡ given.nulls
  -- "skip is said exactly when matched is 0": so exactly if each row below the row count that was set is deleted
  pub answered : a.answer ≡ answer_of (said_of a.answer)
  pub skip : (keeps (said_of a.answer).matched ≡ false) ↔ ((r : ℕ) → r < given.rows → bit f r ≡ true → bit g r ≡ true)
  -- rows removed are among the deleted ones, and these and the rows that match are different rows
  pub removed_deleted : a.removed ≤ (said_of a.answer).deleted
  pub together : (said_of a.answer).matched + (said_of a.answer).deleted ≤ (said_of a.answer).rows
  -- the first buffer is as Subtract leaves it: what stands for no row below the row count stays (`ClearsJustTheRows`, `KeepsTheLength`)
  pub buffer : subtract_buffer given.rows f g ≡ subtracted given.rows f g

abbrev pub RecordIsCountedAfresh : Type 0
RecordIsCountedAfresh = (given : Record) (f g : List ℕ) (a : Subtracted) → record_subtraction given f g ≡ Ok a → CountedAfresh given f g a

-- Subtract with a record is refused exactly as Subtract with its row count, for LIMIT or ROOM, whatever its other numbers are; the first buffer then stays
abbrev pub RefusedAsSubtract : Type 0
RefusedAsSubtract =
    (given : Record) (f g : List ℕ) (r : Refusal)
    → ((record_subtraction given f g ≡ Err r) ↔ (subtraction given.rows f g ≡ Err r))
    × (record_subtraction given f g ≡ Err r → ((r ≡ Limit) ⊎ (r ≡ Room)) × (subtract_buffer given.rows f g ≡ f))
