-- What Subtract, with a row count and with a record, answers for any two fields, and what the first buffer holds after it ("Subtract checks LIMIT, then ROOM,
-- and changes nothing when it refuses").
use Rattle.std.specs.Prelude.{ℕ, List, leb, length, Result, Err, Ok}
use Rattle.refusal.specs.Meaning.{limit, number_of}
use Rattle.refusal.specs.Reading.{check, and_then}
use Rattle.refusal.specs.declared.Refusal.{Refusal}
use Rattle.refusal.specs.declared.Refusal.TheVariants.{Limit, Room}
use Rattle.row_field.specs.Meaning.{size, count}
use Rattle.subtract.specs.declared.Counts.{Counts}
use Rattle.subtract.specs.declared.Record.{Record}
use Rattle.subtract.specs.declared.Subtracted.{Subtracted}
use Rattle.subtract.specs.Meaning.{subtracted, removed, numbers_of_record, no_record, answer_of, said_of}

-- "answers rows left and rows removed": LIMIT for a row count above the limit, then ROOM for a field with fewer than ceil(n / 8) bytes; else the rows below n
-- that are left in f, and those removed
unfoldable pub subtraction : ℕ → List ℕ → List ℕ → Result Counts Refusal
subtraction n f g =
    check (leb n limit) Limit
    (check (leb (size n) (length f)) Room
    (check (leb (size n) (length g)) Room
    (Ok (record { left = count (subtracted n f g) n; removed = removed n f g }))))

-- the first buffer after the call: a refusal changes nothing
unfoldable pub buffer_by : Result Counts Refusal → ℕ → List ℕ → List ℕ → List ℕ
buffer_by (Err r) n f g = f
buffer_by (Ok c) n f g = subtracted n f g

abbrev pub subtract_buffer : ℕ → List ℕ → List ℕ → List ℕ
subtract_buffer n f g = buffer_by (subtraction n f g) n f g

-- an answer's number, 0 for accepted and else the refusal's; then rows left and rows removed, 0 with a refusal
unfoldable pub subtract_out : Result Counts Refusal → ℕ × (ℕ × ℕ)
subtract_out (Err r) = (number_of r, (0, 0))
subtract_out (Ok c) = (0, (c.left, c.removed))

-- the same of accepted counts
abbrev pub subtract_numbers : Counts → ℕ × (ℕ × ℕ)
subtract_numbers c = (0, (c.left, c.removed))

-- ---- with a record: "a second Subtract takes the record, uses its row count and hands it back with rows removed"

-- a record with other deleted and matched rows: neither is added to what it had, and "the rest stays"
abbrev pub replaced : Record → ℕ → ℕ → Record
replaced given deleted matched = record { rows = given.rows; nulls = given.nulls; deleted = deleted; matched = matched }

-- "Deleted then counts all rows set below that count in the second field .. Matched is counted afresh, as rows left in the first", and skip is said exactly when
-- matched is 0. LIMIT and ROOM are Subtract's, and the first buffer is then as Subtract leaves it
unfoldable pub record_subtraction : Record → List ℕ → List ℕ → Result Subtracted Refusal
record_subtraction given f g =
    and_then (subtraction given.rows f g) (λ counts.
    Ok (record { answer = answer_of (replaced given (count g given.rows) counts.left); removed = counts.removed }))

-- the answer's number; then the record's four and rows removed, all 0 with a refusal
unfoldable pub record_subtract_out : Result Subtracted Refusal → ℕ × (List ℕ × ℕ)
record_subtract_out (Err r) = (number_of r, (no_record, 0))
record_subtract_out (Ok a) = (0, (numbers_of_record (said_of a.answer), a.removed))

-- the same of what was accepted
abbrev pub record_subtract_numbers : Subtracted → ℕ × (List ℕ × ℕ)
record_subtract_numbers a = (0, (numbers_of_record (said_of a.answer), a.removed))
