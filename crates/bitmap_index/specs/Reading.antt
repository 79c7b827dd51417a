-- What Audit and Ask answer for any bytes: their stages in their order, each begun only where the
-- one before passed.
use Rattle.std.specs.Prelude.{ℕ, ◌+◌, not, ◌&&◌, cond, List, [], ◌∷◌, eqb, ltb, leb, ℤ, pos, negsuc, length, drop, Result, Err, Ok}
use Rattle.numbers.specs.Meaning.{signed32, minus_one_32, row}
use Rattle.refusal.specs.declared.Refusal.{Refusal}
use Rattle.refusal.specs.Meaning.{limit, number_of, fault_of, no_fault}
use Rattle.refusal.specs.declared.Refusal.TheVariants.{Bitmap, Range, Twice, Missing, Room, Literal, Limit}
use Rattle.row_field.specs.Meaning.{size, bit, mark, mark_all, any_set, count, first_clear_row, cleared}
use Rattle.subtract.specs.declared.Answer.{Answer as Said}
use Rattle.subtract.specs.declared.Record.{Record}
use Rattle.subtract.specs.Meaning.{numbers_of_record, no_record, answer_of, said_of}
use Rattle.roaring.specs.declared.Extent.{Extent}
use Rattle.roaring.specs.declared.Extent.TheVariants.{AsLong, Exactly}
use Rattle.roaring.specs.Reading.{container_of, read, measured, end_of, rows_read}
use Rattle.refusal.specs.Reading.{check, and_then, refused_as}
use Rattle.stored_value.specs.Meaning.{types, most_literals, Cell, null, value}
use Rattle.stored_value.specs.Reading.{literals}
use Rattle.dictionary.specs.Layout.{Entry}
use Rattle.dictionary.specs.Reading.{Dictionary, dictionary}
use Rattle.bitmap_index.specs.declared.Question.{Question}
use Rattle.bitmap_index.specs.Meaning.{questions, is_known_edition, chosen, takes, null_question}

-- ---- the bitmaps

-- "Length −1, and every version 1 entry, means as long as the bitmap is; any other length must be exactly the bitmap's". One below −1 is then longer than any
-- body within the limit
unfoldable pub extent_said : ℕ → Extent
extent_said extent = cond (eqb extent minus_one_32) AsLong (Exactly extent)

-- "The entry's number (0 for null, then 1 onward in stored order)". Values are numbered from 1 also where null has no entry; `next` is the number of
-- the next value's entry
abbrev pub null_number : ℕ
null_number = 0

unfoldable pub entry_number : ℕ → Cell → ℕ
entry_number next null = null_number
entry_number next (value v) = next

-- the same behind an entry
unfoldable pub next_number : ℕ → Cell → ℕ
next_number next null = next
next_number next (value v) = next + 1

abbrev pub first_number : ℕ
first_number = 1

-- the rows of an entry's bitmap placed in a field of n rows: "BITMAP, else RANGE, else TWICE", each with the entry's number, BITMAP with the container too
unfoldable pub bitmap_placed : ℕ → Extent → ℕ → List ℕ → List ℕ → Result (List ℕ) Refusal
bitmap_placed entry extent n bytes field =
    and_then (refused_as (λ why. Bitmap entry (container_of why)) (measured extent bytes)) (λ bitmap. check (leb (end_of bitmap.rows) n) (Range entry)
    (check (not (any_set field bitmap.rows)) (Twice entry) (Ok (mark_all field bitmap.rows))))

-- "a negative offset means the single row −1 − offset, and the length isn't looked at .. Otherwise the bitmap starts at the body plus the offset"
unfoldable pub entry_placed : ℕ → ℤ → ℕ → ℕ → List ℕ → List ℕ → Result (List ℕ) Refusal
entry_placed entry (negsuc r) extent n region field = check (ltb r n) (Range entry) (check (not (bit field r)) (Twice entry) (Ok (mark field r)))
entry_placed entry (pos o) extent n region field = bitmap_placed entry (extent_said extent) n (drop o region) field

unfoldable pub place_entry : ℕ → ℕ → List ℕ → List ℕ → Entry → Result (List ℕ) Refusal
place_entry next n region field e = entry_placed (entry_number next e.cell) (signed32 e.offset) e.extent n region field

-- "null's and each entry's bitmap in stored order"
unfoldable pub place_entries : ℕ → ℕ → List ℕ → List Entry → List ℕ → Result (List ℕ) Refusal
place_entries next n region [] field = Ok field
place_entries next n region (e ∷ es) field = and_then (place_entry next n region field e) (place_entries (next_number next e.cell) n region es)

-- ---- Audit: the limit, the type, the dictionary, ROOM; then every bitmap in a zero field, then MISSING

-- "a lent field has fewer than ceil(n/8) bytes"
unfoldable pub room_for : List ℕ → Dictionary → Result Dictionary Refusal
room_for field d = check (leb (size d.rows) (length field)) Room (Ok d)

-- all that comes before a byte of the field is written. Of an unknown type, `dictionary` says LITERAL before it looks at a byte
unfoldable pub prepared : ℕ → List ℕ → List ℕ → Result Dictionary Refusal
prepared t body field = check (leb (length body) limit) Limit (and_then (dictionary t body) (room_for field))

-- in a field that is zero: every row has its place, and else "a row never placed", the lowest of them
unfoldable pub audited : Dictionary → List ℕ → Result ℕ Refusal
audited d zero =
    and_then (place_entries first_number d.rows d.region d.entries zero) (λ full.
    check (eqb (count full d.rows) d.rows) (Missing (row (first_clear_row full 0 d.rows))) (Ok d.rows))

unfoldable pub audit : ℕ → List ℕ → List ℕ → Result ℕ Refusal
audit t body field = and_then (prepared t body field) (λ d. audited d (cleared d.rows field))

-- "Refusals before and at the ROOM stage leave the buffer untouched. Later ones leave the field's ceil(n/8) bytes zero. An accepted audit leaves them zero too"
unfoldable pub zeroed_from : Result Dictionary Refusal → List ℕ → List ℕ
zeroed_from (Err r) field = field
zeroed_from (Ok d) field = cleared d.rows field

unfoldable pub audit_buffer : ℕ → List ℕ → List ℕ → List ℕ
audit_buffer t body field = zeroed_from (prepared t body field) field

-- ---- Ask: the literals, the audit, then the rows of each chosen entry in a zero field, and the record of the answer

-- the entries whose rows the question chooses
unfoldable pub chosen_of : Question → List (List ℕ) → List Entry → List Entry
chosen_of q ls [] = []
chosen_of q ls (e ∷ es) = cond (chosen q ls e.cell) (e ∷ chosen_of q ls es) (chosen_of q ls es)

-- the rows at an entry's place, which the audit has placed before: the single row of a negative offset, or those of the bitmap there
unfoldable pub rows_for : ℤ → List ℕ → List ℕ
rows_for (negsuc r) region = r ∷ []
rows_for (pos o) region = rows_read (read (drop o region))

-- those of an entry
unfoldable pub rows_at : List ℕ → Entry → List ℕ
rows_at region e = rows_for (signed32 e.offset) region

-- the rows of entries, marked one entry after the other
unfoldable pub mark_entries : List ℕ → List Entry → List ℕ → List ℕ
mark_entries region [] field = field
mark_entries region (e ∷ es) field = mark_entries region es (mark_all field (rows_at region e))

-- what is marked in a field that is zero for a question. An audit comes before, so that BITMAP, RANGE and TWICE aren't tested again
unfoldable pub marked_for : Question → List (List ℕ) → Dictionary → List ℕ → List ℕ
marked_for q ls d zero = mark_entries d.region (chosen_of q ls d.entries) zero

-- "Counts are counts of ones in the field": how many rows are then set
unfoldable pub matched_for : Question → List (List ℕ) → Dictionary → List ℕ → ℕ
matched_for q ls d zero = count (marked_for q ls d zero) d.rows

-- what an accepted question leaves in the buffer, and its record
pub record Answer : Type 0 where
  pub buffer : List ℕ
  pub said : Record

-- "The answer record gains row count, null rows and deleted rows besides matched rows. Deleted is 0 until deletions are subtracted". Null rows are the
-- rows of null's entry, whatever is asked
unfoldable pub answered : Question → List (List ℕ) → Dictionary → List ℕ → Answer
answered q ls d zero =
    record { buffer = marked_for q ls d zero; said = record { rows = d.rows; nulls = matched_for null_question [] d zero; deleted = 0; matched = matched_for q ls d zero } }

-- "audits the whole body, then answers"
unfoldable pub audited_answer : Question → List (List ℕ) → Dictionary → List ℕ → Result Answer Refusal
audited_answer q ls d zero = and_then (audited d zero) (λ rows. Ok (answered q ls d zero))

-- "A well-formed question has a known type and name and literals that fit, in form and number": the limits on both buffers, then the type, the edition and the
-- name, then the literals in turn, then their number. "A question with another edition number isn't well formed: LITERAL, before the literals are read"
unfoldable pub well_formed : ℕ → Question → List ℕ → List ℕ → Result (List (List ℕ)) Refusal
well_formed t q literal body =
    check (leb (length body) limit && leb (length literal) limit) Limit
    (check (ltb t types && (is_known_edition q.edition && ltb q.name questions)) Literal
    (and_then (literals t most_literals [] literal) (λ ls. check (takes q.name (length ls)) Literal (Ok ls))))

unfoldable pub ask : ℕ → Question → List ℕ → List ℕ → List ℕ → Result Answer Refusal
ask t q literal body field =
    and_then (well_formed t q literal body) (λ ls. and_then (prepared t body field) (λ d. audited_answer q ls d (cleared d.rows field)))

-- the buffer then: the answer's, and with a refusal what Audit leaves; a question that is refused leaves it untouched
unfoldable pub answer_buffer : Result Answer Refusal → List ℕ → List ℕ
answer_buffer (Err r) otherwise = otherwise
answer_buffer (Ok a) otherwise = a.buffer

unfoldable pub ask_buffer : ℕ → Question → List ℕ → List ℕ → List ℕ → List ℕ
ask_buffer t q literal body field =
    answer_buffer (ask t q literal body field) (zeroed_from (and_then (well_formed t q literal body) (λ ls. prepared t body field)) field)

-- ---- the calls' answers, and their numbers: the answer's, 0 for accepted and else the refusal's in the table of refusals; then Audit's row count, or the four of Ask's
-- record, all 0 with a refusal. What the numbers are is said by refusal's `numbers_of` of the reading, `audit_numbers` and `ask_numbers` being those of what was
-- accepted

-- Audit's: a refusal, or the row count
abbrev pub audit_numbers : ℕ → ℕ × ℕ
audit_numbers n = (0, n)

unfoldable pub audit_out : Result ℕ Refusal → ℕ × ℕ
audit_out (Err r) = (number_of r, 0)
audit_out (Ok n) = (0, n)

-- where the answer's fault is, in three numbers: refusal's `fault_in` of the reading
unfoldable pub audit_fault : Result ℕ Refusal → List ℕ
audit_fault (Err r) = fault_of r
audit_fault (Ok n) = no_fault

-- Ask's: a refusal, or skip or keep with the record
unfoldable pub answered_by : Result Answer Refusal → Result Said Refusal
answered_by (Err r) = Err r
answered_by (Ok a) = Ok (answer_of a.said)

-- the numbers of an accepted answer, of the reading and of the code: both have the number 0, and matched 0 is skip
abbrev pub ask_numbers : Answer → ℕ × List ℕ
ask_numbers a = (0, numbers_of_record a.said)

abbrev pub said_numbers : Said → ℕ × List ℕ
said_numbers a = (0, numbers_of_record (said_of a))

unfoldable pub ask_out : Result Said Refusal → ℕ × List ℕ
ask_out (Err r) = (number_of r, no_record)
ask_out (Ok a) = (0, numbers_of_record (said_of a))

unfoldable pub ask_fault : Result Said Refusal → List ℕ
ask_fault (Err r) = fault_of r
ask_fault (Ok a) = no_fault
