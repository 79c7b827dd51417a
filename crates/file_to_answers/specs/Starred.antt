-- Cases written out, in one table with one statement, `StarredHolds`. The questions are asked in both editions (NOT EQUAL 7 gives 06 in the first, 02 in the
-- second), and answered with the whole record.
use Rattle.std.specs.Prelude.{ℕ, ◌≤◌, ◌<◌, ◌≡◌, not, List, [], ◌∷◌, ltb, negsuc, length, Err, Ok, Some}
use Rattle.numbers.specs.Meaning.{All, signed32, four_bytes}
use Rattle.refusal.specs.Meaning.{limit}
use Rattle.refusal.specs.declared.Refusal.TheVariants.{Range, Twice}
use Rattle.refusal.specs.Reading.{check}
use Rattle.row_field.specs.Meaning.{bit, mark}
use Rattle.subtract.specs.declared.Record.{Record}
use Rattle.roaring.specs.Layout.{Bitmap}
use Rattle.roaring.specs.Reading.{parsed, read}
use Rattle.stored_value.specs.Meaning.{Cell, null, value}
use Rattle.index_file.specs.Reading.{find, locate_numbers}
use Rattle.subtract.specs.declared.Answer.{Answer as Said}
use Rattle.subtract.specs.declared.Answer.TheVariants.{Skip, Keep}
use Rattle.bitmap_index.specs.Meaning.{equal, not_equal, first_edition, second_edition, question}
use Rattle.bitmap_index.specs.declared.Question.{Question}
use Rattle.bitmap_index.specs.Layout.{EntryRows, ColumnBody}
use Rattle.bitmap_index.specs.Reading.{entry_placed, audit, Answer, ask, answered_by}
use Rattle.bitmap_index.specs.Promises.{scan_answer}
use Rattle.file_to_answers.specs.Layout.{ColumnFile}
use Rattle.file_to_answers.specs.Reading.{bytes_looked_at, part_of, file_asked}

-- TINYINT column s = 7, 9, null
abbrev pub cells : List Cell
cells = value (7 ∷ []) ∷ value (9 ∷ []) ∷ null ∷ []

abbrev pub one : List ℕ
one = 0x01 ∷ 0 ∷ 0 ∷ 0 ∷ 3 ∷ 0 ∷ 0 ∷ 0 ∷ 2 ∷ 1 ∷ 0xFF ∷ 0xFF ∷ 0xFF ∷ 0xFD ∷ 7 ∷ 0xFF ∷ 0xFF ∷ 0xFF ∷ 0xFF ∷ 9 ∷ 0xFF ∷ 0xFF ∷ 0xFF ∷ 0xFE ∷ []

abbrev pub two : List ℕ
two =
    0x02 ∷ 0 ∷ 0 ∷ 0 ∷ 3 ∷ 0 ∷ 0 ∷ 0 ∷ 2 ∷ 1 ∷ 0xFF ∷ 0xFF ∷ 0xFF ∷ 0xFD ∷ 0xFF ∷ 0xFF ∷ 0xFF ∷ 0xFF ∷ 0 ∷ 0 ∷ 0 ∷ 2 ∷ 7 ∷ 0 ∷ 0 ∷ 0 ∷ 0 ∷ 9 ∷ 0 ∷ 0 ∷ 0 ∷ 0x0D ∷ 0 ∷ 0 ∷ 0 ∷ 0x1A
    ∷ 0 ∷ 0 ∷ 0 ∷ 1 ∷ 7 ∷ 0xFF ∷ 0xFF ∷ 0xFF ∷ 0xFF ∷ 0xFF ∷ 0xFF ∷ 0xFF ∷ 0xFF ∷ 0 ∷ 0 ∷ 0 ∷ 1 ∷ 9 ∷ 0xFF ∷ 0xFF ∷ 0xFF ∷ 0xFE ∷ 0xFF ∷ 0xFF ∷ 0xFF ∷ 0xFF ∷ []

-- the file of 71 bytes: its head, then the body
abbrev pub file : List ℕ
file =
    0 ∷ 5 ∷ 0x4E ∷ 0x4E ∷ 0xD0 ∷ 0x1A ∷ 0x35 ∷ 0xAE ∷ 0 ∷ 0 ∷ 0 ∷ 1 ∷ 0 ∷ 0 ∷ 0 ∷ 0x2F ∷ 0 ∷ 0 ∷ 0 ∷ 1 ∷ 0 ∷ 1 ∷ 0x73 ∷ 0 ∷ 0 ∷ 0 ∷ 1 ∷ 0 ∷ 6 ∷ 0x62 ∷ 0x69 ∷ 0x74 ∷ 0x6D ∷ 0x61 ∷ 0x70
    ∷ 0 ∷ 0 ∷ 0 ∷ 0x2F ∷ 0 ∷ 0 ∷ 0 ∷ 0x18 ∷ 0 ∷ 0 ∷ 0 ∷ 0 ∷ one

abbrev pub s : List ℕ
s = 0x73 ∷ []

abbrev pub bitmap : List ℕ
bitmap = 0x62 ∷ 0x69 ∷ 0x74 ∷ 0x6D ∷ 0x61 ∷ 0x70 ∷ []

pub data Case : Type 0 where
  -- the file is the column's, and Locate hands back this body of it
  locates : List ℕ → Case
  -- the body is the column's, and Audit of it gives three rows
  audits : List ℕ → Case
  -- the question with this TINYINT literal, of either body, of the file and of the scan: the field's byte, how many rows match, and what Ask answers
  answers : Question → ℕ → ℕ → ℕ → Said → Case
  -- the bytes are a bitmap of these rows, and are read so
  reads : List ℕ → List ℕ → Case
  -- the offset, as 32 bits, names this row: it is placed as this row alone, and so it is laid out, whatever the length beside it
  names : ℕ → ℕ → Case
  -- the offset is RANGE always: for each row count that is allowed
  outside : ℕ → Case

-- the record of an answer in which so many rows match: three rows, one of them null, none deleted; and the answer, whose field is one byte
abbrev pub record_of_three : ℕ → Record
record_of_three matched = record { rows = 3; nulls = 1; deleted = 0; matched = matched }

abbrev pub answer_of : ℕ → ℕ → Answer
answer_of field matched = record { buffer = field ∷ []; said = record_of_three matched }

-- the buffer that is lent is one byte, all its bits set before the call
abbrev pub Holds : Case → Type 0
Holds (locates body) =
    ((locate_numbers (find (bytes_looked_at [] file) s bitmap)).0 ≡ 0) × (part_of (find (bytes_looked_at [] file) s bitmap) (bytes_looked_at [] file) ≡ body)
    × ColumnFile 0 cells s bitmap file × (length file ≡ 71)
Holds (audits body) = (audit 0 body (0xFF ∷ []) ≡ Ok 3) × ColumnBody 0 cells body
Holds (answers q v field matched answer) =
    (ask 0 q (v ∷ []) one (0xFF ∷ []) ≡ Ok (answer_of field matched))
    × (ask 0 q (v ∷ []) two (0xFF ∷ []) ≡ Ok (answer_of field matched))
    × (file_asked file s bitmap 0 q (v ∷ []) (0xFF ∷ []) ≡ Ok (Some (answer_of field matched)))
    × (scan_answer q ((v ∷ []) ∷ []) cells (0xFF ∷ []) ≡ answer_of field matched)
    × (answered_by (Ok (answer_of field matched)) ≡ Ok answer)
Holds (reads bytes rows) = (read bytes ≡ Ok (parsed rows (length bytes) [])) × Bitmap rows bytes
Holds (names offset row) =
    (signed32 offset ≡ negsuc row)
    × ((entry extent n : ℕ) (region field : List ℕ)
    → entry_placed entry (signed32 offset) extent n region field ≡ check (ltb row n) (Range entry) (check (not (bit field row)) (Twice entry) (Ok (mark field row))))
    × ((c : Cell) (extent : ℕ) (region : List ℕ) → extent < four_bytes → EntryRows region (row ∷ []) (record { cell = c; offset = offset; extent = extent }))
Holds (outside offset) = (entry extent n : ℕ) (region field : List ℕ) → n ≤ limit → entry_placed entry (signed32 offset) extent n region field ≡ Err (Range entry)

abbrev pub table : List Case
table =
    locates one
    ∷ audits one
    ∷ audits two
    ∷ answers (question first_edition equal) 7 0x01 1 (Keep (record_of_three 1))
    ∷ answers (question second_edition equal) 7 0x01 1 (Keep (record_of_three 1))
    ∷ answers (question first_edition not_equal) 7 0x06 2 (Keep (record_of_three 2))
    ∷ answers (question second_edition not_equal) 7 0x02 1 (Keep (record_of_three 1))
    ∷ answers (question first_edition equal) 8 0x00 0 (Skip (record_of_three 0))
    ∷ answers (question second_edition equal) 8 0x00 0 (Skip (record_of_three 0))
    ∷ reads
    (0x3A ∷ 0x30 ∷ 0 ∷ 0 ∷ 1 ∷ 0 ∷ 0 ∷ 0 ∷ 0 ∷ 0 ∷ 2 ∷ 0 ∷ 0x10 ∷ 0 ∷ 0 ∷ 0 ∷ 0 ∷ 0 ∷ 2 ∷ 0 ∷ 5 ∷ 0 ∷ [])
    (0 ∷ 2 ∷ 5 ∷ [])
    ∷ reads (0x3B ∷ 0x30 ∷ 0 ∷ 0 ∷ 1 ∷ 0 ∷ 0 ∷ 3 ∷ 0 ∷ 1 ∷ 0 ∷ 1 ∷ 0 ∷ 3 ∷ 0 ∷ []) (1 ∷ 2 ∷ 3 ∷ 4 ∷ [])
    ∷ names 0xFFFFFFFF 0
    ∷ names 0x80000000 2147483647
    ∷ outside 0x80000000
    ∷ []

abbrev pub StarredHolds : Type 0
StarredHolds = All Holds table
