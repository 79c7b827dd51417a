-- What Locate, and Locate and Ask in turn, answer for any buffers. `bytes` are those of the buffer that is looked at.
use Rattle.std.specs.Prelude.{ℕ, ◌+◌, ◌≡◌, List, [], ◌∷◌, Result, Err, Ok, Option, Some, None}
use Rattle.refusal.specs.declared.Refusal.{Refusal}
use Rattle.refusal.specs.Reading.{and_then, numbers_of, fault_in}
use Rattle.subtract.specs.declared.Answer.{Answer as Said}
use Rattle.subtract.specs.Meaning.{numbers_of_record, no_record, answer_of, said_of}
use Rattle.index_file.specs.declared.Part.{Part}
use Rattle.index_file.specs.Reading.{bytes_of, find, found_number, absent_number}
use Rattle.bitmap_index.specs.declared.Question.{Question}
use Rattle.bitmap_index.specs.Reading.{Answer, ask, ask_buffer}

-- ---- Locate

-- "If the embedded buffer isn't empty it is used and the other isn't looked at; else the file is used": the first of two things
-- where the embedded buffer isn't empty, else the second
unfoldable pub used : {A : Type 0} → List ℕ → A → A → A
used [] ofEmbedded ofFile = ofFile
used (b ∷ embedded) ofEmbedded ofFile = ofEmbedded

-- the bytes that are looked at
abbrev pub bytes_looked_at : List ℕ → List ℕ → List ℕ
bytes_looked_at embedded file = used embedded embedded file

-- the part of the buffer that is handed back: "With the other answers, ABSENT and a refusal, the part is empty"
abbrev pub part_of : Result (Option Part) Refusal → List ℕ → List ℕ
part_of (Err r) bytes = []
part_of (Ok None) bytes = []
part_of (Ok (Some p)) bytes = bytes_of p bytes

-- "The body found is handed back as a part of the buffer it lies in .., not a copy": where the part stands in memory, from the buffer's place on. A place is
-- a pair, of an allocation and an offset in it. With the other answers the part has no bytes, and its place is left open
abbrev pub HandedBack : Result (Option Part) Refusal → ℕ × ℕ → ℕ × ℕ → Type 0
HandedBack (Err r) buffer place = Unit {0}
HandedBack (Ok None) buffer place = Unit {0}
HandedBack (Ok (Some p)) buffer place = place ≡ (buffer.0, p.start.0 + buffer.1)

-- ---- Locate, then Ask on the part that it finds

unfoldable pub ask_part : List ℕ → ℕ → Question → List ℕ → List ℕ → Option Part → Result (Option Answer) Refusal
ask_part bytes t q literals field None = Ok None
ask_part bytes t q literals field (Some p) = and_then (ask t q literals (bytes_of p bytes) field) (λ a. Ok (Some a))

unfoldable pub file_asked : List ℕ → List ℕ → List ℕ → ℕ → Question → List ℕ → List ℕ → Result (Option Answer) Refusal
file_asked bytes column kind t q literals field = and_then (find bytes column kind) (ask_part bytes t q literals field)

-- the buffer then: with ABSENT and with a refusal of Locate as it was
unfoldable pub ask_part_buffer : List ℕ → ℕ → Question → List ℕ → List ℕ → Result (Option Part) Refusal → List ℕ
ask_part_buffer bytes t q literals field (Err r) = field
ask_part_buffer bytes t q literals field (Ok None) = field
ask_part_buffer bytes t q literals field (Ok (Some p)) = ask_buffer t q literals (bytes_of p bytes) field

unfoldable pub ask_file_buffer : List ℕ → List ℕ → List ℕ → ℕ → Question → List ℕ → List ℕ → List ℕ
ask_file_buffer bytes column kind t q literals field = ask_part_buffer bytes t q literals field (find bytes column kind)

-- the call's answer: what is found is Ask's
unfoldable pub file_answer_by : Result (Option Answer) Refusal → Result (Option Said) Refusal
file_answer_by (Err r) = Err r
file_answer_by (Ok None) = Ok None
file_answer_by (Ok (Some a)) = Ok (Some (answer_of a.said))

-- its number and its record's: Ask's, or ABSENT's and all 0
unfoldable pub file_said_numbers : Option Said → ℕ × List ℕ
file_said_numbers None = (absent_number, no_record)
file_said_numbers (Some a) = (found_number, numbers_of_record (said_of a))

unfoldable pub ask_file_out : Result (Option Said) Refusal → ℕ × List ℕ
ask_file_out r = numbers_of no_record file_said_numbers r

-- the same of the reading, where it is no refusal
unfoldable pub ask_file_numbers : Option Answer → ℕ × List ℕ
ask_file_numbers None = (absent_number, no_record)
ask_file_numbers (Some a) = (found_number, numbers_of_record a.said)

-- where its fault is, in three numbers: Ask's, and all 0 with ABSENT. A refusal of Locate carries nothing (index_file's claim `FindCarriesNothing`)
unfoldable pub ask_file_fault : Result (Option Said) Refusal → List ℕ
ask_file_fault r = fault_in r
