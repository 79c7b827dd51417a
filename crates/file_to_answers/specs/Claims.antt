-- One claim from file to answers: all versions, cuts, forms and editions at once, and over the scan. A reading that refuses everything does not have it.
-- Then what a graph may claim of such a file once deletions are subtracted, and versions.
use Rattle.std.specs.Prelude.{ℕ, ◌+◌, ◌≤◌, ◌≡◌, ◌⊎◌, List, [], ◌∷◌, ◌++◌, length, drop, Ok, Some}
use Rattle.numbers.specs.Meaning.{be_at, Bytes, joined}
use Rattle.row_field.specs.Meaning.{size, count}
use Rattle.subtract.specs.declared.Subtracted.{Subtracted}
use Rattle.subtract.specs.Meaning.{subtracted, said_of}
use Rattle.subtract.specs.Reading.{subtract_buffer, record_subtraction}
use Rattle.stored_value.specs.Meaning.{Cell}
use Rattle.index_file.specs.Layout.{file_version}
use Rattle.index_file.specs.declared.Part.{Part}
use Rattle.index_file.specs.Reading.{find}
use Rattle.bitmap_index.specs.declared.Question.{Question}
use Rattle.bitmap_index.specs.Meaning.{WellFormed, scan, null_question}
use Rattle.bitmap_index.specs.Reading.{Answer}
use Rattle.bitmap_index.specs.Promises.{scan_answer}
use Rattle.bitmap_index.specs.Claims.{AnswersAsScan}
use Rattle.file_to_answers.specs.Layout.{ColumnFile}
use Rattle.file_to_answers.specs.Reading.{bytes_looked_at, part_of, file_asked, ask_file_buffer}

-- what is claimed of a column's file: Locate finds a body in it, and of the part that it hands back, with any field that has room, Audit answers the row count
-- and leaves the field zero, and Ask answers every well-formed question of the type, of either edition, as the scan does, bytes behind the field kept
pub record FromFileToAnswers (t : ℕ) (cells : List Cell) (column kind bytes : List ℕ) : Type 0 where
  pub part : Part
  pub is_found : find bytes column kind ≡ Ok (Some part)
  pub answers : (field : List ℕ) → Bytes field → size (length cells) ≤ length field → AnswersAsScan t cells (part_of (find bytes column kind) bytes) field

-- lent as embedded or as file
abbrev pub EachFileIsAnsweredAsTheScan : Type 0
EachFileIsAnsweredAsTheScan =
    (t : ℕ) (cells : List Cell) (column kind embedded file : List ℕ) → ColumnFile t cells column kind (bytes_looked_at embedded file)
    → FromFileToAnswers t cells column kind (bytes_looked_at embedded file)

-- the same of Locate and Ask in one call
abbrev pub FileIsAnswered : Type 0
FileIsAnswered =
    (t : ℕ) (cells : List Cell) (column kind bytes : List ℕ) → ColumnFile t cells column kind bytes → (field : List ℕ) → Bytes field
    → size (length cells) ≤ length field → (q : Question) (ls : List (List ℕ)) → WellFormed t q ls
    → (file_asked bytes column kind t q (joined ls) field ≡ Ok (Some (scan_answer q ls cells field)))
    × (ask_file_buffer bytes column kind t q (joined ls) field ≡ (scan_answer q ls cells field).buffer)

-- ---- what the graph may claim, from the file to the graph

-- what is said once the rows of a field g were subtracted from the answer: the column's rows and null rows, all rows of g, and the rows that the scan chooses and g
-- has not; with the removed ones they are all that the scan chooses
pub record DrawnFrom (q : Question) (ls : List (List ℕ)) (cells : List Cell) (g : List ℕ) (a : Subtracted) : Type 0 where
  pub rows : (said_of a.answer).rows ≡ length cells
  pub nulls : (said_of a.answer).nulls ≡ (scan null_question [] cells).matched
  pub deleted : (said_of a.answer).deleted ≡ count g (length cells)
  pub matched : (said_of a.answer).matched ≡ count (subtracted (length cells) (scan q ls cells).field g) (length cells)
  pub with_removed : (said_of a.answer).matched + a.removed ≡ (scan q ls cells).matched

-- a column's file is asked, and then the rows of g are subtracted with the record of the answer
pub record FileToGraph (bytes column kind : List ℕ) (t : ℕ) (q : Question) (ls : List (List ℕ)) (cells : List Cell) (field g : List ℕ) : Type 0 where
  pub answer : Answer
  pub asked : file_asked bytes column kind t q (joined ls) field ≡ Ok (Some answer)
  pub counts : Subtracted
  pub subtracts : record_subtraction answer.said (ask_file_buffer bytes column kind t q (joined ls) field) g ≡ Ok counts
  pub drawn : DrawnFrom q ls cells g counts
  -- the rows that are left: the scan's less those of g, and what lies behind the field as it was
  pub left : subtract_buffer (length cells) (ask_file_buffer bytes column kind t q (joined ls) field) g
      ≡ subtracted (length cells) (scan q ls cells).field g ++ drop (size (length cells)) field

abbrev pub FileGivesTheGraph : Type 0
FileGivesTheGraph =
    (t : ℕ) (cells : List Cell) (column kind bytes : List ℕ) → ColumnFile t cells column kind bytes → (field g : List ℕ) → Bytes field
    → size (length cells) ≤ length field → size (length cells) ≤ length g → (q : Question) (ls : List (List ℕ)) → WellFormed t q ls
    → FileToGraph bytes column kind t q ls cells field g

-- ---- versions

-- of a file with a version other than 1 no part is handed back
abbrev pub OtherVersionHasNoPart : Type 0
OtherVersionHasNoPart = (bytes column kind : List ℕ) → (be_at 4 bytes 8 ≡ file_version → ⊥) → part_of (find bytes column kind) bytes ≡ []

-- unknown versions never yield rows: a file that is answered has version 1, and its body, as Locate hands it back, version 1 or 2
abbrev pub AnsweredVersions : Type 0
AnsweredVersions =
    (bytes column kind : List ℕ) (t : ℕ) (q : Question) (literals field : List ℕ) (a : Answer) → file_asked bytes column kind t q literals field ≡ Ok (Some a)
    → (be_at 4 bytes 8 ≡ file_version) × ((v : ℕ) (s : List ℕ) → part_of (find bytes column kind) bytes ≡ v ∷ s → (v ≡ 1) ⊎ (v ≡ 2))
