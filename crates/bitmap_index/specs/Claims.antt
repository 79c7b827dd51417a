-- What is claimed of Audit and Ask, over their definitions in Reading; proofs/Theorems proves it. `Bytes` is asked of buffers: a buffer's
-- numbers are bytes.
use Rattle.std.specs.Prelude.{ℕ, ◌+◌, ◌<◌, ◌≤◌, ◌≡◌, ◌↔◌, true, false, cond, List, [], ◌∷◌, ◌++◌, eqb, ltb, leb, length, drop, pos, Err, Ok}
use Rattle.numbers.specs.Meaning.{Bytes, joined, signed32, sign_bit, minus_one_32}
use Rattle.refusal.specs.Meaning.{limit}
use Rattle.refusal.specs.declared.Refusal.{Refusal}
use Rattle.refusal.specs.declared.Refusal.TheVariants.{Short, Magic, Version, Head, Dict, Bitmap, Range, Twice, Missing, Room, Literal, Limit, Checksum, NoBin}
use Rattle.refusal.specs.Reading.{check, and_then}
use Rattle.refusal.specs.Claims.{CarriesNothing}
use Rattle.row_field.specs.Meaning.{size, bit, count, cleared, Below}
use Rattle.subtract.specs.Meaning.{subtracted, removed, keeps}
use Rattle.roaring.specs.declared.Extent.{Extent}
use Rattle.roaring.specs.declared.Extent.TheVariants.{AsLong, Exactly}
use Rattle.roaring.specs.Faults.{Broken}
use Rattle.stored_value.specs.Meaning.{types, Cell, null, value}
use Rattle.dictionary.specs.Layout.{Entry}
use Rattle.dictionary.specs.Reading.{Dictionary, dictionary}
use Rattle.dictionary.specs.Claims.{Once}
use Rattle.bitmap_index.specs.declared.Question.{Question}
use Rattle.bitmap_index.specs.Meaning.{not_equal, is_not_in, is_null, first_edition, second_edition, is_known_edition, question, WellFormed, Scanned, scan, null_question}
use Rattle.bitmap_index.specs.Layout.{EntryRows, ColumnBody}
use Rattle.bitmap_index.specs.Reading.{prepared, audit, audit_buffer, well_formed, Answer, ask, ask_buffer}
use Rattle.bitmap_index.specs.Promises.{scan_answer}

-- ---- From a body to its answers. A reading that refuses everything does not have it

-- Audit finds all rows and leaves the field zero, and Ask answers every well-formed question, of either edition, as the scan does, which
-- follows the rule of that edition
pub record AnswersAsScan (t : ℕ) (cells : List Cell) (body field : List ℕ) : Type 0 where
  pub audited : audit t body field ≡ Ok (length cells)
  pub audited_buffer : audit_buffer t body field ≡ cleared (length cells) field
  pub asked : (q : Question) (ls : List (List ℕ)) → WellFormed t q ls → ask t q (joined ls) body field ≡ Ok (scan_answer q ls cells field)
  pub asked_buffer : (q : Question) (ls : List (List ℕ)) → WellFormed t q ls → ask_buffer t q (joined ls) body field ≡ (scan_answer q ls cells field).buffer

-- whatever body a writer laid out for a column, in any field with room
abbrev pub ColumnIsAnswered : Type 0
ColumnIsAnswered =
    (t : ℕ) (cells : List Cell) (body : List ℕ) → ColumnBody t cells body → (field : List ℕ) → Bytes field → size (length cells) ≤ length field
    → AnswersAsScan t cells body field

-- ---- What Audit accepts is the body of exactly one column, each row of which has exactly one place, and Ask answers as the scan of that column

-- a body of some column, with as many rows as Audit says
abbrev pub AcceptedIsAColumn : Type 0
AcceptedIsAColumn =
    (t : ℕ) (body field : List ℕ) (n : ℕ) → Bytes body → audit t body field ≡ Ok n → (cells : List Cell) × ColumnBody t cells body × (length cells ≡ n)

-- bytes are the body of at most one column
abbrev pub OneColumn : Type 0
OneColumn = (t : ℕ) (cells cells' : List Cell) (body : List ℕ) → ColumnBody t cells body → ColumnBody t cells' body → cells ≡ cells'

-- the rows of each entry, a list for each, in the entries' order
abbrev pub RowsOfEach : List ℕ → List (List ℕ) → List Entry → Type 0
RowsOfEach region [] [] = Unit {0}
RowsOfEach region [] (e ∷ es) = ⊥
RowsOfEach region (rs ∷ rows) [] = ⊥
RowsOfEach region (rs ∷ rows) (e ∷ es) = EntryRows region rs e × RowsOfEach region rows es

-- how often a row stands among rows
abbrev pub times : ℕ → List ℕ → ℕ
times r [] = 0
times r (q ∷ rs) = cond (eqb r q) 1 0 + times r rs

-- what a body of n rows says of them: each cell, null or a value, has at most one entry, each row below n stands once under all of them, and no other row does
pub record OnePlaceEach (t : ℕ) (body : List ℕ) (n : ℕ) : Type 0 where
  pub read : Dictionary
  pub is : dictionary t body ≡ Ok read
  pub many : read.rows ≡ n
  pub rows : List (List ℕ)
  pub placed : RowsOfEach read.region rows read.entries
  pub once : Once read.entries
  pub one : (r : ℕ) → r < n → times r (joined rows) ≡ 1
  pub none : (r : ℕ) → n ≤ r → times r (joined rows) ≡ 0

abbrev pub EachRowHasOnePlace : Type 0
EachRowHasOnePlace = (t : ℕ) (body field : List ℕ) (n : ℕ) → Bytes body → audit t body field ≡ Ok n → OnePlaceEach t body n

-- the column whose body it is, and no other's
pub record TheColumn (t : ℕ) (body : List ℕ) (cells : List Cell) : Type 0 where
  pub is_body : ColumnBody t cells body
  pub only : (others : List Cell) → ColumnBody t others body → others ≡ cells

-- what Audit accepts is answered as the scan
abbrev pub AcceptedIsAnswered : Type 0
AcceptedIsAnswered =
    (t : ℕ) (body field : List ℕ) (n : ℕ) → Bytes body → Bytes field → audit t body field ≡ Ok n
    → (cells : List Cell) × TheColumn t body cells × (length cells ≡ n) × AnswersAsScan t cells body field

-- an answer of Ask, to any edition, name and literals, is the scan's answer to a well-formed question
pub record AsTheScan (t : ℕ) (q : Question) (literal body field : List ℕ) (a : Answer) : Type 0 where
  pub ls : List (List ℕ)
  pub spelled : literal ≡ joined ls
  pub well_formed_lem : WellFormed t q ls
  pub cells : List Cell
  pub column : TheColumn t body cells
  pub answer : a ≡ scan_answer q ls cells field

abbrev pub AnsweredAsTheScan : Type 0
AnsweredAsTheScan =
    (t : ℕ) (q : Question) (literal body field : List ℕ) (a : Answer) → Bytes literal → Bytes body → Bytes field → ask t q literal body field ≡ Ok a
    → AsTheScan t q literal body field a

-- ---- The record of an answer, for any bytes: matched are the ones in the field, null rows are those that IS NULL matches, and nothing is deleted
-- yet

pub record SaysItsRows (t : ℕ) (body field : List ℕ) (a : Answer) : Type 0 where
  pub matched : a.said.matched ≡ count a.buffer a.said.rows
  pub nulls : (b : Answer) → ask t null_question [] body field ≡ Ok b → b.said.matched ≡ a.said.nulls
  pub deleted : a.said.deleted ≡ 0

abbrev pub RecordSaysItsRows : Type 0
RecordSaysItsRows = (t : ℕ) (q : Question) (literal body field : List ℕ) (a : Answer) → ask t q literal body field ≡ Ok a → SaysItsRows t body field a

-- ---- "for every question but IS NULL, which stays, edition 2 is edition 1 without the rows of IS NULL". Said of the scan; the two claims above carry
-- it to Ask

-- of n rows the scan `second` is `first` without the rows of `nulls`: its field is what Subtract leaves of the first's, its count is less by the rows so taken
-- away, and it says skip exactly if the first chose no other row
pub record IsWithout (n : ℕ) (second first nulls : Scanned) : Type 0 where
  pub field : second.field ≡ subtracted n first.field nulls.field
  pub count : second.matched + removed n first.field nulls.field ≡ first.matched
  pub skip : (keeps second.matched ≡ false) ↔ ((r : ℕ) → r < n → bit first.field r ≡ true → bit nulls.field r ≡ true)

abbrev pub SecondIsFirstWithoutNulls : Type 0
SecondIsFirstWithoutNulls =
    (name : ℕ) (ls : List (List ℕ)) (cells : List Cell) → (name ≡ is_null → ⊥)
    → IsWithout (length cells) (scan (question second_edition name) ls cells) (scan (question first_edition name) ls cells) (scan null_question [] cells)

-- "2 drops null rows from NOT EQUAL and NOT IN", and from no other: IS NULL "stays", and so do EQUAL, IN and IS NOT NULL
abbrev pub OthersStay : Type 0
OthersStay =
    (name : ℕ) (ls : List (List ℕ)) (cells : List Cell) → (name ≡ not_equal → ⊥) → (name ≡ is_not_in → ⊥)
    → scan (question second_edition name) ls cells ≡ scan (question first_edition name) ls cells

-- so that Ask's answer to them is the same in both, for any bytes and refusals included: whoever asks them may name either edition
abbrev pub OthersAreAnsweredAlike : Type 0
OthersAreAnsweredAlike =
    (t name : ℕ) (literal body field : List ℕ) → (name ≡ not_equal → ⊥) → (name ≡ is_not_in → ⊥)
    → (ask t (question second_edition name) literal body field ≡ ask t (question first_edition name) literal body field)
    × (ask_buffer t (question second_edition name) literal body field ≡ ask_buffer t (question first_edition name) literal body field)

-- "A question with another edition number isn't well formed: LITERAL, before the literals are read", and so before the body is; the buffer stays
abbrev pub OtherEditionIsLiteral : Type 0
OtherEditionIsLiteral =
    (t : ℕ) (q : Question) (literal body field : List ℕ) → is_known_edition q.edition ≡ false → length body ≤ limit → length literal ≤ limit
    → (ask t q literal body field ≡ Err Literal) × (ask_buffer t q literal body field ≡ field)

-- ---- What Audit refuses is no column's body: a column's is refused for ROOM alone, where the field is too short for its rows. So with room for any row count
-- Audit accepts exactly the bodies of columns

abbrev pub ShortOfRoom : Type 0
ShortOfRoom =
    (t : ℕ) (cells : List Cell) (body field : List ℕ) → ColumnBody t cells body → length field < size (length cells) → audit t body field ≡ Err Room

abbrev pub RefusedForRoom : Type 0
RefusedForRoom =
    (t : ℕ) (cells : List Cell) (body field : List ℕ) (r : Refusal) → Bytes field → ColumnBody t cells body → audit t body field ≡ Err r
    → (r ≡ Room) × (length field < size (length cells))

abbrev pub RefusedIsNoColumn : Type 0
RefusedIsNoColumn =
    (t : ℕ) (body field : List ℕ) (r : Refusal) → Bytes field → size limit ≤ length field → audit t body field ≡ Err r
    → (cells : List Cell) → ColumnBody t cells body → ⊥

abbrev pub AcceptedAreTheColumns : Type 0
AcceptedAreTheColumns =
    (t : ℕ) (body field : List ℕ) → Bytes body → Bytes field → size limit ≤ length field
    → ((n : ℕ) × (audit t body field ≡ Ok n)) ↔ ((cells : List Cell) × ColumnBody t cells body)

-- ---- VERSION: "body not 1 or 2". Such a body yields no rows: Audit and Ask answer LIMIT or LITERAL where they come first, else VERSION; the buffer stays

pub record RefusesVersion (t : ℕ) (q : Question) (literal body field : List ℕ) : Type 0 where
  pub audited : audit t body field ≡ check (leb (length body) limit) Limit (check (ltb t types) Literal (Err Version))
  pub audited_buffer : audit_buffer t body field ≡ field
  pub answered : ask t q literal body field ≡ and_then (well_formed t q literal body) (λ ls. Err Version)
  pub answered_buffer : ask_buffer t q literal body field ≡ field

abbrev pub UnknownVersionIsRefused : Type 0
UnknownVersionIsRefused = (t : ℕ) (q : Question) (v : ℕ) (s literal field : List ℕ) → (v ≡ 1 → ⊥) → (v ≡ 2 → ⊥) → RefusesVersion t q literal (v ∷ s) field

abbrev pub UnknownVersionYieldsNothing : Type 0
UnknownVersionYieldsNothing =
    (t : ℕ) (q : Question) (v : ℕ) (s literal field : List ℕ) → (v ≡ 1 → ⊥) → (v ≡ 2 → ⊥)
    → ((n : ℕ) → audit t (v ∷ s) field ≡ Ok n → ⊥) × ((a : Answer) → ask t q literal (v ∷ s) field ≡ Ok a → ⊥)

-- ---- Which entry is broken. Said of the dictionary that was read, over the layout of entries and bitmaps

-- a cell is a value's: 1, or null: 0; and how many of the entries are values'
abbrev pub of_value : Cell → ℕ
of_value null = 0
of_value (value v) = 1

abbrev pub values_in : List Entry → ℕ
values_in [] = 0
values_in (e ∷ es) = of_value e.cell + values_in es

-- "the entry's number (0 for null, then 1 onward in stored order)", of a cell behind these entries
abbrev pub cell_number_behind : List Entry → Cell → ℕ
cell_number_behind earlier null = 0
cell_number_behind earlier (value v) = values_in earlier + 1

-- what an entry's length says: -1, as long as the bitmap is; any other, exactly so long
pub data LengthSays : ℕ → Extent → Type 0 where
  minus_one : LengthSays minus_one_32 AsLong
  other : (long : ℕ) → (long ≡ minus_one_32 → ⊥) → LengthSays long (Exactly long)

-- entries with nothing wrong, and the rows of each: all are below the row count, and none stands twice
pub record Faultless (d : Dictionary) (each : List (List ℕ)) (es : List Entry) : Type 0 where
  pub placed : RowsOfEach d.region each es
  pub below : Below d.rows (joined each)
  pub once : (r : ℕ) → times r (joined each) ≤ 1

-- the entry e has this number; those before it have nothing wrong, and have the rows `each`
pub record Reached (d : Dictionary) (number : ℕ) (e : Entry) (each : List (List ℕ)) : Type 0 where
  pub earlier : List Entry
  pub later : List Entry
  pub stored : d.entries ≡ earlier ++ (e ∷ later)
  pub numbered : number ≡ cell_number_behind earlier e.cell
  pub sound : Faultless d each earlier

-- the entry's bitmap is broken, in this container; a place behind the region has no bytes
pub record BitmapBroken (d : Dictionary) (entry container : ℕ) : Type 0 where
  pub e : Entry
  pub earlier_rows : List (List ℕ)
  pub reached : Reached d entry e earlier_rows
  pub at : ℕ
  pub place : signed32 e.offset ≡ pos at
  pub extent : Extent
  pub says : LengthSays e.extent extent
  pub broken : Broken extent (drop at d.region) container

-- the entry has a row at or above the row count
pub record RowOutside (d : Dictionary) (entry : ℕ) : Type 0 where
  pub e : Entry
  pub earlier_rows : List (List ℕ)
  pub reached : Reached d entry e earlier_rows
  pub rows : List ℕ
  pub has : EntryRows d.region rows e
  pub row : ℕ
  pub among : times row rows ≡ 1
  pub outside : d.rows ≤ row

-- the entry's rows are all below the row count, and one of them stands under an earlier entry
pub record RowTwice (d : Dictionary) (entry : ℕ) : Type 0 where
  pub e : Entry
  pub earlier_rows : List (List ℕ)
  pub reached : Reached d entry e earlier_rows
  pub rows : List ℕ
  pub has : EntryRows d.region rows e
  pub below : Below d.rows rows
  pub row : ℕ
  pub among : times row rows ≡ 1
  pub placed_before : times row (joined earlier_rows) ≡ 1

-- nothing is wrong with any entry, but this row has no place; every lower one has
pub record RowMissing (d : Dictionary) (row : ℕ) : Type 0 where
  pub each : List (List ℕ)
  pub sound : Faultless d each d.entries
  pub within : row < d.rows
  pub none : times row (joined each) ≡ 0
  pub lower : (r : ℕ) → r < row → times r (joined each) ≡ 1

-- the fault that a refusal behind ROOM says; no other refusal comes there
abbrev pub FaultIs : Dictionary → Refusal → Type 0
FaultIs d (Bitmap entry container) = BitmapBroken d entry container
FaultIs d (Range entry) = RowOutside d entry
FaultIs d (Twice entry) = RowTwice d entry
FaultIs d (Missing row) = RowMissing d row.0
FaultIs d Short = ⊥
FaultIs d Magic = ⊥
FaultIs d Version = ⊥
FaultIs d Head = ⊥
FaultIs d Dict = ⊥
FaultIs d Room = ⊥
FaultIs d Literal = ⊥
FaultIs d Limit = ⊥
FaultIs d Checksum = ⊥
FaultIs d NoBin = ⊥

-- behind ROOM Audit gives a refusal exactly where the fault that it says is there, and Ask of a well-formed question does too
abbrev pub AuditNamesTheFault : Type 0
AuditNamesTheFault =
    (t : ℕ) (body field : List ℕ) (d : Dictionary) (r : Refusal) → Bytes body → prepared t body field ≡ Ok d
    → (audit t body field ≡ Err r) ↔ FaultIs d r

abbrev pub AskNamesTheFault : Type 0
AskNamesTheFault =
    (t : ℕ) (q : Question) (literal body field : List ℕ) (ls : List (List ℕ)) (d : Dictionary) (r : Refusal) → Bytes body
    → well_formed t q literal body ≡ Ok ls → prepared t body field ≡ Ok d → (ask t q literal body field ≡ Err r) ↔ FaultIs d r

-- "A fault in place .. or a length below −1 or past the body, names container 0": the place is at or behind the region's end; the length is below -1, as 32 bits
-- from the sign bit on; or the bitmap would end behind the region
pub data OutsideRegion (region : List ℕ) (at long : ℕ) : Type 0 where
  no_bytes : length region ≤ at → OutsideRegion region at long
  below : sign_bit ≤ long → long < minus_one_32 → OutsideRegion region at long
  ends_behind : (long ≡ minus_one_32 → ⊥) → length region < at + long → OutsideRegion region at long

abbrev pub OutsideIsContainer0 : Type 0
OutsideIsContainer0 =
    (region : List ℕ) (at long : ℕ) (extent : Extent) → length region ≤ limit → LengthSays long extent → OutsideRegion region at long
    → Broken extent (drop at region) 0

-- what comes before a bitmap is looked at carries nothing: so a refusal that carries something is one of those above
abbrev pub NothingBeforeBitmaps : Type 0
NothingBeforeBitmaps = (t : ℕ) (q : Question) (literal body field : List ℕ) → CarriesNothing (well_formed t q literal body) × CarriesNothing (prepared t body field)
