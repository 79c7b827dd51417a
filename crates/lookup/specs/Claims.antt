-- What is claimed of a lookup, over its definition in Reading; proofs/Theorems proves it. `Bytes` is asked of buffers: a buffer's numbers are bytes.
use Rattle.std.specs.Prelude.{ℕ, ◌+◌, ◌*◌, ◌^◌, ◌≤◌, ◌<◌, ◌≡◌, false, List, [], ◌∷◌, ◌++◌, pos, length, drop, Err, Ok}
use Rattle.numbers.specs.Meaning.{All, Bytes, be, joined, signed32}
use Rattle.refusal.specs.declared.Refusal.{Refusal}
use Rattle.refusal.specs.declared.Refusal.TheVariants.{Short, Version, Dict, Bitmap, Range, Room, Literal, Limit}
use Rattle.row_field.specs.Meaning.{size, bit, mark_all, count, cleared, Below}
use Rattle.roaring.specs.declared.Extent.{Extent}
use Rattle.roaring.specs.Faults.{Broken}
use Rattle.stored_value.specs.Meaning.{Cell, value}
use Rattle.dictionary.specs.Layout.{Entry, some_has, entries2, body2}
use Rattle.bitmap_index.specs.Meaning.{equal, question, WellFormed}
use Rattle.bitmap_index.specs.Layout.{EntryRows}
use Rattle.bitmap_index.specs.Reading.{well_formed, ask, ask_buffer}
use Rattle.bitmap_index.specs.Promises.{scan_answer}
use Rattle.bitmap_index.specs.Claims.{RowsOfEach, times, LengthSays}
use Rattle.opening.specs.Layout.{entry_starts}
use Rattle.opening.specs.Reading.{Front, front, Table, opened, open_table}
use Rattle.opening.specs.Claims.{InBlocks}
use Rattle.lookup.specs.Reading.{Searched, searched, Sought, sought, Looked, lookable, looked_up, look_up_buffer, answer_of}

-- ---- "On a body that the open accepted, asked as the type it was opened with and with the table as it left it, the answer equals the audited engine's in every
-- part": the record, the field and the refusals of Ask's EQUAL, for every edition, literal and field

abbrev pub OpenedIsAnswered : Type 0
OpenedIsAnswered =
    (t : ℕ) (body field table : List ℕ) (a : Table) → Bytes body → opened t body field table ≡ Ok a → (edition : ℕ) (literal lent : List ℕ) → Bytes lent
    → (answer_of (looked_up t edition literal (open_table t body field table) body lent) ≡ ask t (question edition equal) literal body lent)
    × (look_up_buffer t edition literal (open_table t body field table) body lent ≡ ask_buffer t (question edition equal) literal body lent)

-- so whatever a writer lays out in version 2 is looked up as the scan says, with the starts of its directory's entries in the table and anything behind them
abbrev pub LaidOutIsLookedUp : Type 0
LaidOutIsLookedUp =
    (t : ℕ) (cells : List Cell) (nulls : List Entry) (bs : List (List Entry)) (region : List ℕ) → InBlocks t cells nulls bs region
    → (edition : ℕ) (ls : List (List ℕ)) → WellFormed t (question edition equal) ls → (behind field : List ℕ) → Bytes field → size (length cells) ≤ length field
    → answer_of (looked_up t edition (joined ls) (entry_starts (length cells) nulls bs ++ behind) (body2 (length cells) nulls bs region) field)
    ≡ Ok (scan_answer (question edition equal) ls cells field)

-- ---- "It reports values compared, equal to the steps of that definition: with B blocks at most floor(log2 B) + 1 in the directory (none if B is 0) and at most
-- the block's entries after", for any bytes. And no step goes uncounted: of 2 ^ k - 1 blocks at least k are compared

-- k is floor(log2 b)
abbrev pub FloorLog2 : ℕ → ℕ → Type 0
FloorLog2 b k = (2 ^ k ≤ b) × (b < 2 ^ (k + 1))

pub record FewCompared (b : ℕ) (f : Sought) (compared : ℕ) : Type 0 where
  pub sum : compared ≡ f.directory.compared + f.block.compared
  pub none : b ≡ 0 → compared ≡ 0
  pub halved : (k : ℕ) → FloorLog2 b k → f.directory.compared ≤ k + 1
  pub least : (k : ℕ) → 2 ^ k ≤ b + 1 → k ≤ f.directory.compared
  pub in_block : f.block.compared ≤ f.block.entries

abbrev pub FewAreCompared : Type 0
FewAreCompared =
    (t edition : ℕ) (literal table body field : List ℕ) (a : Looked) → looked_up t edition literal table body field ≡ Ok a
    → (fields : Front) × (front body ≡ Ok fields) × ((f : Sought) × (sought t literal table body ≡ Ok f) × FewCompared fields.blocks f a.compared)

-- there is such a k for each b but 0
abbrev pub HasFloorLog2 : Type 0
HasFloorLog2 = (b : ℕ) → 1 ≤ b → (k : ℕ) × FloorLog2 b k

-- ---- one block, by the layout of entries: those before the literal's have other values, and with it they are as many as were compared; so that is its number in
-- the block, counted from 1. Where none has the literal's value all entries of the block were compared

pub record BlockSearched (literal s : List ℕ) (b : Searched) : Type 0 where
  pub before : List Entry
  pub rest : List ℕ
  pub stands : s ≡ be 4 b.entries ++ (entries2 (before ++ b.hit) ++ rest)
  pub others : some_has (value literal) before ≡ false
  pub hit_is : All (λ (e : Entry). e.cell ≡ value literal) b.hit
  pub one : length b.hit ≤ 1
  pub counted : b.compared ≡ length (before ++ b.hit)
  pub all : b.hit ≡ [] → b.compared ≡ b.entries
  pub within : b.compared ≤ b.entries

abbrev pub SearchedStands : Type 0
SearchedStands = (t : ℕ) (literal s : List ℕ) (b : Searched) → Bytes s → searched t literal s ≡ Ok b → BlockSearched literal s b

-- ---- the question: The edition is tested with type and question. What Ask's EQUAL refuses of it a lookup refuses, of any body and table

abbrev pub QuestionIsTested : Type 0
QuestionIsTested =
    (t edition : ℕ) (literal table body field : List ℕ) (r : Refusal) → well_formed t (question edition equal) literal body ≡ Err r
    → (looked_up t edition literal table body field ≡ Err r) × (look_up_buffer t edition literal table body field ≡ field)

-- ---- "Otherwise its answer is a definition's own, refused only with LIMIT, LITERAL, SHORT, VERSION, DICT, ROOM, BITMAP or RANGE, the field untouched up to ROOM
-- and zeroed after it; BITMAP and RANGE then count the entry within its block". ROOM is here that of the field: of a table it comes before directory and block

-- up to ROOM, for any bytes
pub data UpToRoom : Refusal → Type 0 where
  limit : UpToRoom Limit
  literal : UpToRoom Literal
  short : UpToRoom Short
  version : UpToRoom Version
  dict : UpToRoom Dict
  room : UpToRoom Room

-- what is wrong with an entry of this number, where there are n rows: its bitmap, in this container; or it has a row at or above n
pub data EntryFault (n : ℕ) (region : List ℕ) (number : ℕ) (e : Entry) : Refusal → Type 0 where
  broken : (at container : ℕ) (extent : Extent) → signed32 e.offset ≡ pos at → LengthSays e.extent extent → Broken extent (drop at region) container
      → EntryFault n region number e (Bitmap number container)
  outside : (rows : List ℕ) (row : ℕ) → EntryRows region rows e → times row rows ≡ 1 → n ≤ row → EntryFault n region number e (Range number)

-- nothing is wrong with entries, and these are the rows of each
pub record Sound (n : ℕ) (region : List ℕ) (each : List (List ℕ)) (es : List Entry) : Type 0 where
  pub placed : RowsOfEach region each es
  pub below : Below n (joined each)

-- after it: the fault is null's, whose number is 0; or, null's rows being sound, that of the entry found, whose number is that in its block
pub data AfterRoom (f : Sought) (r : Refusal) : Type 0 where
  of_null : (e : Entry) → f.nulls ≡ e ∷ [] → EntryFault f.rows f.region 0 e r → AfterRoom f r
  of_entry : (e : Entry) (nulls : List (List ℕ)) → Sound f.rows f.region nulls f.nulls → f.block.hit ≡ e ∷ []
      → EntryFault f.rows f.region f.block.compared e r → AfterRoom f r

-- what a refusal is, with the field then
pub data RefusedIs (t edition : ℕ) (literal table body field : List ℕ) (r : Refusal) : Type 0 where
  up_to-room : UpToRoom r → look_up_buffer t edition literal table body field ≡ field → RefusedIs t edition literal table body field r
  after_room : (f : Sought) → lookable t edition literal table body field ≡ Ok f → AfterRoom f r
      → look_up_buffer t edition literal table body field ≡ cleared f.rows field → RefusedIs t edition literal table body field r

abbrev pub RefusedOnlySo : Type 0
RefusedOnlySo =
    (t edition : ℕ) (literal table body field : List ℕ) (r : Refusal) → Bytes body → looked_up t edition literal table body field ≡ Err r
    → RefusedIs t edition literal table body field r

-- ---- an accepted answer, for any bytes: null rows are the rows of null's entry, and the field has exactly the rows of the entry that was found; and it keeps the
-- rules of fields: the stated row count, matched equal to the ones, spare bits 0, bytes behind kept, deleted 0

pub record AcceptedIs (f : Sought) (before : List ℕ) (a : Looked) : Type 0 where
  pub nulls : List (List ℕ)
  pub nulls-sound : Sound f.rows f.region nulls f.nulls
  pub null-rows : a.answer.said.nulls ≡ length (joined nulls)
  pub chosen : List (List ℕ)
  pub chosen-sound : Sound f.rows f.region chosen f.block.hit
  pub marked : a.answer.buffer ≡ mark_all (cleared f.rows before) (joined chosen)
  pub rows : a.answer.said.rows ≡ f.rows
  pub deleted : a.answer.said.deleted ≡ 0
  pub matched : a.answer.said.matched ≡ count a.answer.buffer f.rows
  pub spare : (r : ℕ) → f.rows ≤ r → r < 8 * size f.rows → bit a.answer.buffer r ≡ false
  pub kept : cleared f.rows a.answer.buffer ≡ cleared f.rows before

abbrev pub AcceptedOnlySo : Type 0
AcceptedOnlySo =
    (t edition : ℕ) (literal table body field : List ℕ) (a : Looked) → Bytes body → looked_up t edition literal table body field ≡ Ok a
    → (f : Sought) × (sought t literal table body ≡ Ok f) × AcceptedIs f field a × (look_up_buffer t edition literal table body field ≡ a.answer.buffer)

-- the row count and null's entry are those that the body states in front
abbrev pub SoughtStates : Type 0
SoughtStates =
    (t : ℕ) (literal table body : List ℕ) (f : Sought) → sought t literal table body ≡ Ok f
    → (fields : Front) × (front body ≡ Ok fields) × (f.rows ≡ fields.rows) × (f.nulls ≡ fields.nulls)
