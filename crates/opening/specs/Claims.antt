-- What is claimed of Open, over its definition in Reading; proofs/Theorems proves it. `Bytes` is asked of buffers: a buffer's numbers are bytes.
use Rattle.std.specs.Prelude.{ℕ, ◌≤◌, ◌<◌, ◌≡◌, List, ◌∷◌, ◌++◌, ltb, leb, length, drop, get_or, Err, Ok}
use Rattle.numbers.specs.Meaning.{Bytes, be, joined}
use Rattle.refusal.specs.Meaning.{limit}
use Rattle.refusal.specs.declared.Refusal.{Refusal}
use Rattle.refusal.specs.declared.Refusal.TheVariants.{Version, Room, Literal, Limit}
use Rattle.refusal.specs.Reading.{check, and_then}
use Rattle.row_field.specs.Meaning.{size, cleared}
use Rattle.stored_value.specs.Meaning.{types, Cell, null}
use Rattle.dictionary.specs.Layout.{Entry, NoneEmpty, Rises, most_values2, most_blocks, blocks, directory, body2}
use Rattle.bitmap_index.specs.Meaning.{Column}
use Rattle.bitmap_index.specs.Layout.{ColumnEntries, ColumnBody}
use Rattle.dictionary.specs.Reading.{Dictionary}
use Rattle.bitmap_index.specs.Reading.{prepared, audit, audit_buffer}
use Rattle.opening.specs.Layout.{before_directory, directory_entry, entry_starts}
use Rattle.opening.specs.Reading.{Front, front, Table, opened, open_buffer, open_table}

-- ---- what a writer may lay out in version 2, and the table of it

-- the body that this null entry, these blocks and this region of bitmaps make up is the column's: bitmap_index's `ColumnBody`, its case of version 2
pub record InBlocks (t : ℕ) (cells : List Cell) (nulls : List Entry) (bs : List (List Entry)) (region : List ℕ) : Type 0 where
  pub column : Column t cells
  pub entries : ColumnEntries cells region nulls (joined bs)
  pub none_empty : NoneEmpty bs
  pub rises : Rises t null (joined bs)
  pub few_rows : length cells ≤ limit
  pub few_values : length (joined bs) ≤ most_values2
  pub few_blocks : length bs ≤ most_blocks
  pub short : length (body2 (length cells) nulls bs region) ≤ limit

-- a body begins with what stands before its directory, and then the directory comes
abbrev pub DirectoryStandsBehind : Type 0
DirectoryStandsBehind =
    (n : ℕ) (nulls : List Entry) (bs : List (List Entry)) (region : List ℕ)
    → body2 n nulls bs region ≡ before_directory n nulls bs ++ (directory 0 bs ++ (be 4 (length (blocks bs)) ++ (blocks bs ++ region)))

-- where the table says that a block's entry starts, that entry stands: there is one start for each block
pub record EntriesStand (n : ℕ) (nulls : List Entry) (bs : List (List Entry)) (region : List ℕ) : Type 0 where
  pub many : length (entry_starts n nulls bs) ≡ length bs
  pub each : (before : List (List Entry)) (b : List Entry) (behind : List (List Entry)) → bs ≡ before ++ (b ∷ behind)
      → (rest : List ℕ) × (drop (get_or (entry_starts n nulls bs) (length before) 0) (body2 n nulls bs region) ≡ directory_entry (length (blocks before)) b ++ rest)

abbrev pub StartsAreOfEntries : Type 0
StartsAreOfEntries = (n : ℕ) (nulls : List Entry) (bs : List (List Entry)) (region : List ℕ) → EntriesStand n nulls bs region

-- an accepted open: the body is that of a column, laid out in version 2; it says its row count and its number of blocks; and the table's words are the starts of
-- the directory's entries, with what lay behind them in the table
pub record OpenedIs (t : ℕ) (body table : List ℕ) (rows many : ℕ) (words : List ℕ) : Type 0 where
  pub cells : List Cell
  pub nulls : List Entry
  pub bs : List (List Entry)
  pub region : List ℕ
  pub laid_out : InBlocks t cells nulls bs region
  pub so : body ≡ body2 (length cells) nulls bs region
  pub is_body : ColumnBody t cells body
  pub row_count : rows ≡ length cells
  pub block-number : many ≡ length bs
  pub room : length bs ≤ length table
  pub starts : words ≡ entry_starts (length cells) nulls bs ++ drop (length bs) table

abbrev pub OpenedIsLaidOut : Type 0
OpenedIsLaidOut =
    (t : ℕ) (body field table : List ℕ) (rows many : ℕ) (words : List ℕ) → Bytes body → opened t body field table ≡ Ok (record { rows = rows; blocks = many; words = words })
    → OpenedIs t body table rows many words

-- what the table then holds is what was answered; with a refusal, whatever it is, the words that it held: "A refused open leaves the table untouched"
abbrev pub TableHoldsTheAnswer : Type 0
TableHoldsTheAnswer =
    (t : ℕ) (body field table : List ℕ)
    → ((a : Table) → opened t body field table ≡ Ok a → open_table t body field table ≡ a.words)
    × ((r : Refusal) → opened t body field table ≡ Err r → open_table t body field table ≡ table)

-- whatever a writer lays out in version 2 is opened, in any field and table with room, and the field is then zero
abbrev pub LaidOutIsOpened : Type 0
LaidOutIsOpened =
    (t : ℕ) (cells : List Cell) (nulls : List Entry) (bs : List (List Entry)) (region field table : List ℕ) → InBlocks t cells nulls bs region → Bytes field
    → size (length cells) ≤ length field → length bs ≤ length table
    → (opened t (body2 (length cells) nulls bs region) field table
    ≡ Ok (record { rows = length cells; blocks = length bs; words = entry_starts (length cells) nulls bs ++ drop (length bs) table }))
    × (open_buffer t (body2 (length cells) nulls bs region) field table ≡ cleared (length cells) field)

-- ---- Audit's refusals

-- a table with a word for each block that the body states
abbrev pub HasWords : List ℕ → List ℕ → Type 0
HasWords body table = (f : Front) → front body ≡ Ok f → f.blocks ≤ length table

-- of a body that doesn't begin with another version than 2, with such a table: what Audit says, row count or refusal, and what it leaves in the field
abbrev pub OpenedAsAudited : Type 0
OpenedAsAudited =
    (t : ℕ) (body field table : List ℕ) → get_or body 0 2 ≡ 2 → HasWords body table
    → (and_then (opened t body field table) (λ a. Ok a.rows) ≡ audit t body field) × (open_buffer t body field table ≡ audit_buffer t body field)

-- "A version 1 body is VERSION", and one of any other version but 2; LIMIT and LITERAL come first. Field and table stay
pub record RefusesVersion (t : ℕ) (body field table : List ℕ) : Type 0 where
  pub refused : opened t body field table ≡ check (leb (length body) limit) Limit (check (ltb t types) Literal (Err Version))
  pub buffer : open_buffer t body field table ≡ field
  pub kept : open_table t body field table ≡ table

abbrev pub OtherVersionIsRefused : Type 0
OtherVersionIsRefused = (t v : ℕ) (s field table : List ℕ) → (v ≡ 2 → ⊥) → RefusesVersion t (v ∷ s) field table

-- "Too short a table is ROOM, where Audit tests room": after the dictionary, and before a bitmap is looked at. Field and table stay
abbrev pub ShortTableIsRoom : Type 0
ShortTableIsRoom =
    (t : ℕ) (body field table : List ℕ) (d : Dictionary) (f : Front) → prepared t body field ≡ Ok d → front body ≡ Ok f → length table < f.blocks
    → (opened t body field table ≡ Err Room) × (open_buffer t body field table ≡ field) × (open_table t body field table ≡ table)

-- what Audit refuses up to ROOM is refused so whatever the table is, if the body doesn't begin with another version than 2. Field and table stay
abbrev pub RefusedUpToRoom : Type 0
RefusedUpToRoom =
    (t : ℕ) (body field table : List ℕ) (r : Refusal) → get_or body 0 2 ≡ 2 → prepared t body field ≡ Err r
    → (opened t body field table ≡ Err r) × (open_buffer t body field table ≡ field) × (open_table t body field table ≡ table)
