-- What a writer may lay out, from meaning to bytes. Nothing here goes by how a file is read.
use Rattle.std.specs.Prelude.{ℕ, ◌+◌, ◌^◌, ◌<◌, ◌≤◌, ◌≡◌, List, [], ◌∷◌, ◌++◌, length, take, drop}
use Rattle.numbers.specs.Meaning.{All, be, sign_bit}
use Rattle.names.specs.Layout.{Named}

-- an index that a head lists, "per index: name, start (4), length (4)": start and length as the 32 bits that stand there
pub record ListedIndex : Type 0 where
  pub name : List ℕ
  pub start : ℕ
  pub length : ℕ

-- a column that a head lists: "Per column: name, index number (4), and per index"
pub record ListedColumn : Type 0 where
  pub name : List ℕ
  pub entries : List ListedIndex

-- ---- the numbers of the format

-- "Magic 1493475289347502"
abbrev pub magic : ℕ
magic = 1493475289347502

-- "version 1"
abbrev pub file_version : ℕ
file_version = 1

-- the bytes of magic, version and head length, which stand in front
abbrev pub front_size : ℕ
front_size = 16

-- the least head: it lists no column and has no redundant byte
abbrev pub least_head : ℕ
least_head = 24

-- ---- bytes

-- "A name is 2 bytes of unsigned length and its bytes"
abbrev pub name_bytes : List ℕ → List ℕ
name_bytes n = be 2 (length n) ++ n

abbrev pub entry_bytes : ListedIndex → List ℕ
entry_bytes e = name_bytes e.name ++ (be 4 e.start ++ be 4 e.length)

abbrev pub entries_bytes : List ListedIndex → List ℕ
entries_bytes [] = []
entries_bytes (e ∷ es) = entry_bytes e ++ entries_bytes es

abbrev pub column_bytes : ListedColumn → List ℕ
column_bytes c = name_bytes c.name ++ (be 4 (length c.entries) ++ entries_bytes c.entries)

abbrev pub columns_bytes : List ListedColumn → List ℕ
columns_bytes [] = []
columns_bytes (c ∷ cs) = column_bytes c ++ columns_bytes cs

-- "Magic 1493475289347502 (8 bytes), version 1 (4), head length (4), column number (4)", the columns, "then redundant length (4) and that many bytes"
abbrev pub head_bytes : ℕ → List ListedColumn → List ℕ → List ℕ
head_bytes head_length cs redundant =
    be 8 magic ++ (be 4 file_version ++ (be 4 head_length ++ (be 4 (length cs) ++ (columns_bytes cs ++ (be 4 (length redundant) ++ redundant)))))

-- ---- rules

-- a name's length fits 2 bytes; a count fits 31 bits, so that it is not negative; start and length are any 32 bits
abbrev pub GoodIndex : ListedIndex → Type 0
GoodIndex e = (length e.name < 256 ^ 2) × (e.start < 256 ^ 4) × (e.length < 256 ^ 4)

abbrev pub GoodColumn : ListedColumn → Type 0
GoodColumn c = (length c.name < 256 ^ 2) × (length c.entries < sign_bit) × All GoodIndex c.entries

-- whether a listed column or index has the asked name, by `Named`: "the asked column stands once" is read by this comparison
abbrev pub IsColumn : List ℕ → ListedColumn → Type 0
IsColumn column c = Named column c.name

abbrev pub IsKind : List ℕ → ListedIndex → Type 0
IsKind kind e = Named kind e.name

-- none of the list has the property
abbrev pub None : {A : Type 0} → (A → Type 0) → List A → Type 0
None P l = All (λ y. P y → ⊥) l

-- x has the property, and no other of the list has it
pub record ListedOnce {A : Type 0} (P : A → Type 0) (x : A) (l : List A) : Type 0 where
  pub before : List A
  pub after : List A
  pub parts : l ≡ before ++ (x ∷ after)
  pub holds : P x
  pub none_before : None P before
  pub none_after : None P after

-- "it keeps the head's rules": bytes that are a head and anything behind it; the head length counts the whole head. That each number
-- of a name is a byte is not asked here: `bytes` is a buffer's, and so all bytes
pub record Headed (bytes : List ℕ) : Type 0 where
  pub head_length : ℕ
  pub columns : List ListedColumn
  pub redundant : List ℕ
  pub rest : List ℕ
  pub laid : bytes ≡ head_bytes head_length columns redundant ++ rest
  pub whole : head_length ≡ length (head_bytes head_length columns redundant)
  pub counts : (head_length < sign_bit) × (length columns < sign_bit) × (length redundant < sign_bit)
  pub fit : All GoodColumn columns

-- "A file is the column's if it keeps the head's rules and lists the asked column once, in it the asked kind once, whose start and length give such a body":
-- the asked entry's start and length aren't negative, and its body lies behind the head and within the file. Other entries' starts and lengths are free.
-- What "such a body" is, is added where `File` is joined with the body's layout.
pub record File (column kind body bytes : List ℕ) : Type 0 where
  pub head : Headed bytes
  pub asked : ListedColumn
  pub entry : ListedIndex
  pub column_once : ListedOnce (IsColumn column) asked head.columns
  pub kind_once : ListedOnce (IsKind kind) entry asked.entries
  pub not_negative : (entry.start < sign_bit) × (entry.length < sign_bit)
  pub behind : head.head_length ≤ entry.start
  pub within : entry.start + entry.length ≤ length bytes
  pub part : body ≡ take entry.length (drop entry.start bytes)

-- "Column or kind not listed": no column has the asked name; or one has it, and none of its entries has the asked kind's
pub data Unlisted (column kind : List ℕ) (cs : List ListedColumn) : Type 0 where
  no_column : None (IsColumn column) cs → Unlisted column kind cs
  no_kind : {asked : ListedColumn} → ListedOnce (IsColumn column) asked cs → None (IsKind kind) asked.entries → Unlisted column kind cs
