-- What the code's answers say, in the reading's terms: first the public functions', then the private ones'.
use Rattle.std.specs.Prelude.{ℕ, ◌+◌, ◌-◌, ◌≤◌, ◌<◌, ◌≡◌, Bool, true, false, cond, List, [], ◌∷◌, ◌++◌, eqb, leb, ℤ, pos, length, take, drop, get_or, Result, Err, Ok, Option, None, Some}
use Rattle.std.specs.Int.{w32}
use Rattle.std.proofs.Common.{of_z}
use Rattle.numbers.specs.Meaning.{be_at, signed32, sign_bit, minus_one_32, four_bytes, position}
use Rattle.hash_table.specs.Promises.{slot, Holds}
use Rattle.refusal.specs.Meaning.{limit}
use Rattle.refusal.specs.Reading.{numbers_of}
use Rattle.refusal.specs.declared.Refusal.{Refusal}
use Rattle.refusal.specs.declared.Refusal.TheVariants as why
use Rattle.refusal.specs.declared.Refusal.TheVariants.{Short, Dict}
use Rattle.stored_value.specs.Meaning.{types, Cell, null, value}
use Rattle.stored_value.specs.Reading.{value_size}
use Rattle.numbers.specs.declared.Position.{Position}
use Rattle.dictionary.specs.declared.Version.{Version}
use Rattle.dictionary.specs.declared.Version.TheVariants.{One, Two}
use Rattle.dictionary.specs.declared.Cursor.{Cursor}
use Rattle.dictionary.specs.declared.NullEntry.{NullEntry}
use Rattle.dictionary.specs.declared.Summary.{Summary}
use Rattle.dictionary.specs.declared.EntryAt.{EntryAt}
use Rattle.dictionary.specs.declared.Front.{Front}
use Rattle.dictionary.specs.declared.Span.{Span}
use Rattle.dictionary.specs.declared.BlockEntries.{BlockEntries}
use Rattle.dictionary.specs.declared.Block.{Block}
use Rattle.dictionary.specs.declared.Blocks.{Blocks}
use Rattle.dictionary.specs.declared.AllEntries.{AllEntries}
use Rattle.dictionary.specs.Layout.{Entry, some_has, most_values1, most_values2}
use Rattle.dictionary.specs.Reading.{Dictionary, Listing, count_at_most, null_of, entries_version_one, listings, entries_version_two, blocks_of, blocked, dictionary}

-- ---- the version, which the reading's definitions have as whether it is 2

abbrev pub is_two : Version → Bool
is_two One = false
is_two Two = true

-- the first byte says it
abbrev pub version_of : ℕ → Result Version Refusal
version_of v = cond (eqb v 1) (Ok One) (cond (eqb v 2) (Ok Two) (Err why.Version))

abbrev pub IsVersion : ℕ → Result Version Refusal → Type 0
IsVersion v r = r ≡ version_of v

-- ---- where entries stand

-- the bytes of a block's number, where that is due, and the entries left then
abbrev pub opening : ℕ → ℕ
opening left = cond (eqb left 0) 4 0

abbrev pub left_in : ℕ → List ℕ → ℕ
left_in left s = cond (eqb left 0) (be_at 4 s 0) left

-- behind a value: its offset, and in version 2 its extent
abbrev pub tail : Bool → ℕ
tail version2 = cond version2 8 4

abbrev pub stored_extent_at : Bool → ℕ → List ℕ → ℕ
stored_extent_at version2 k s = cond version2 (be_at 4 s (k + 4)) minus_one_32

-- the entry whose value takes the k bytes at the front of s
abbrev pub entry_of : Bool → ℕ → List ℕ → Entry
entry_of version2 k s = record { cell = value (take k s); offset = be_at 4 s k; extent = stored_extent_at version2 k s }

-- the entries es stand one after another at the front of s, where `left` of them are left in the block that is open
unfoldable pub EntriesFrom : ℕ → Bool → ℕ → List ℕ → List Entry → Type 0
EntriesFrom t version2 left s [] = Unit {0}
EntriesFrom t version2 left s (e ∷ es) =
    (opening left ≤ length s) × (1 ≤ left_in left s)
    × ((k : ℕ) × (value_size Short Dict t (drop (opening left) s) ≡ Ok k) × (k + tail version2 ≤ length (drop (opening left) s))
    × (e ≡ entry_of version2 k (drop (opening left) s)) × EntriesFrom t version2 (left_in left s - 1) (drop (k + tail version2) (drop (opening left) s)) es)

-- the entries es stand one after another at a cursor
abbrev pub EntriesAt : ℕ → Bool → List ℕ → Cursor → List Entry → Type 0
EntriesAt t version2 s c es = EntriesFrom t version2 c.left (drop c.at.0 s) es

-- ---- `read`: the dictionary of any bytes

-- the 32 bits of a signed number
abbrev pub pattern : ℤ → ℕ
pattern z = of_z w32 z

-- null's entry, if there is one
abbrev pub nulls : Option NullEntry → List Entry
nulls None = []
nulls (Some n) = record { cell = null; offset = pattern n.offset; extent = n.extent } ∷ []

abbrev pub nulls_of : Summary → List Entry
nulls_of h = nulls h.null

-- the dictionary that a summary of s and the values' entries es make up
abbrev pub dictionary_of : List ℕ → Summary → List Entry → Dictionary
dictionary_of s h es = record { rows = h.rows; entries = nulls_of h ++ es; region = drop h.region.0 s }

-- the summary h of s is true of the values' entries es: they are as many as it says and stand at its cursor (which may be anywhere, if there are none);
-- in version 2 a block's number is due there
pub record Summarizes (t : ℕ) (s : List ℕ) (h : Summary) (es : List Entry) : Type 0 where
  pub many : length es ≡ h.values
  pub stand : EntriesAt t (is_two h.version) s h.first es
  pub left : h.first.left ≡ cond (is_two h.version) 0 h.values
  pub start : h.first.at.0 ≤ length s
  pub region : h.region.0 ≤ length s
  pub version : is_two h.version ≡ eqb (get_or s 0 0) 2

-- the bytes are read as a dictionary with this summary
pub record IsRead (t : ℕ) (s : List ℕ) (h : Summary) : Type 0 where
  pub entries : List Entry
  pub so : dictionary t s ≡ Ok (dictionary_of s h entries)
  pub summary : Summarizes t s h entries

-- the reading's refusal, or the reading's dictionary
abbrev pub SaysDictionary : ℕ → List ℕ → Result Summary Refusal → Type 0
SaysDictionary t s (Err r) = dictionary t s ≡ Err r
SaysDictionary t s (Ok h) = IsRead t s h

-- the answer in numbers: its own, 0 or the refusal's; and the row count and the number of entries, null's among them
abbrev pub summary_numbers : Summary → ℕ × (ℕ × ℕ)
summary_numbers h = (0, (h.rows, length (nulls_of h) + h.values))

abbrev pub checked_out : Result Summary Refusal → ℕ × (ℕ × ℕ)
checked_out r = numbers_of (0, 0) summary_numbers r

abbrev pub dictionary_numbers : Dictionary → ℕ × (ℕ × ℕ)
dictionary_numbers d = (0, (d.rows, length d.entries))

pub record ReadsDictionary (t : ℕ) (s : List ℕ) (r : Result Summary Refusal) : Type 0 where
  pub answer : SaysDictionary t s r
  pub numbers : checked_out r ≡ numbers_of (0, 0) dictionary_numbers (dictionary t s)

-- ---- `next`: the entry at a cursor of any bytes

abbrev pub cursor : ℕ → ℕ → Cursor
cursor p left = record { at = position p; left = left }

-- none stands there
abbrev pub no_entry_there : EntryAt
no_entry_there = record { start = position 0; end = position 0; offset = pos 0; extent = 0; next = cursor 0 0 }

-- the value at the cursor, which ends at e, what is behind it, and the cursor behind that
abbrev pub entry_ending : Bool → List ℕ → Cursor → ℕ → EntryAt
entry_ending version2 s c e =
    record { start = c.at; end = position e; offset = signed32 (be_at 4 s e); extent = stored_extent_at version2 e s; next = cursor (e + tail version2) (c.left - 1) }

unfoldable pub entry_of_size : Bool → List ℕ → Cursor → Result ℕ Refusal → EntryAt
entry_of_size version2 s c (Err r) = no_entry_there
entry_of_size version2 s c (Ok k) = cond (leb (c.at.0 + k + tail version2) (length s)) (entry_ending version2 s c (c.at.0 + k)) no_entry_there

-- the first of the entries left in a block that is open
unfoldable pub entry_in_block : ℕ → Bool → List ℕ → Cursor → EntryAt
entry_in_block t version2 s c = cond (eqb c.left 0) no_entry_there (entry_of_size version2 s c (value_size Short Dict t (drop c.at.0 s)))

-- where a block's number is due, it is read first
unfoldable pub next_entry : ℕ → Bool → List ℕ → Cursor → EntryAt
next_entry t version2 s c =
    cond (eqb c.left 0)
    (cond (leb (c.at.0 + 4) (length s)) (entry_in_block t version2 s (cursor (c.at.0 + 4) (be_at 4 s c.at.0))) no_entry_there)
    (entry_in_block t version2 s c)

-- what the code found, as an entry
abbrev pub entry_at : List ℕ → EntryAt → Entry
entry_at s a = record { cell = value (take (a.end.0 - a.start.0) (drop a.start.0 s)); offset = pattern a.offset; extent = a.extent }

-- what was found is the entry e, and es stand behind it
pub record IsNext (t : ℕ) (version2 : Bool) (s : List ℕ) (a : EntryAt) (e : Entry) (es : List Entry) : Type 0 where
  pub so : e ≡ entry_at s a
  pub start : a.start.0 ≤ a.end.0
  pub end : a.end.0 ≤ length s
  pub next : a.next.at.0 ≤ length s
  pub stand : EntriesAt t version2 s a.next es

pub record NextAt (t : ℕ) (version2 : Bool) (s : List ℕ) (c : Cursor) (a : EntryAt) : Type 0 where
  pub so : a ≡ next_entry t version2 s c
  pub first : (e : Entry) (es : List Entry) → EntriesAt t version2 s c (e ∷ es) → IsNext t version2 s a e es

-- ---- the private functions: what is said for anything that is read behind a count, listings, entries, a block's entries

abbrev pub AfterCount : Type 0
AfterCount = ℕ → List ℕ → Result Dictionary Refusal

abbrev pub AfterListings : Type 0
AfterListings = List Listing → List ℕ → Result Dictionary Refusal

abbrev pub AfterEntries : Type 0
AfterEntries = List Entry → List ℕ → Result Dictionary Refusal

abbrev pub AfterBlock : Type 0
AfterBlock = Cell → List Entry → List ℕ → Result Dictionary Refusal

-- a value stands at a position, and where it ends
abbrev pub StandsAt : ℕ → List ℕ → ℕ → Type 0
StandsAt t s at = (k : ℕ) × (value_size Short Dict t (drop at s) ≡ Ok k)

abbrev pub EndsAt : ℕ → List ℕ → ℕ → ℕ → Type 0
EndsAt t s at e = (value_size Short Dict t (drop at s) ≡ Ok (e - at)) × (at < e) × (e ≤ length s)

-- what is read of any bytes at a position as a value
abbrev pub ValueAt : ℕ → List ℕ → ℕ → Result Position Refusal → Type 0
ValueAt t s at (Err r) = value_size Short Dict t (drop at s) ≡ Err r
ValueAt t s at (Ok e) = EndsAt t s at e.0

-- i entries es of version 1 stand at the front of s, of `left` in all
pub record OnesFrom (t i : ℕ) (s : List ℕ) (es : List Entry) : Type 0 where
  pub left : ℕ
  pub stand : EntriesFrom t false left s es
  pub count : length es ≡ i
  pub within : i ≤ left

-- whether i entries of version 1 that stand at a position have the value v
abbrev pub HasValueAt : ℕ → ℕ → List ℕ → ℕ → List ℕ → Bool → Type 0
HasValueAt t i s at v r = (es : List Entry) → OnesFrom t i (drop at s) es → r ≡ some_has (value v) es

-- a count at a position
abbrev pub CountAt : ℕ → List ℕ → ℕ → Result ℕ Refusal → Type 0
CountAt most s at (Err r) = (f : AfterCount) → count_at_most most (drop at s) f ≡ Err r
CountAt most s at (Ok n) =
    ((f : AfterCount) → count_at_most most (drop at s) f ≡ f n (drop (at + 4) s)) × (at + 4 ≤ length s) × (n ≤ most)

-- an offset at a position
abbrev pub OffsetAt : List ℕ → ℕ → ℤ → Type 0
OffsetAt s at z = (z ≡ signed32 (be_at 4 s at)) × (be_at 4 s at < four_bytes)

-- null's entry, if there is one, at a position
abbrev pub NullAt : Bool → Bool → List ℕ → ℕ → Result (Option NullEntry × Position) Refusal → Type 0
NullAt version2 has s at (Err r) = (f : AfterEntries) → null_of version2 has (drop at s) f ≡ Err r
NullAt version2 has s at (Ok x) =
    ((f : AfterEntries) → null_of version2 has (drop at s) f ≡ f (nulls x.0) (drop x.1.0 s)) × (x.1.0 ≤ length s)

-- the entries of either version
abbrev pub entries_of : Bool → ℕ → ℕ → ℕ → List Entry → List ℕ → Result Dictionary Refusal
entries_of version2 t rows n ns s = cond version2 (blocked t rows n ns s) (entries_version_one t rows n ns [] s)

-- the limit on the value number of each version
abbrev pub value_limit : Bool → ℕ
value_limit version2 = cond version2 most_values2 most_values1

-- the ten bytes that every dictionary of a known type begins with
abbrev pub FixedOf : List ℕ → Result Front Refusal → Type 0
FixedOf s (Err r) = (t : ℕ) → t < types → dictionary t s ≡ Err r
FixedOf s (Ok h) =
    ((t : ℕ) → t < types
    → dictionary t s ≡ null_of (is_two h.version) h.has_null (drop 10 s) (λ ns s. entries_of (is_two h.version) t h.rows h.values ns s)) × (10 ≤ length s)
    × (is_two h.version ≡ eqb (get_or s 0 0) 2) × (h.values ≤ value_limit (is_two h.version))

-- ---- version 2

-- a directory's listings stand one after another at the front of s
unfoldable pub ListingsFrom : ℕ → List ℕ → List Listing → Type 0
ListingsFrom t s [] = Unit {0}
ListingsFrom t s (d ∷ ds) =
    (k : ℕ) × (value_size Short Dict t s ≡ Ok k) × (k + 4 ≤ length s) × (d ≡ record { first = take k s; at = be_at 4 s k }) × ListingsFrom t (drop (k + 4) s) ds

-- n listings ds stand there; and one does
abbrev pub DirectoryFrom : ℕ → ℕ → List ℕ → List Listing → Type 0
DirectoryFrom t n s ds = ListingsFrom t s ds × (length ds ≡ n)

abbrev pub ListingFrom : ℕ → List ℕ → Type 0
ListingFrom t s = (k : ℕ) × (value_size Short Dict t s ≡ Ok k) × (k + 4 ≤ length s)

-- what is read of any bytes at a position as n listings, and where they end
abbrev pub DirectoryAt : ℕ → ℕ → List ℕ → ℕ → Result Position Refusal → Type 0
DirectoryAt t n s at (Err r) = (f : AfterListings) → listings t n [] (drop at s) f ≡ Err r
DirectoryAt t n s at (Ok next) =
    (ds : List Listing) × ((f : AfterListings) → listings t n [] (drop at s) f ≡ f ds (drop next.0 s))
    × DirectoryFrom t n (drop at s) ds × (next.0 ≤ length s)

-- a span's bytes, and the value that it has: none where there is no span
abbrev pub bytes_at : List ℕ → Span → List ℕ
bytes_at s c = take (c.end.0 - c.start.0) (drop c.start.0 s)

abbrev pub cell_at : List ℕ → Option Span → Cell
cell_at s None = null
cell_at s (Some c) = value (bytes_at s c)

-- it lies in s
abbrev pub SpanIn : List ℕ → Option Span → Type 0
SpanIn s None = Unit {0}
SpanIn s (Some c) = (c.start.0 ≤ c.end.0) × (c.end.0 ≤ length s)

-- n entries of a block at a position, behind the value `before`, where the value `due` is due: where they end, and the last value
abbrev pub BlockEntriesAt : ℕ → ℕ → Option Span → Option Span → List ℕ → ℕ → Result BlockEntries Refusal → Type 0
BlockEntriesAt t n before due s at (Err r) =
    (es : List Entry) (f : AfterBlock) → entries_version_two t n (cell_at s before) (cell_at s due) es (drop at s) f ≡ Err r
BlockEntriesAt t n before due s at (Ok x) =
    ((new : List Entry) × ((es : List Entry) (f : AfterBlock)
    → entries_version_two t n (cell_at s before) (cell_at s due) es (drop at s) f ≡ f (cell_at s x.last) (es ++ new) (drop x.next.0 s))
    × (length new ≡ n) × ((more : List Entry) → EntriesFrom t true 0 (drop x.next.0 s) more → EntriesFrom t true n (drop at s) (new ++ more)))
    × (at ≤ x.next.0) × (x.next.0 ≤ length s) × SpanIn s x.last

-- the block at p, whose listing stands at q: where both end, its last value, and its number of entries
abbrev pub BlockAt : ℕ → Option Span → List ℕ → ℕ → ℕ → ℕ → Result Block Refusal → Type 0
BlockAt t before s base q p (Err r) =
    (d : Listing) (ds : List Listing) → ListingsFrom t (drop q s) (d ∷ ds)
    → (es : List Entry) (f : AfterEntries) → blocks_of t (d ∷ ds) (drop base s) (cell_at s before) es (drop p s) f ≡ Err r
BlockAt t before s base q p (Ok x) =
    ((d : Listing) (ds : List Listing) → ListingsFrom t (drop q s) (d ∷ ds) → ListingsFrom t (drop x.listing.0 s) ds
    × ((new : List Entry) × ((es : List Entry) (f : AfterEntries)
    → blocks_of t (d ∷ ds) (drop base s) (cell_at s before) es (drop p s) f
    ≡ blocks_of t ds (drop base s) (cell_at s x.entries.last) (es ++ new) (drop x.entries.next.0 s) f)
    × (length new ≡ x.number)
    × ((more : List Entry) → EntriesFrom t true 0 (drop x.entries.next.0 s) more → EntriesFrom t true 0 (drop p s) (new ++ more))))
    × (p ≤ x.entries.next.0) × (x.entries.next.0 ≤ length s) × SpanIn s x.entries.last × (x.number < sign_bit)

-- b blocks from base on, whose directory stands at dir: where the last ends, and the number of entries in all
abbrev pub BlocksAt : ℕ → ℕ → List ℕ → ℕ → ℕ → Result Blocks Refusal → Type 0
BlocksAt t b s dir base (Err r) =
    (ds : List Listing) → DirectoryFrom t b (drop dir s) ds
    → (f : AfterEntries) → blocks_of t ds (drop base s) null [] (drop base s) f ≡ Err r
BlocksAt t b s dir base (Ok x) =
    ((ds : List Listing) → DirectoryFrom t b (drop dir s) ds
    → (es : List Entry) × ((f : AfterEntries) → blocks_of t ds (drop base s) null [] (drop base s) f ≡ f es (drop x.next.0 s))
    × (length es ≡ x.sum) × EntriesFrom t true 0 (drop base s) es)
    × (base ≤ x.next.0) × (x.next.0 ≤ length s)

-- the n entries of either version at a position: the cursor before the first, and where the region of bitmaps begins
abbrev pub AllEntriesAt : Bool → ℕ → ℕ → List ℕ → ℕ → Result AllEntries Refusal → Type 0
AllEntriesAt version2 t n s at (Err r) = (rows : ℕ) (ns : List Entry) → entries_of version2 t rows n ns (drop at s) ≡ Err r
AllEntriesAt version2 t n s at (Ok x) =
    (es : List Entry)
    × ((rows : ℕ) (ns : List Entry) → entries_of version2 t rows n ns (drop at s) ≡ Ok (record { rows = rows; entries = ns ++ es; region = drop x.region.0 s }))
    × (length es ≡ n) × EntriesAt t version2 s x.first es × (x.first.left ≡ cond version2 0 n) × (x.first.at.0 ≤ length s) × (x.region.0 ≤ length s)

-- a table with no value yet, for n values of s
pub record Tabling (n : ℕ) (s table : List ℕ) : Type 0 where
  pub short : length s ≤ limit
  pub few : n ≤ most_values1
  pub empty : Holds s table []
  pub room : slot most_values1 ≤ length table
