-- What a dictionary's layout and its reading have to do with each other. proofs/Theorems proves each claim.
use Rattle.std.specs.Prelude.{◌≡◌, ℕ, ◌≤◌, ◌<◌, false, List, [], ◌∷◌, ◌++◌, length, Err, Ok}
use Rattle.numbers.specs.Meaning.{joined, Bytes}
use Rattle.refusal.specs.Meaning.{limit}
use Rattle.refusal.specs.declared.Refusal.TheVariants.{Version, Literal}
use Rattle.stored_value.specs.Meaning.{types, null}
use Rattle.dictionary.specs.Layout.{Entry, most_values1, most_values2, most_blocks, Patterns, NullOnly, some_has, Distinct, NoExtents, body1, Rises, NoneEmpty, body2}
use Rattle.dictionary.specs.Reading.{Dictionary, dictionary}

-- the bytes s are laid out for the dictionary d, in one of the versions
pub data LaidOut (t : ℕ) (s : List ℕ) (d : Dictionary) : Type 0 where
  in_one : (rows : ℕ) (nulls es : List Entry) (region : List ℕ) → Distinct t es → NullOnly nulls → NoExtents (nulls ++ es) → Patterns (nulls ++ es)
      → rows ≤ limit → length es ≤ most_values1 → d ≡ record { rows = rows; entries = nulls ++ es; region = region } → s ≡ body1 rows nulls es region
      → LaidOut t s d
  in_two : (rows : ℕ) (nulls : List Entry) (bs : List (List Entry)) (region : List ℕ) → NullOnly nulls → NoneEmpty bs → Rises t null (joined bs)
      → Patterns (nulls ++ joined bs) → rows ≤ limit → length (joined bs) ≤ most_values2 → length bs ≤ most_blocks → length (body2 rows nulls bs region) ≤ limit
      → d ≡ record { rows = rows; entries = nulls ++ joined bs; region = region } → s ≡ body2 rows nulls bs region → LaidOut t s d

-- 1. A dictionary that is laid out is read: as its rows and its entries, null's first, with what lies behind it left over.
abbrev pub LaidOutIsRead : Type 0
LaidOutIsRead = (t : ℕ) (s : List ℕ) (d : Dictionary) → t < types → LaidOut t s d → dictionary t s ≡ Ok d

-- 2. Bytes that are read were laid out, for the rows and the entries that were read, and the type is known.
abbrev pub ReadIsLaidOut : Type 0
ReadIsLaidOut = (t : ℕ) (s : List ℕ) (d : Dictionary) → Bytes s → length s ≤ limit → dictionary t s ≡ Ok d → (t < types) × LaidOut t s d

-- 3. An unknown type is refused, whatever the bytes; and a body whose first byte is neither 1 nor 2 is refused for its version, whatever follows.
abbrev pub UnknownTypeIsRefused : Type 0
UnknownTypeIsRefused = (t : ℕ) (s : List ℕ) → types ≤ t → dictionary t s ≡ Err Literal

abbrev pub UnknownVersionIsRefused : Type 0
UnknownVersionIsRefused = (t v : ℕ) (s : List ℕ) → t < types → (v ≡ 1 → ⊥) → (v ≡ 2 → ⊥) → dictionary t (v ∷ s) ≡ Err Version

-- 4. Each cell stands once among the entries.
abbrev pub Once : List Entry → Type 0
Once [] = Unit {0}
Once (e ∷ es) = (some_has e.cell es ≡ false) × Once es

abbrev pub EachStandsOnce : Type 0
EachStandsOnce = (t : ℕ) (s : List ℕ) (d : Dictionary) → LaidOut t s d → Once d.entries

-- 5. What lies behind the dictionary is bytes too.
abbrev pub RegionIsBytes : Type 0
RegionIsBytes = (t : ℕ) (s : List ℕ) (d : Dictionary) → Bytes s → LaidOut t s d → Bytes d.region
