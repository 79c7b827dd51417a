-- The bytes of a body's dictionary and what lies behind it: entries, null's and each value's, in either version. The writer's choices
-- are the order of entries where it is free, and the cuts into blocks. `region` is where the bitmaps stand. That offsets and extents are 32-bit patterns
-- follows from where bitmaps may stand (bitmap_index) and the body's limit.
use Rattle.std.specs.Prelude.{◌≡◌, ℕ, ◌+◌, ◌≤◌, ◌<◌, Bool, true, false, ◌||◌, List, [], ◌∷◌, ◌++◌, length}
use Rattle.numbers.specs.Meaning.{All, joined, be, minus_one_32, four_bytes}
use Rattle.stored_value.specs.Meaning.{Cell, null, value, Value, same_cell, less}

-- a stored cell, null's or a value's, with the two numbers that say where its rows are: an offset into the region, or the one row itself, and how many bytes the bitmap has
pub record Entry : Type 0 where
  pub cell : Cell
  pub offset : ℕ
  pub extent : ℕ

-- ---- limits: the value number of each version, and the block number

abbrev pub most_values1 : ℕ
most_values1 = 4096

abbrev pub most_values2 : ℕ
most_values2 = 65536

abbrev pub most_blocks : ℕ
most_blocks = 65536

-- ---- entries

-- a value of type t
abbrev pub Valued : ℕ → Cell → Type 0
Valued t null = ⊥
Valued t (value v) = Value t v

-- null's entry, if there is one
abbrev pub NullOnly : List Entry → Type 0
NullOnly [] = Unit {0}
NullOnly (e ∷ es) = (e.cell ≡ null) × (es ≡ [])

-- both numbers of each entry are 32-bit patterns
abbrev pub Patterns : List Entry → Type 0
Patterns [] = Unit {0}
Patterns (e ∷ es) = (e.offset < four_bytes) × (e.extent < four_bytes) × Patterns es

abbrev pub some_has : Cell → List Entry → Bool
some_has c [] = false
some_has c (e ∷ es) = same_cell c e.cell || some_has c es

-- ---- version 1: values distinct, in any order; each with its offset, and no extent: as long as its bitmap is

abbrev pub Distinct : ℕ → List Entry → Type 0
Distinct t [] = Unit {0}
Distinct t (e ∷ es) = Valued t e.cell × (some_has e.cell es ≡ false) × Distinct t es

abbrev pub NoExtents : List Entry → Type 0
NoExtents es = All (λ (e : Entry). e.extent ≡ minus_one_32) es

abbrev pub value_bytes : Cell → List ℕ
value_bytes null = []
value_bytes (value v) = v

abbrev pub entries1 : List Entry → List ℕ
entries1 [] = []
entries1 (e ∷ es) = value_bytes e.cell ++ (be 4 e.offset ++ entries1 es)

abbrev pub has_null_byte : List Entry → ℕ
has_null_byte [] = 0
has_null_byte (e ∷ es) = 1

abbrev pub null1 : List Entry → List ℕ
null1 [] = []
null1 (e ∷ es) = be 4 e.offset

abbrev pub body1 : ℕ → List Entry → List Entry → List ℕ → List ℕ
body1 n nulls es region = 1 ∷ (be 4 n ++ (be 4 (length es) ++ (has_null_byte nulls ∷ (null1 nulls ++ (entries1 es ++ region)))))

-- ---- version 2: values rise strictly through all blocks; each with its offset and extent

abbrev pub first : List Entry → Cell
first [] = null
first (e ∷ es) = e.cell

-- values rise, the first past `before`, if that is a value
abbrev pub Past : ℕ → Cell → Cell → Type 0
Past t (value v) (value w) = less t v w ≡ true
Past t (value v) null = ⊥
Past t null c = Unit {0}

abbrev pub Rises : ℕ → Cell → List Entry → Type 0
Rises t before [] = Unit {0}
Rises t before (e ∷ es) = Valued t e.cell × Past t before e.cell × Rises t e.cell es

-- the blocks are cut as the writer likes, none of them empty
abbrev pub NoneEmpty : List (List Entry) → Type 0
NoneEmpty bs = All (λ (b : List Entry). 1 ≤ length b) bs

abbrev pub entries2 : List Entry → List ℕ
entries2 [] = []
entries2 (e ∷ es) = value_bytes e.cell ++ (be 4 e.offset ++ (be 4 e.extent ++ entries2 es))

abbrev pub block : List Entry → List ℕ
block es = be 4 (length es) ++ entries2 es

abbrev pub blocks : List (List Entry) → List ℕ
blocks [] = []
blocks (b ∷ bs) = block b ++ blocks bs

-- each block's first value, and where the block begins, counted from the byte after the directory and the body offset
abbrev pub directory : ℕ → List (List Entry) → List ℕ
directory at [] = []
directory at (b ∷ bs) = value_bytes (first b) ++ (be 4 at ++ directory (at + length (block b)) bs)

abbrev pub null2 : List Entry → List ℕ
null2 [] = []
null2 (e ∷ es) = be 4 e.offset ++ be 4 e.extent

abbrev pub body2 : ℕ → List Entry → List (List Entry) → List ℕ → List ℕ
body2 n nulls bs region =
    2 ∷ (be 4 n ++ (be 4 (length (joined bs)) ++ (has_null_byte nulls ∷ (null2 nulls ++ (be 4 (length bs)
    ++ (directory 0 bs ++ (be 4 (length (blocks bs)) ++ (blocks bs ++ region))))))))
