-- What a writer may lay out for a column. His choices: the version, the order of entries where it is free, the cuts into blocks, a single
-- row by offset (any length beside it) or by bitmap, a bitmap's form and place, its extent or -1, unused bytes, has-null with no null rows, values of no row.
use Rattle.std.specs.Prelude.{◌≡◌, ◌⊎◌, ℕ, ◌+◌, ◌-◌, ◌≤◌, ◌<◌, true, cond, List, [], ◌∷◌, ◌++◌, length}
use Rattle.numbers.specs.Meaning.{All, joined, minus_one_32, sign_bit, four_bytes}
use Rattle.refusal.specs.Meaning.{limit}
use Rattle.roaring.specs.Layout.{Bitmap}
use Rattle.stored_value.specs.Meaning.{Cell, null, same_cell}
use Rattle.dictionary.specs.Layout.{Entry, NullOnly, some_has, Distinct, NoExtents, body1, Rises, NoneEmpty, body2, most_values1, most_values2, most_blocks}
use Rattle.bitmap_index.specs.Meaning.{Column}

-- the rows, from r on, whose cell is c
abbrev pub rows_with : Cell → ℕ → List Cell → List ℕ
rows_with c r [] = []
rows_with c r (d ∷ cells) = cond (same_cell c d) (r ∷ rows_with c (r + 1) cells) (rows_with c (r + 1) cells)

-- ---- where an entry's rows are: -1 less the single row, whatever its extent; or where a bitmap begins in the region of bitmaps, anything before and
-- behind it, its extent -1 or exactly its length

pub data EntryRows (region rows : List ℕ) (e : Entry) : Type 0 where
  single : (r : ℕ) → rows ≡ r ∷ [] → r < sign_bit → e.offset ≡ minus_one_32 - r → e.extent < four_bytes → EntryRows region rows e
  bitmap : (before bytes behind : List ℕ) → region ≡ before ++ (bytes ++ behind) → Bitmap rows bytes → e.offset ≡ length before
      → (e.extent ≡ minus_one_32) ⊎ (e.extent ≡ length bytes) → EntryRows region rows e

-- each entry has exactly the rows of its cell
abbrev pub ExactRows : List ℕ → List Cell → List Entry → Type 0
ExactRows region cells es = All (λ (e : Entry). EntryRows region (rows_with e.cell 0 cells) e) es

-- an entry for each of the column's cells (has-null 0: no null rows)
abbrev pub Covers : List Entry → List Cell → Type 0
Covers es cells = All (λ (c : Cell). some_has c es ≡ true) cells

-- ---- "A body is the column's if, read as its type, it keeps all rules of body and Roaring form and has its row count", within the limits. That the region's
-- numbers are bytes is not asked: a body is a buffer's, and so all bytes

-- "an entry for each of its values, for each entry exactly the rows of that value, and for null the null rows (has-null 0: none)"; null has at most one entry
pub record ColumnEntries (cells : List Cell) (region : List ℕ) (nulls es : List Entry) : Type 0 where
  pub null_only : NullOnly nulls
  pub rows : ExactRows region cells (nulls ++ es)
  pub covers : Covers (nulls ++ es) cells

pub data ColumnBody (t : ℕ) (cells : List Cell) : List ℕ → Type 0 where
  version1 : (nulls es : List Entry) (region : List ℕ) → Column t cells → ColumnEntries cells region nulls es → NoExtents (nulls ++ es) → Distinct t es
      → length cells ≤ limit → length es ≤ most_values1 → length (body1 (length cells) nulls es region) ≤ limit
      → ColumnBody t cells (body1 (length cells) nulls es region)
  version2 : (nulls : List Entry) (bs : List (List Entry)) (region : List ℕ) → Column t cells → ColumnEntries cells region nulls (joined bs) → NoneEmpty bs → Rises t null (joined bs)
      → length cells ≤ limit → length (joined bs) ≤ most_values2 → length bs ≤ most_blocks → length (body2 (length cells) nulls bs region) ≤ limit
      → ColumnBody t cells (body2 (length cells) nulls bs region)
